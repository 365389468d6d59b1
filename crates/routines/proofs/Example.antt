-- The premises can be met: document 01's worked example meets them. And 199 + 1 is 200, there and wherever the bytes lie.
-- Assumes nothing.
use Prim.Native.Nat.{ℕ, zero, suc, ◌+◌, ◌-◌, ◌*◌, ◌<◌, ◌≤◌}
use mathlib.Core.List.{List, [], ◌∷◌, ◌++◌}
use mathlib.Core.Logic.{inr, ◌≢◌}
use mathlib.Core.Path.{◌≡◌, refl, ◌∙◌, ap}
use native.Mathlib.Nat.{add-zero}
use native.Mathlib.Omega.{arith}
use lib.Dec.{lit<, lit≤}
use lib.ListN.{length, get_or, length-append, length-replicate, get_or-append}
use lib.Seq.{get_or-append-add}
use Rattle.arith.specs.Width.{sum_of}
use Rattle.arith.specs.Words.{word_of, high_of, low_of, further}
use Rattle.machine.specs.State.{cpu_of}
use Rattle.machine.specs.Memory.{memory_size, Memory, byte_at, word_at}
use Rattle.machine.specs.Run.{ending}
use Rattle.machine.specs.declared.Cpu.{Cpu}
use Rattle.routines.specs.Decimals.{Decimal, worth, num}
use Rattle.routines.specs.Premises.{Outside, Given}
use Rattle.routines.specs.Adding.{adding_routine}
use Rattle.routines.specs.Example.{Piece, piece, zeros, laid, worked_memory, worked_cpu, printed_cpu, Worked, TwoHundred}
use Rattle.routines.proofs.Fields.{num_zero, num_suc}
use Rattle.routines.proofs.Adding.{adding, run_adds}

-- a memory laid out in pieces, read without writing it out

zeros_length : (k : ℕ) → length (zeros k) ≡ k
unfolding zeros
zeros_length k = length-replicate k 0

-- past the first of two parts
past : (xs ys : List ℕ) (x y : ℕ) → x ≡ length xs + y → get_or (xs ++ ys) x 0 ≡ get_or ys y 0
past xs ys x y e = rw e (get_or-append-add xs ys y 0)

-- the pieces lie in their order, from an address up, and none past the last byte
abbrev InOrder : ℕ → List Piece → Type 0
InOrder at [] = at ≤ 65536
InOrder at (p ∷ ps) = (at ≤ p.from) × InOrder (p.from + length p.bytes) ps

-- the k-th of them, and past the last one with no bytes at the end of the memory
abbrev piece_at : ℕ → List Piece → Piece
piece_at k ps = get_or ps k (piece 65536 [])

above : (at : ℕ) (ps : List Piece) → InOrder at ps → (k : ℕ) → at ≤ (piece_at k ps).from
above at [] o k = o
above at (p ∷ ps) o zero = o.0
above at (p ∷ ps) o (suc k) = omega (arith, o.0, above (p.from + length p.bytes) ps o.1 k)

laid_length : (at : ℕ) (ps : List Piece) → InOrder at ps → length (laid at ps) + at ≡ memory_size
unfolding laid
laid_length at [] o = rw zeros_length (omega arith)
laid_length at (p ∷ ps) o =
    rw (length-append, length-append, zeros_length) (omega (arith, o.0, laid_length (p.from + length p.bytes) ps o.1))

-- a byte of the k-th piece: x counts from `at`, and i from the piece's first byte
laid_at : (at : ℕ) (ps : List Piece) → InOrder at ps → (k x i : ℕ) → x + at ≡ (piece_at k ps).from + i → i < length (piece_at k ps).bytes
    → byte_at (laid at ps) x ≡ get_or (piece_at k ps).bytes i 0
unfolding laid byte_at
laid_at at [] o k x i e l = absurd (omega arith)
laid_at at (p ∷ ps) o zero x i e l =
    past (zeros (p.from - at)) _ x i (omega (arith, o.0, zeros_length (p.from - at)))
    ∙ get_or-append p.bytes _ 0 i l
laid_at at (p ∷ ps) o (suc k) x i e l =
    let end = p.from + length p.bytes in
    let y = (piece_at k ps).from - end + i in
    past (zeros (p.from - at)) _ x (length p.bytes + y)
    (omega (arith, o.0, above end ps o.1 k, zeros_length (p.from - at)))
    ∙ past p.bytes _ (length p.bytes + y) y refl
    ∙ laid_at end ps o.1 k y i (omega (arith, above end ps o.1 k)) l

-- the worked example's memory: the routine, the two numbers, the return address
abbrev pieces : List Piece
pieces =
    piece 0x0150 adding_routine
    ∷ piece 0xC000 (0x99 ∷ 0x01 ∷ [])
    ∷ piece 0xC100 (0x01 ∷ 0x00 ∷ [])
    ∷ piece 0xDFFE (0x34 ∷ 0x12 ∷ [])
    ∷ []

in_order : InOrder 0 pieces
in_order = omega arith

worked_length : length worked_memory ≡ memory_size
unfolding worked_memory
worked_length = omega (arith, laid_length 0 pieces in_order)

worked_at : (k i : ℕ) → i < length (piece_at k pieces).bytes
    → byte_at worked_memory ((piece_at k pieces).from + i) ≡ get_or (piece_at k pieces).bytes i 0
unfolding worked_memory
worked_at k i = laid_at 0 pieces in_order k _ i (omega arith)

-- where two bytes have digits 0 to 9, so has each of the two
two_digits : (x y : ℕ) → Decimal x → Decimal y → (i : ℕ) → i < 2 → Decimal (get_or (x ∷ y ∷ []) i 0)
two_digits x y a b zero h = a
two_digits x y a b (suc zero) h = b
two_digits x y a b (suc (suc i)) h = absurd (omega arith)

-- the premises are met
pub met : Given adding_routine 2 worked_cpu worked_memory 0xC000 0xC100
unfolding word_of further sum_of
met =
    record {
      n_least = lit≤ tt;
      n_most = lit≤ tt;
      memory = worked_length;
      hl = refl;
      de = refl;
      b = refl;
      pc = worked_at 0;
      mode = refl;
      ime = refl;
      f = refl;
      routine_fits = lit≤ tt;
      dst_fits = lit≤ tt;
      src_fits = lit≤ tt;
      dst_clear = omega arith;
      src_clear = omega arith;
      fields = inr (omega arith);
      dst_digits = λ i h. rw (worked_at 1 i h) (two_digits 0x99 0x01 (omega arith) (omega arith) i h);
      src_digits = λ i h. rw (worked_at 2 i h) (two_digits 0x01 0x00 (omega arith) (omega arith) i h);
      stack_low = omega arith;
      stack_high = omega arith;
    }

-- 199 + 1 is 200
num_two : (m : Memory) (at : ℕ) → num m at 2 ≡ worth (byte_at m at) + 100 * worth (byte_at m (at + 1))
num_two m at = rw (num_suc m at 1, num_suc m (at + 1) 0, num_zero) (omega arith)

only_200 : (x y : ℕ) → Decimal x → Decimal y → worth x + 100 * worth y ≡ 200 → (x ≡ 0x00) × (y ≡ 0x02)
only_200 x y v w e = omega arith

pub two_hundred : {s : Cpu} {m : Memory} {dst src : ℕ} → Given adding_routine 2 s m dst src
    → byte_at m dst ≡ 0x99 → byte_at m (dst + 1) ≡ 0x01 → byte_at m src ≡ 0x01 → byte_at m (src + 1) ≡ 0x00
    → TwoHundred s m dst src
two_hundred {s} {m} {dst} {src} g d₀ d₁ s₀ s₁ =
    let t = adding g in
    let n : num m dst 2 ≡ 199 = rw (num_two, d₀, d₁) in
    let k : num m src 2 ≡ 1 = rw (num_two, s₀, s₁) in
    let e : num t.mem dst 2 ≡ 200 = t.sum ∙ rw (n, k) in
    let low = rw add-zero at (t.digits 0 (lit< tt)) in
    let b = only_200 (byte_at t.mem dst) (byte_at t.mem (dst + 1)) low (t.digits 1 (lit< tt)) (rw num_two at e) in
    record { sum = t; low = b.0; high = b.1; flags = t.f ∙ rw (n, k) }

-- the document's line
worked_sum : TwoHundred worked_cpu worked_memory 0xC000 0xC100
worked_sum =
    two_hundred met (worked_at 1 0 (lit< tt)) (worked_at 1 1 (lit< tt)) (worked_at 2 0 (lit< tt)) (worked_at 2 1 (lit< tt))

worked_return : word_at worked_memory 0xDFFE ≡ 0x1234
unfolding word_at word_of further sum_of
worked_return = rw (worked_at 3 0 (lit< tt), worked_at 3 1 (lit< tt))

worked_cpu_lem : worked_sum.sum.cpu ≡ printed_cpu
unfolding high_of low_of further sum_of
worked_cpu_lem =
    let t = worked_sum.sum in
    let a = t.a ∙ worked_sum.high in
    let pc = t.pc ∙ worked_return in
    λ i.
    cpu_of (a i) (worked_sum.flags i) (t.b i) (t.c i) (t.d i) (t.e i) (t.h i) (t.l i) (t.sp i) (pc i) (t.ime i)
    (t.mode i)

other : (at : ℕ) → at ≢ 0xC000 → at ≢ 0xC001 → Outside at 0xC000 2
other at a b zero h = a
other at a b (suc zero) h = b
other at a b (suc (suc j)) h = absurd (omega arith)

pub worked : Worked
worked =
    let t = worked_sum.sum in
    record {
      mem = t.mem;
      line = run_adds met t ∙ ap (λ (c : Cpu). ending 0 30 16 c t.mem) worked_cpu_lem;
      low = worked_sum.low;
      high = worked_sum.high;
      kept = λ at a b. t.kept at (other at a b);
    }

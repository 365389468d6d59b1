-- The routine and the two fields in memory, as a loop over their bytes needs them, and what a store at the destination's first
-- byte leaves of them: the same, one byte further.
-- Assumes nothing.
use Prim.Native.Nat.{ℕ, zero, suc, ◌+◌, ◌*◌, ◌^◌, ◌<◌, ◌≤◌}
use mathlib.Core.List.{List}
use mathlib.Core.Logic.{◌⊎◌, inl, inr, ◌≢◌}
use mathlib.Core.Path.{◌≡◌, refl, ◌∙◌}
use native.Mathlib.Nat.{add-zero, pow-succ'}
use native.Mathlib.Omega.{arith}
use lib.Dec.{lit<}
use lib.ListN.{length, get_or}
use Rattle.machine.specs.Memory.{memory_size, Memory, byte_at, stored}
use Rattle.machine.specs.declared.Cpu.{Cpu}
use Rattle.machine.proofs.ReadOverWrite.{stored_length, stored_same, stored_other}
use Rattle.routines.specs.Decimals.{Decimal, worth, Digits, num}
use Rattle.routines.specs.Premises.{Apart, Outside, Given}

-- numbers

-- the byte i + 1 of a field, from its first byte and from its second
pub one_on : (at i : ℕ) → at + 1 + i ≡ at + suc i
one_on at i = omega arith

pub num_zero : (m : Memory) (at : ℕ) → num m at 0 ≡ 0
unfolding num
num_zero m at = refl

pub num_suc : (m : Memory) (at n : ℕ) → num m at (suc n) ≡ worth (byte_at m at) + 100 * num m (at + 1) n
unfolding num
num_suc m at n = refl

-- a number is what its bytes are
pub num_same : (m m' : Memory) (at n : ℕ) → ((i : ℕ) → i < n → byte_at m' (at + i) ≡ byte_at m (at + i))
    → num m' at n ≡ num m at n
unfolding num
num_same m m' at zero h = refl
num_same m m' at (suc n) h =
    let rest = num_same m m' (at + 1) n (λ i p. rw one_on (h (suc i) (omega arith))) in
    rw (rw add-zero at (h 0 (omega arith)), rest)

-- and n bytes of digits hold less than 100 to the power n
more_below : (x N P : ℕ) → Decimal x → N < P → worth x + 100 * N < 100 * P
more_below x N P d h = omega arith

pub num_below : (m : Memory) (at n : ℕ) → Digits m at n → num m at n < 100 ^ n
num_below m at zero d = rw num_zero (lit< tt)
num_below m at (suc n) d =
    let rest = num_below m (at + 1) n (λ i p. rw one_on (d (suc i) (omega arith))) in
    rw (num_suc, pow-succ') (more_below (byte_at m at) _ _ (rw add-zero at (d 0 (omega arith))) rest)

-- the routine at p, and n bytes of the two fields still to be done
pub record Standing (routine : List ℕ) (p n : ℕ) (m : Memory) (dst src : ℕ) : Type 0 where
  pub size : length m ≡ memory_size
  pub code : (i : ℕ) → i < length routine → byte_at m (p + i) ≡ get_or routine i 0
  pub dst_fits : dst + n ≤ 65536
  pub src_fits : src + n ≤ 65536
  pub clear : Apart p (length routine) dst n
  -- no byte of the source is stored to before it is read
  pub ahead : (i j : ℕ) → j < i → i < n → src + i ≢ dst + j
  pub dst_digits : Digits m dst n
  pub src_digits : Digits m src n

-- the premises give it, and the two ways in which the fields may lie are one: no byte of the source is stored to before it is read
module _ {routine : List ℕ} {n : ℕ} {s : Cpu} {m : Memory} {dst src : ℕ} (g : Given routine n s m dst src) where
  not_before : (src ≡ dst) ⊎ Apart src n dst n → (i j : ℕ) → j < i → i < n → src + i ≢ dst + j
  not_before (inl same) i j p q = omega arith
  not_before (inr apart) i j p q = apart i j q (omega arith)

  pub standing : Standing routine s.pc n m dst src
  standing =
      record {
        size = g.memory;
        code = g.pc;
        dst_fits = omega arith;
        src_fits = omega arith;
        clear = g.dst_clear;
        ahead = not_before g.fields;
        dst_digits = g.dst_digits;
        src_digits = g.src_digits;
      }

-- n bytes of a destination filled with digits, and nothing else touched
pub record Filled (n : ℕ) (m mem : Memory) (dst : ℕ) : Type 0 where
  pub digits : Digits mem dst n
  pub kept : (at : ℕ) → Outside at dst n → byte_at mem at ≡ byte_at m at
  pub size : length mem ≡ length m

pub filled_none : (m : Memory) (dst : ℕ) → Filled 0 m m dst
filled_none m dst = record { digits = λ i h. absurd (omega arith); kept = λ at h. refl; size = refl }

module _ {routine : List ℕ} {p n : ℕ} {m : Memory} {dst src : ℕ} (y : Standing routine p (suc n) m dst src) where
  pub dst_within : dst < length m
  dst_within = omega arith

  pub dst_first : Decimal (byte_at m dst)
  dst_first = rw add-zero at (y.dst_digits 0 (omega arith))

  pub src_first : Decimal (byte_at m src)
  src_first = rw add-zero at (y.src_digits 0 (omega arith))

  -- what a byte stored at the destination's first place leaves
  module _ (v : ℕ) where
    code_kept : (i : ℕ) → i < length routine → byte_at (stored m dst v) (p + i) ≡ get_or routine i 0
    code_kept i h =
        stored_other m dst v (p + i) (omega (arith, y.clear i 0 h (omega arith))) ∙ y.code i h

    rest_of_dst : (i : ℕ) → byte_at (stored m dst v) (dst + 1 + i) ≡ byte_at m (dst + 1 + i)
    rest_of_dst i = stored_other m dst v _ (omega arith)

    rest_of_src : (i : ℕ) → i < n → byte_at (stored m dst v) (src + 1 + i) ≡ byte_at m (src + 1 + i)
    rest_of_src i h = stored_other m dst v _ (omega (arith, y.ahead (suc i) 0 (omega arith) (omega arith)))

    pub onward : Standing routine p n (stored m dst v) (dst + 1) (src + 1)
    onward =
        record {
          size = stored_length m dst v ∙ y.size;
          code = code_kept;
          dst_fits = omega arith;
          src_fits = omega arith;
          clear = λ i j a b. omega (arith, y.clear i (suc j) a (omega arith));
          ahead = λ i j a b. omega (arith, y.ahead (suc i) (suc j) (omega arith) (omega arith));
          dst_digits = λ i h. rw (rest_of_dst i, one_on) (y.dst_digits (suc i) (omega arith));
          src_digits = λ i h. rw (rest_of_src i h, one_on) (y.src_digits (suc i) (omega arith));
        }

    pub dst_number : num (stored m dst v) (dst + 1) n ≡ num m (dst + 1) n
    dst_number = num_same m (stored m dst v) (dst + 1) n (λ i h. rest_of_dst i)

    pub src_number : num (stored m dst v) (src + 1) n ≡ num m (src + 1) n
    src_number = num_same m (stored m dst v) (src + 1) n rest_of_src

    -- with the rest filled, the whole is
    module _ {mem : Memory} (w : Filled n (stored m dst v) mem (dst + 1)) where
      pub filled_first : byte_at mem dst ≡ v
      filled_first = w.kept dst (λ j h. omega arith) ∙ stored_same m dst v dst_within

      all_digits : Decimal v → Digits mem dst (suc n)
      all_digits d zero h = rw (add-zero, filled_first) d
      all_digits d (suc i) h = rw one_on at (w.digits i (omega arith))

      pub filled_more : Decimal v → Filled (suc n) m mem dst
      filled_more d =
          record {
            digits = all_digits d;
            kept = λ at h.
                w.kept at (λ j p. omega (arith, h (suc j) (omega arith)))
                ∙ stored_other m dst v at (omega (arith, h 0 (omega arith)));
            size = w.size ∙ stored_length m dst v;
          }

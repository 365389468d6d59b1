-- The adding routine's loop, by induction over the bytes that are left: as many turns as the numbers have bytes, from LD A,[DE] to
-- RET. The sum is an equation between numbers, with what the last carry is worth.
-- Assumes nothing.
use Prim.Native.Nat.{ℕ, zero, suc, ◌+◌, ◌*◌, ◌%◌, ◌^◌, ◌<◌, ◌≤◌}
use mathlib.Core.Bool.{Bool}
use mathlib.Core.Logic.{◌≢◌}
use mathlib.Core.Path.{◌≡◌, ◌∙◌}
use native.Mathlib.Nat.{add-zero, pow-succ'}
use native.Mathlib.Omega.{arith}
use Rattle.arith.specs.Width.{one_if}
use Rattle.arith.specs.Flags.{c_of}
use Rattle.arith.specs.Bytes.{decreased_of}
use Rattle.arith.specs.Words.{word_of}
use Rattle.arith.proofs.Laws.{decreased_fits}
use Rattle.machine.specs.Memory.{Memory, byte_at, stored}
use Rattle.machine.specs.declared.Cpu.{Cpu}
use Rattle.routines.specs.Decimals.{worth, num}
use Rattle.routines.specs.Adding.{adding_routine}
use Rattle.routines.proofs.Stepping.{Takes, recount, ◌then◌}
use Rattle.routines.proofs.Opcodes.{running}
use Rattle.routines.proofs.Registers.{word_next, further_next, decreased_c, decreased_count}
use Rattle.routines.proofs.Digits.{sum_decimal, sum_worth, more_digits}
use Rattle.routines.proofs.Fields.{one_on, num_zero, num_suc, Standing, dst_first, src_first, onward, dst_number, src_number, Filled, filled_none, filled_first, filled_more}
use Rattle.routines.proofs.Tail.{between, finished}
use Rattle.routines.proofs.Turn.{turned, turn_last, turn_on}

-- n bytes of `mem` are the sum of n bytes of m and n more, with the carry k that came in, up to what the carry `over` is worth
pub record Sum (n : ℕ) (m mem : Memory) (dst src : ℕ) (k over : Bool) : Type 0 where
  pub filled : Filled n m mem dst
  pub number : num mem dst n + 100 ^ n * one_if over ≡ num m dst n + num m src n + one_if k

sum_none : (m : Memory) (dst src : ℕ) (k : Bool) → Sum 0 m m dst src k k
sum_none m dst src k = record { filled = filled_none m dst; number = rw (num_zero m dst, num_zero m src) (omega arith) }

module _ {p n : ℕ} {m : Memory} {dst src : ℕ} (y : Standing adding_routine p (suc n) m dst src) (f : ℕ) where
  sum_more : {mem : Memory} {over : Bool}
      → Sum n (stored m dst (turned m dst src f).value) mem (dst + 1) (src + 1) (c_of (turned m dst src f).flags) over
      → Sum (suc n) m mem dst src (c_of f) over
  sum_more {mem} w =
      let v = (turned m dst src f).value in
      let x = byte_at m dst in
      let z = byte_at m src in
      let e : worth v + 100 * one_if (c_of (turned m dst src f).flags) ≡ worth x + worth z + one_if (c_of f) =
      omega (arith, sum_worth z x (c_of f) (src_first y) (dst_first y)) in
      let g = rw (dst_number y v, src_number y v) at w.number in
      record {
        filled = filled_more y v w.filled (sum_decimal z x (c_of f) (src_first y) (dst_first y));
        number =
            rw (num_suc mem, num_suc m dst, num_suc m src, filled_first y v w.filled, pow-succ')
            (more_digits (worth v) (worth x) (worth z) _ _ _ _ _ _ _ e g);
      }

-- r + 1 bytes done, from a state at LD A,[DE] to RET at `at`
pub record Looped (r : ℕ) (s : Cpu) (m : Memory) (dst src : ℕ) (k : Bool) (c sp at : ℕ) : Type 0 where
  pub mem : Memory
  pub over : Bool
  pub ran : Takes (7 * suc r) (13 * r + 12) s m (finished (byte_at mem (dst + r)) over c (suc r) dst src sp at) mem
  pub sum : Sum (suc r) m mem dst src k over

module _ {p : ℕ} (fits : p + 10 ≤ 65536) {m : Memory} {dst src a f b c d e h l sp : ℕ} (low : f % 16 ≡ 0) (de : word_of d e ≡ src)
    (hl : word_of h l ≡ dst) where
  loop_last : Standing adding_routine p 1 m dst src → b ≡ 1
      → Looped 0 (running a f b c d e h l sp (p + 1)) m dst src (c_of f) c sp (p + 9)
  loop_last y count =
      let v = (turned m dst src f).value in
      let k = c_of (turned m dst src f).flags in
      let none = sum_none (stored m dst v) (dst + 1) (src + 1) k in
      record {
        mem = stored m dst v;
        over = k;
        ran = rw (add-zero, filled_first y v none.filled) (turn_last y fits low de hl count);
        sum = sum_more y f none;
      }

  loop_more : {r : ℕ} → Standing adding_routine p (suc (suc r)) m dst src
      → (decreased_of b (turned m dst src f).flags).value ≢ 0
      → Looped r (between (turned m dst src f).value (turned m dst src f).flags b c dst src sp (p + 1))
      (stored m dst (turned m dst src f).value) (dst + 1) (src + 1) (c_of (decreased_of b (turned m dst src f).flags).flags) c sp (p + 9)
      → Looped (suc r) (running a f b c d e h l sp (p + 1)) m dst src (c_of f) c sp (p + 9)
  loop_more {r} y more t =
      let rest = rw (one_on dst r, further_next (suc r) src, further_next (suc r) dst) at t.ran in
      record {
        mem = t.mem;
        over = t.over;
        ran = recount (turn_on y fits low de hl more then rest) (omega arith) (omega arith);
        sum = sum_more y f (rw decreased_c at t.sum);
      }

-- n bytes are left, B counts them
pub loop : (r : ℕ) {p : ℕ} {m : Memory} {dst src a f b c d e h l sp : ℕ} → p + 10 ≤ 65536 → f % 16 ≡ 0 → word_of d e ≡ src
    → word_of h l ≡ dst → Standing adding_routine p (suc r) m dst src → r < 256 → b ≡ suc r % 256
    → Looped r (running a f b c d e h l sp (p + 1)) m dst src (c_of f) c sp (p + 9)
loop zero fits low de hl y most count = loop_last fits low de hl y count
loop (suc r) {p} {m} {dst} {src} {f = f} {b = b} fits low de hl y most count =
    let v = (turned m dst src f).value in
    let g = (turned m dst src f).flags in
    let left : (decreased_of b g).value ≡ suc r = rw count (decreased_count (suc r) g most) in
    loop_more fits low de hl y (omega arith)
    (loop r fits (decreased_fits b g).flags_low (word_next src (omega arith)) (word_next dst (omega arith)) (onward y v)
    (omega arith) (left ∙ omega arith))

-- One turn of the adding routine's loop: seven steps that store one byte of the sum.
-- Assumes nothing.
use Prim.Native.Nat.{ℕ, suc, ◌+◌, ◌%◌, ◌<◌, ◌≤◌}
use mathlib.Core.Logic.{◌≢◌}
use mathlib.Core.Path.{◌≡◌, refl}
use native.Mathlib.Omega.{arith}
use lib.Dec.{lit<}
use Rattle.arith.specs.Width.{difference_of}
use Rattle.arith.specs.Flags.{c_of}
use Rattle.arith.specs.Bytes.{added_of, alu_of, decreased_of}
use Rattle.arith.specs.Words.{word_of, offset_by, offset_of}
use Rattle.arith.proofs.Laws.{flags_low}
use Rattle.arith.specs.Flagged.{Byte}
use Rattle.machine.specs.Memory.{Memory, byte_at, stored}
use Rattle.routines.specs.Adding.{adding_routine}
use Rattle.routines.proofs.Stepping.{Takes, ◌then◌}
use Rattle.routines.proofs.Opcodes.{running, load_a_de, adc_a_hl, daa}
use Rattle.routines.proofs.Registers.{next}
use Rattle.routines.proofs.Digits.{adjusted, adjusted_low}
use Rattle.routines.proofs.Tail.{between, finished, Ends, tail_last, tail_on}
use Rattle.routines.proofs.Fields.{Standing}

-- JR's target
jumped : (p : ℕ) → p + 9 < 65536 → offset_of 0xF8 (p + 9) ≡ p + 1
unfolding offset_of offset_by difference_of
jumped p h = omega arith

-- the byte that a turn stores, with its F
abbrev pub turned : Memory → ℕ → ℕ → ℕ → Byte
turned m dst src f = adjusted (added_of (byte_at m src) (byte_at m dst) (c_of f))

-- the end of the turn in the routine
ends : Ends adding_routine 4 0xF8
ends = record { within = lit< tt; store = refl; inc = refl; dec = refl; jr = refl; offset = refl }

module _ {p r : ℕ} {m : Memory} {dst src : ℕ} (y : Standing adding_routine p (suc r) m dst src) (fits : p + 10 ≤ 65536)
    {a f b c d e h l sp : ℕ} (low : f % 16 ≡ 0) (de : word_of d e ≡ src) (hl : word_of h l ≡ dst) where
  -- three steps, up to LD [HLI],A
  summed : Takes 3 5 (running a f b c d e h l sp (p + 1)) m
      (running (turned m dst src f).value (turned m dst src f).flags b c d e h l sp (p + 4)) m
  unfolding alu_of added_of adjusted
  summed =
      load_a_de y.size low (next _ (p + 2) (omega arith)) (y.code 1 (lit< tt)) de
      then adc_a_hl y.size low (next _ (p + 3) (omega arith)) (y.code 2 (lit< tt)) hl
      then daa y.size (flags_low _ _ _ _) (next _ _ (omega arith)) (y.code 3 (lit< tt))

  -- the last byte
  pub turn_last : b ≡ 1 → Takes 7 12 (running a f b c d e h l sp (p + 1)) m
      (finished (turned m dst src f).value (c_of (turned m dst src f).flags) c 1 dst src sp (p + 9))
      (stored m dst (turned m dst src f).value)
  turn_last one = summed then tail_last ends y (omega arith) (adjusted_low _) de hl one

  -- a byte before the last
  pub turn_on : (decreased_of b (turned m dst src f).flags).value ≢ 0 → Takes 7 13 (running a f b c d e h l sp (p + 1)) m
      (between (turned m dst src f).value (turned m dst src f).flags b c dst src sp (p + 1))
      (stored m dst (turned m dst src f).value)
  turn_on more = summed then tail_on ends y (omega arith) (adjusted_low _) de hl more (jumped p (omega arith))

-- A line of spelling at an address: at fault, or its bytes. Document 02, M-103.
-- Assumes nothing.
use Rattle.std.specs.Prelude.{ℕ, Bool, true, false, ◌&&◌, List, eqb, leb}
use Rattle.arith.specs.Words.{back, further}
use Rattle.constants.specs.Answer.{found_of, found_if}
use Rattle.constants.specs.Answer.{Found}
use Rattle.constants.specs.Answer.{NoForm, Deep, Large, Above, Below}
use Rattle.spellings.specs.Outline.{outline_in, constant_in}
use Rattle.spellings.specs.Rows.{row_by, no_row, slot_at}
use Rattle.spellings.specs.Bytes.{bytes_of}
use Rattle.spellings.specs.declared.Slot.{Slot}
use Rattle.spellings.specs.declared.Slot.TheVariants.{Bare, N8, N16, High, E8, Target, U3, Vec}
use Rattle.assembler.specs.Ranges.{highest, lowest, number_in, reached}

-- what stands in the place of a row's constant; a row without one takes nothing there
unfoldable pub standing : Slot → List ℕ → Found
standing Bare t = Above 0
standing N8 t = found_of t
standing N16 t = found_of t
standing High t = found_of t
standing E8 t = found_of t
standing Target t = found_of t
standing U3 t = found_of t
standing Vec t = found_of t

-- a line is of a form where it has a row and what stands in the place of the row's constant is one
unfoldable pub found_in : List ℕ → Found
found_in line =
    found_if (eqb (row_by (outline_in line)) no_row) NoForm (standing (slot_at (row_by (outline_in line))) (constant_in line))

-- a line is at fault, by a refusal's number, or it has bytes
pub data Verdict : Type 0 where
  Fault : ℕ → Verdict
  Bytes : List ℕ → Verdict

unfoldable pub verdict_if : Bool → List ℕ → Verdict
verdict_if true bytes = Bytes bytes
verdict_if false bytes = Fault 14

-- the value, where it is in its range, makes the bytes; JR is of two bytes, and its target is reached from behind them
unfoldable pub valued_by : ℕ → ℕ → Slot → Bool → ℕ → Verdict
valued_by a row slot inside w =
    verdict_if (inside && reached slot (number_in (further 2 a) slot w)) (bytes_of row slot (number_in (further 2 a) slot w))

-- in this order: 12 a line of no such form, 13 nesting deeper than 16, 14 a number or a value out of range; a value below 0 counts modulo
-- 65,536
unfoldable pub verdict_by : ℕ → ℕ → Slot → Found → Verdict
verdict_by a row slot NoForm = Fault 12
verdict_by a row slot Deep = Fault 13
verdict_by a row slot Large = Fault 14
verdict_by a row slot (Above n) = valued_by a row slot (leb n (highest slot)) n
verdict_by a row slot (Below n) = valued_by a row slot (leb n (lowest slot)) (back n 0)

unfoldable pub verdict_of : ℕ → List ℕ → Verdict
verdict_of a line = verdict_by a (row_by (outline_in line)) (slot_at (row_by (outline_in line))) (found_in line)

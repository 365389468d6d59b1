-- What the constant of a row may be is what the code finds by the fields of its opcode. antt computes it for every row.
-- Assumes nothing.
use Prim.Native.Nat.{ℕ, ◌<◌, ◌≤◌}
use mathlib.Core.Bool.{Bool, true, false}
use mathlib.Core.Path.{◌≡◌, refl}
use native.Mathlib.Omega.{arith}
use borrow.Author.Tests.{ltb-true, ltb-false, le-ltb, le-leb, ne_eqb}
use lib.Dec.{ltb}
use Rattle.insn.specs.Grid.{grid}
use Rattle.insn.proofs.Entries.{agree}
use Rattle.listing.specs.Spelling.{spellings}
use Rattle.spellings.specs.Rows.{slot_of, slot_in, spelling_at, slot_at}
use Rattle.spellings.specs.Slots.{slot_if, low_slot, stacked_slot, high_slot, slot_by}

low_rows : (row : ℕ) → row < 513 → slot_by row ≡ slot_at row
unfolding grid spellings slot_of slot_in spelling_at slot_at slot_if low_slot stacked_slot high_slot slot_by
low_rows row h = agree slot_by slot_at 513 refl row h

no_rows : (row : ℕ) → 513 ≤ row → slot_by row ≡ slot_at row
unfolding spellings slot_in spelling_at slot_at slot_if slot_by
no_rows row h =
    rw (
      le-ltb row 64 (omega arith),
      le-ltb row 192 (omega arith),
      le-ltb row 256 (omega arith),
      le-leb 320 row (omega arith),
      le-ltb row 512 (omega arith),
      ne_eqb row 512 (λ e. omega arith),
    )

slot_if_lem : (row : ℕ) (t : Bool) → ltb row 513 ≡ t → slot_by row ≡ slot_at row
slot_if_lem row true e = low_rows row (ltb-true row 513 e)
slot_if_lem row false e = no_rows row (ltb-false row 513 e)

pub slot_is : (row : ℕ) → slot_by row ≡ slot_at row
slot_is row = slot_if_lem row (ltb row 513) refl

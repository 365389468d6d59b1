-- How the code finds what the constant of a row may be: by the fields of an opcode.
-- Assumes nothing.
use Rattle.std.specs.Prelude.{ℕ, ◌/◌, ◌%◌, Bool, true, false, not, ◌||◌, ◌&&◌, eqb, leb, ltb}
use Rattle.spellings.specs.declared.Slot.{Slot}
use Rattle.spellings.specs.declared.Slot.TheVariants.{Bare, N8, N16, High, E8, Target, U3, Vec}

unfoldable pub slot_if : Bool → Slot → Slot → Slot
slot_if true s other = s
slot_if false s other = other

-- the first quarter of the opcodes, by the next three bits and the low three
unfoldable pub low_slot : ℕ → ℕ → Slot
low_slot y z =
    slot_if (eqb z 6) N8
    (slot_if (eqb z 1 && eqb (y % 2) 0) N16 (slot_if (not (eqb z 0)) Bare (slot_if (eqb y 1) N16 (slot_if (ltb y 3) Bare Target))))

-- the last one
unfoldable pub stacked_slot : ℕ → Slot
stacked_slot y = slot_if (ltb y 4) Bare (slot_if (eqb (y % 2) 0) High E8)

unfoldable pub high_slot : ℕ → ℕ → Slot
high_slot y z =
    slot_if (eqb z 0) (stacked_slot y)
    (slot_if (eqb z 2) (slot_if (ltb y 4 || eqb (y % 2) 1) N16 Bare)
    (slot_if (eqb z 3) (slot_if (eqb y 0) N16 Bare)
    (slot_if (eqb z 4) (slot_if (ltb y 4) N16 Bare)
    (slot_if (eqb z 5) (slot_if (eqb y 1) N16 Bare) (slot_if (eqb z 6) N8 (slot_if (eqb z 7) Vec Bare))))))

unfoldable pub slot_by : ℕ → Slot
slot_by row =
    slot_if (ltb row 64) (low_slot (row / 8 % 8) (row % 8))
    (slot_if (ltb row 192) Bare
    (slot_if (ltb row 256) (high_slot (row / 8 % 8) (row % 8))
    (slot_if (leb 320 row && ltb row 512) U3 (slot_if (eqb row 512) N8 Bare))))

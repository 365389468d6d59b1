-- Document 01, "The program", its example: the adding routine adds 0199 and 0001 in a run of budget 30, which prints
-- 0 30 16 02C0 0000 C102 C002 E000 1234 0 0
-- Assumes nothing.
use Rattle.std.specs.Prelude.{List, [], ◌∷◌}
use Rattle.machine.specs.Run.{Ran, run_of}
use Rattle.machine.specs.declared.Ime.TheVariants.{Off}
use Rattle.cases.specs.Case.Shown.{shown}
use Rattle.cases.specs.Case.{Cell, cell, Shown, shown_of, memory_of, state_of}

-- the routine at $0150, the fields at $C000 and $C100, the return address at $DFFE
unfoldable pub example_cells : List Cell
example_cells =
    cell 0x0150 0xA7 ∷ cell 0x0151 0x1A ∷ cell 0x0152 0x8E ∷ cell 0x0153 0x27 ∷ cell 0x0154 0x22 ∷ cell 0x0155 0x13
    ∷ cell 0x0156 0x05 ∷ cell 0x0157 0x20 ∷ cell 0x0158 0xF8 ∷ cell 0x0159 0xC9
    ∷ cell 0xC000 0x99 ∷ cell 0xC001 0x01
    ∷ cell 0xC100 0x01 ∷ cell 0xC101 0x00
    ∷ cell 0xDFFE 0x34 ∷ cell 0xDFFF 0x12
    ∷ []

-- the sum in the destination, and the byte after it, 0 as before
unfoldable pub sum_cells : List Cell
sum_cells = cell 0xC000 0x00 ∷ cell 0xC001 0x02 ∷ cell 0xC002 0x00 ∷ []

unfoldable pub example_run : Shown Ran
example_run = shown_of (run_of 30 (state_of 0 0x0200 0xC100 0xC000 0xDFFE 0x0150 Off) (memory_of example_cells)) sum_cells

unfoldable pub example_printed : Shown Ran
example_printed =
    shown
    (record { code = 0; spent = 30; steps = 16; cpu = state_of 0x02C0 0x0000 0xC102 0xC002 0xE000 0x1234 Off })
    sum_cells

-- The worked example, computed: 16 steps of the adding routine on a memory of 65,536 bytes.
-- Assumes nothing.
use mathlib.Core.Path.{◌≡◌, refl}
use Rattle.machine.specs.Run.{runs}
use Rattle.cases.specs.Case.{memory_of, state_of, cells_of, shown_of}
use Rattle.cases.specs.Example.{example_cells, sum_cells, example_run, example_printed}
use Rattle.cases.proofs.Whole.{whole}

pub example_holds : example_run ≡ example_printed
unfolding whole memory_of state_of cells_of example_cells sum_cells shown_of example_run example_printed runs
example_holds = refl

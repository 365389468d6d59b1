-- The twelve cases hold: one statement over the list of them, by computing each step on a memory of 65,536 bytes.
-- Assumes nothing.
use mathlib.Core.List.{map}
use mathlib.Core.Path.{◌≡◌, refl}
use Rattle.cases.specs.Case.{memory_of, state_of, cells_of, shown_of, stepped_of, expected_of}
use Rattle.cases.specs.Twelve.{twelve}
use Rattle.cases.proofs.Whole.{whole}

pub twelve_hold : map stepped_of twelve ≡ map expected_of twelve
unfolding whole memory_of state_of cells_of shown_of stepped_of expected_of twelve
twelve_hold = refl

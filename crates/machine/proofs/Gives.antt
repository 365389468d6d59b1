-- What the proofs of functions that are lent the memory share: an answer and a memory that are those of the definition by computation.
-- Assumes nothing.
use mathlib.Core.Path.{refl}
use Rattle.machine.specs.Answers.{With, Gives}

pub exactly : {A : Type 0} {w : With A} → Gives w w.out w.mem
exactly = record { answers = refl; leaves = refl }

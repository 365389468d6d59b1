-- The public promise determines the text and the memory that is left: as in the crate arith, of `Post`.
-- Assumes nothing.
use Rattle.arith.proofs.Unique.{OneOutcome}
use Rattle.machine.proofs.Unique.{gives_one}
use Rattle.text.proofs.answer.answer.Reads as answer

pub answer_unique : OneOutcome answer.Post (λ κs e. e.1.1.0.now)
answer_unique _ _ _ _ _ _ = gives_one

-- The public promise determines its answer: as in the crate arith, of `Post`.
-- Assumes nothing.
use Rattle.arith.proofs.Unique.{same, OneAnswer}
use Rattle.constants.proofs.read.Reads as read

pub read_unique : OneAnswer read.Post
read_unique _ _ _ _ _ _ = same

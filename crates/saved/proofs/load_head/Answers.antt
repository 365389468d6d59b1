-- `load_head` loads from 23 bytes.
use Rattle.saved.specs.Answers.{load_head_of}
use Rattle.saved.proofs.load_head.Goals as goal

pub returns : goal.returns
unfolding load_head_of
returns c = c.load.ensures

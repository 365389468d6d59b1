-- `check_image` loads from the front of 65,559 bytes.
use Rattle.saved.specs.Answers.{open_of}
use Rattle.saved.proofs.check_image.Goals as goal

pub returns : goal.returns
unfolding open_of
returns c = c.load.ensures

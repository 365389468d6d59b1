-- `trnadulek_open_image` leaves the block of the state that is loaded.
use Rattle.trnadulek.specs.Block.{open_block_of}
use Rattle.trnadulek.proofs.trnadulek_open_image.Goals as goal

pub returns : goal.returns
unfolding open_block_of
returns c = rw c.check_image.ensures at c.leave.ensures

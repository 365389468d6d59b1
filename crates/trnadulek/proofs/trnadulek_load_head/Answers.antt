-- `trnadulek_load_head` leaves the block of the state that is loaded.
use Rattle.trnadulek.specs.Block.{load_block_of}
use Rattle.trnadulek.proofs.trnadulek_load_head.Goals as goal

pub returns : goal.returns
unfolding load_block_of
returns c = rw c.load_head.ensures at c.leave.ensures

-- `block_in` copies the block out.
use Rattle.saved.specs.Head.{block_in}
use Rattle.saved.proofs.head.block_in.Goals as goal

pub returns : goal.returns
unfolding block_in
returns c = c.copy_from_slice.ensures.after

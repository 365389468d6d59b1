-- `has_codes` looks at the two last bytes of the block.
use borrow.Author.Tests.{le-leb, lt-leb}
use Rattle.digits.specs.Digits.{byte_in}
use Rattle.saved.specs.Block.{ime_code_in, mode_code_in, has_codes}
use Rattle.saved.proofs.block.has_codes.Goals as goal

pub returns-then-block-le2 : goal.returns-then-block-le2
unfolding has_codes ime_code_in mode_code_in byte_in
returns-then-block-le2 c = rw (le-leb _ _ c.if-block-le2.true)

pub returns-else-block-le2 : goal.returns-else-block-le2
unfolding has_codes ime_code_in mode_code_in byte_in
returns-else-block-le2 c = rw (lt-leb _ _ c.if-block-le2.false)

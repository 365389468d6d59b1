-- `head_fits` tests the length, then F.
use borrow.Author.Tests.{eq-eqb, ne_eqb}
use Rattle.arith.specs.Refusals.{number_or, code_of}
use Rattle.saved.specs.Refusals.{save_head_refusals, save_head_code}
use Rattle.saved.proofs.head_fits.Goals as goal

pub returns-then-head-ne-HEAD_SIZE : goal.returns-then-head-ne-HEAD_SIZE
unfolding save_head_code save_head_refusals code_of number_or
returns-then-head-ne-HEAD_SIZE c = rw (ne_eqb _ _ c.if-head-ne-HEAD_SIZE.true)

pub returns : goal.returns
unfolding save_head_code save_head_refusals code_of number_or
returns c = rw (c.flags_fit.ensures, eq-eqb _ _ c.if-head-ne-HEAD_SIZE.false)

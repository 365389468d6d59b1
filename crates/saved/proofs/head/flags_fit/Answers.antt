-- `flags_fit` refuses an F whose low four bits are not 0.
use borrow.Author.Tests.{eq-eqb, ne_eqb}
use Rattle.arith.specs.Refusals.{order}
use Rattle.saved.specs.Refusals.{flags_refusals}
use Rattle.saved.proofs.head.flags_fit.Goals as goal

pub returns-then-f-eq0 : goal.returns-then-f-eq0
unfolding order flags_refusals
returns-then-f-eq0 c = rw (eq-eqb _ _ c.if-f-eq0.true)

pub returns-else-f-eq0 : goal.returns-else-f-eq0
unfolding order flags_refusals
returns-else-f-eq0 c = rw (ne_eqb _ _ c.if-f-eq0.false)

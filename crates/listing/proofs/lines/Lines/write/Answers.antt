-- `write` writes line after line.
use borrow.Author.Rules.{rules}
use Rattle.listing.specs.Lines.{joined}
use Rattle.listing.proofs.Left.{none_left, fewer, text_on}
use Rattle.listing.proofs.Writers.{after, unwritten}
use Rattle.listing.proofs.lines.Lines.write.Goals as goal

pub loop-self-init : goal.loop-self-init
loop-self-init c = λ w behind. behind

pub loop-self-smaller : goal.loop-self-smaller
loop-self-smaller c = fewer c.put.ensures.others

pub loop-self-preserved : goal.loop-self-preserved
loop-self-preserved c = λ w behind. c.loop-self.invariant w (rw (text_on c.put.ensures.others) (after c.put.ensures.writes behind))

pub returns : goal.returns
unfolding joined
returns c = c.loop-self.invariant _ (rw (none_left _ _ c.loop-self.self.rest.now (search rules)) (unwritten _))

-- `letters` writes each.
use lib.Seq.{take_all}
use Rattle.std.proofs.lemmas.List.{take_more}
use Rattle.listing.proofs.Writers.{after, unwritten}
use Rattle.listing.proofs.writing.Writer.letters.Goals as goal

pub loop-c-init : goal.loop-c-init
loop-c-init c = unwritten _

pub loop-c-preserved : goal.loop-c-preserved
loop-c-preserved c = rw (take_more _ _ 0 c.loop-c-test.true) (after c.loop-c.invariant c.push.ensures)

pub returns : goal.returns
returns c = rw (take_all _ c.args.name.now c.loop-c-test.false) at c.loop-c.invariant

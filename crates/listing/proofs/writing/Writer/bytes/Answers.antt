-- `bytes` writes each.
use lib.Seq.{take_all}
use Rattle.listing.specs.Lines.{joined, bytes_text}
use Rattle.listing.proofs.Writers.{unwritten, each_next}
use Rattle.listing.proofs.writing.Writer.bytes.Goals as goal

pub loop-b-init : goal.loop-b-init
unfolding joined
loop-b-init c = unwritten _

pub loop-b-preserved : goal.loop-b-preserved
loop-b-preserved c = each_next _ _ _ c.loop-b-test.true c.loop-b.invariant c.byte.ensures

pub returns : goal.returns
unfolding bytes_text
returns c = rw (take_all _ c.args.part.now c.loop-b-test.false) at c.loop-b.invariant

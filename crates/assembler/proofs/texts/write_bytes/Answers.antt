-- `write_bytes` writes each.
use lib.Seq.{take_all}
use Rattle.std.proofs.lemmas.List.{take_more}
use Rattle.listing.proofs.Writers.{after, unwritten}
use Rattle.assembler.proofs.texts.write_bytes.Goals as goal

pub loop-b-init : goal.loop-b-init
loop-b-init c = unwritten _

pub loop-b-preserved : goal.loop-b-preserved
loop-b-preserved c =
    rw (take_more c.args.bytes.now c.loop-b.b-index 0 c.loop-b-test.true) (after c.loop-b.invariant c.push.ensures)

pub returns : goal.returns
returns c = rw (take_all _ c.args.bytes.now c.loop-b-test.false) at c.loop-b.invariant

-- `marks` writes character after character.
use lib.Seq.{take_all}
use Rattle.listing.specs.Forms.{marks_text}
use Rattle.listing.specs.Lines.{joined}
use Rattle.listing.proofs.Writers.{unwritten, each_next}
use Rattle.listing.proofs.Operands.marks.Goals as goal

pub loop-m-init : goal.loop-m-init
unfolding joined
loop-m-init c = unwritten _

pub loop-m-preserved : goal.loop-m-preserved
loop-m-preserved c = each_next _ _ _ c.loop-m-test.true c.loop-m.invariant c.mark.ensures

pub returns : goal.returns
unfolding marks_text
returns c = rw (take_all _ c.args.form.now c.loop-m-test.false) at c.loop-m.invariant

-- `append` meets its contract.
use native.Mathlib.Numerals.{add-one}
use lib.ListN.{drop_of_length-le}
use lib.Seq.{drop-cons}
use Rattle.text.specs.Written.{written}
use Rattle.text.proofs.Text.append.Goals as goal

pub loop-b-preserved : goal.loop-b-preserved
unfolding written
loop-b-preserved c =
    let left = rw (drop-cons c.args.s.now c.loop-b.b-index 0 c.loop-b-test.true) at c.loop-b.invariant in
    rw (add-one, c.push-self.ensures) left

pub returns : goal.returns
unfolding written
returns c = rw (drop_of_length-le c.args.s.now {i = c.loop-b.b-index} c.loop-b-test.false) at c.loop-b.invariant

-- The measure is the depth that remains. The loop's invariant: how far the level is read, and the total with it.
use lib.ListN.{length}
use Rattle.constants.proofs.Levels.{Level}
use Rattle.constants.proofs.sums.+sum.Given as goal

abbrev pub decreases-sum : goal.decreases-sum
decreases-sum l = l.depth

abbrev pub invariant-loop-sign : goal.invariant-loop-sign
invariant-loop-sign l = Level l.text l.rest l.value

abbrev pub decreases-loop-sign : goal.decreases-loop-sign
decreases-loop-sign l = length l.rest

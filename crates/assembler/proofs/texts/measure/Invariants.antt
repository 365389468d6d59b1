-- What comes of what is left, behind the bytes that are added up, is what comes of the whole.
use Rattle.std.proofs.Common.{ℕ, List, length, ◌+◌, ◌-◌, ◌≡◌, ◌≤◌, ◌<◌, ◌^◌}
use Rattle.assembler.specs.Text.{Outcome, prepended, outcome_of}
use Rattle.assembler.specs.declared.texts.Left.{Left}
use Rattle.assembler.proofs.Turns.{outcome_left}
use Rattle.assembler.proofs.texts.measure.Given as goal

pub record Added (o : Outcome) (s : Left) (room count : ℕ) : Type 0 where
  pub done : List ℕ
  pub long : count ≡ length done
  pub comes : prepended done (outcome_left s (room - count)) ≡ o

abbrev pub invariant-loop-left : goal.invariant-loop-left
invariant-loop-left l =
    record {
      fits : l.length ≤ l.room;
      lines : l.left.line + length l.left.text.now < 2 ^ 64;
      added : Added (outcome_of l.first l.text l.room) l.left l.room l.length;
    }

abbrev pub decreases-loop-left : goal.decreases-loop-left
decreases-loop-left l = length l.left.text.now

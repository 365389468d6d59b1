-- What is added up and what is left are as long as the whole, and there is room for what is added up.
use Rattle.std.proofs.Common.{◌+◌, ◌≡◌, ◌≤◌, length}
use Rattle.listing.specs.Left.{lines_left, text_left}
use Rattle.listing.proofs.lines.Lines.measure.Given as goal

abbrev pub invariant-loop-self : goal.invariant-loop-self
invariant-loop-self l =
    record {
      fits : l.length ≤ l.room;
      whole : l.length + length (text_left l.self) ≡ length (text_left l.initial.self);
    }

abbrev pub decreases-loop-self : goal.decreases-loop-self
decreases-loop-self l = length (lines_left l.self)

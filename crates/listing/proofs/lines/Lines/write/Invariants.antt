-- What writes the lines that are left behind what is written writes all of them.
use Rattle.listing.specs.Left.{lines_left, text_left}
use Rattle.listing.specs.Written.{Writes}
use Rattle.listing.specs.declared.writing.Writer.{Writer}
use Rattle.std.proofs.Common.{length}
use Rattle.listing.proofs.lines.Lines.write.Given as goal

abbrev pub invariant-loop-self : goal.invariant-loop-self
invariant-loop-self l = (w : Writer) → Writes (text_left l.self) l.writer w → Writes (text_left l.initial.self) l.initial.writer w

abbrev pub decreases-loop-self : goal.decreases-loop-self
decreases-loop-self l = length (lines_left l.self)

-- What was gone through is written.
use Rattle.std.proofs.Common.{take}
use Rattle.digits.specs.Numerals.{hex_text}
use Rattle.listing.specs.Lines.{joined}
use Rattle.listing.specs.Written.{Writes}
use Rattle.listing.proofs.writing.Writer.bytes.Given as goal

abbrev pub invariant-loop-b : goal.invariant-loop-b
invariant-loop-b l = Writes (joined (hex_text 2) (take l.b-index l.part)) l.initial.self l.self

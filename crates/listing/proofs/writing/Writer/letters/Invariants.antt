-- What was gone through is written.
use Rattle.std.proofs.Common.{take}
use Rattle.listing.specs.Written.{Writes}
use Rattle.listing.proofs.writing.Writer.letters.Given as goal

abbrev pub invariant-loop-c : goal.invariant-loop-c
invariant-loop-c l = Writes (take l.c-index l.name) l.initial.self l.self

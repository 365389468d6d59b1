-- What was gone through is written.
use lib.ListN.{take}
use Rattle.listing.specs.Written.{Writes}
use Rattle.assembler.proofs.texts.write_bytes.Given as goal

abbrev pub invariant-loop-b : goal.invariant-loop-b
invariant-loop-b l = Writes (take l.b-index l.bytes) l.initial.writer l.writer

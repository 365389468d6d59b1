-- What was gone through is written.
use Rattle.std.proofs.Common.{take}
use Rattle.listing.specs.Forms.{mark_text}
use Rattle.listing.specs.Lines.{joined}
use Rattle.listing.specs.Written.{Writes}
use Rattle.listing.proofs.Operands.marks.Given as goal

abbrev pub invariant-loop-m : goal.invariant-loop-m
invariant-loop-m l = Writes (joined (mark_text l.self) (take l.m-index l.form)) l.initial.writer l.writer

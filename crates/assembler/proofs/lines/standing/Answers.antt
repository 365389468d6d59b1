-- `standing` reads a constant where there is a slot.
use mathlib.Core.Path.{◌∙◌, ap}
use Rattle.constants.specs.Answer.{answer_in, answer_of}
use Rattle.assembler.specs.Lines.{standing}
use Rattle.assembler.proofs.Slots.{stands}
use Rattle.assembler.proofs.lines.standing.Goals as goal

pub returns-in-Bare : goal.returns-in-Bare
unfolding standing answer_in
returns-in-Bare c = rw c.in-Bare.is

pub returns-in_default : goal.returns-in_default
unfolding answer_of
returns-in_default c = c.read.ensures ∙ ap answer_in (stands _ c.args.slot c.in_default.not-Bare)

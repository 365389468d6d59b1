-- `operated` looks the operands up.
use mathlib.Core.Path.{◌∙◌}
use Rattle.spellings.proofs.Named.{no_single, single_told, no_first, no_second, double_told}
use Rattle.spellings.proofs.outlines.operated.Goals as goal

pub returns-in_err-operand : goal.returns-in_err-operand
returns-in_err-operand c = c.from_residual.ensures ∙ no_single _ _ c.in_default.ensures c.in_err-operand.ensures

pub returns-in_default : goal.returns-in_default
returns-in_default c = c.single.ensures ∙ single_told _ _ c.in_default.ensures _ c.in_ok-operand.ensures

pub returns-in_err-first : goal.returns-in_err-first
returns-in_err-first c = c.from_residual-in_err-first.ensures ∙ no_first _ _ _ c.in-Some.ensures c.in_err-first.ensures

pub returns-in_err-operand-2 : goal.returns-in_err-operand-2
returns-in_err-operand-2 c =
    c.from_residual-in_err-operand-2.ensures ∙ no_second _ _ _ c.in-Some.ensures c.in_err-operand-2.ensures

pub returns : goal.returns
returns c =
    c.double.ensures ∙ double_told _ _ _ c.in-Some.ensures _ _ c.in_ok-first.ensures c.in_ok-operand-2.ensures

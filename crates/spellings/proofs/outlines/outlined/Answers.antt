-- `outlined` looks the name up.
use mathlib.Core.Path.{◌∙◌}
use Rattle.spellings.proofs.Named.{no_alone, alone_told, no_named, named_told}
use Rattle.spellings.proofs.outlines.outlined.Goals as goal

pub returns-in_err-bare : goal.returns-in_err-bare
returns-in_err-bare c = c.from_residual.ensures ∙ no_alone _ c.in_default.ensures c.in_err-bare.ensures

pub returns-in_default : goal.returns-in_default
returns-in_default c = c.alone.ensures ∙ alone_told _ c.in_default.ensures _ c.in_ok-bare.ensures

pub returns-in_err-name : goal.returns-in_err-name
returns-in_err-name c = c.from_residual-in_err-name.ensures ∙ no_named _ _ c.in-Some.ensures c.in_err-name.ensures

pub returns : goal.returns
returns c = c.operated.ensures ∙ named_told _ _ c.in-Some.ensures _ c.in_ok-name.ensures

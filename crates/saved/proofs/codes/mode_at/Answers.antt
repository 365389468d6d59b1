-- `mode_at` answers the mode of each code.
use mathlib.Core.Path.{sym}
use native.Mathlib.Omega.{arith}
use Rattle.saved.specs.Codes.{mode_at}
use Rattle.saved.proofs.CodesBack.{mode_last}
use Rattle.saved.proofs.codes.mode_at.Goals as goal

pub returns-in-0 : goal.returns-in-0
unfolding mode_at
returns-in-0 c = rw c.in-0.is

pub returns-in-1 : goal.returns-in-1
unfolding mode_at
returns-in-1 c = rw c.in-1.is

pub returns-in-2 : goal.returns-in-2
unfolding mode_at
returns-in-2 c = rw c.in-2.is

pub returns-in_default : goal.returns-in_default
unfolding mode_at
returns-in_default c = sym (mode_last c.args.code (omega arith))

-- `ime_at` answers the setting of each code.
use mathlib.Core.Path.{sym}
use native.Mathlib.Omega.{arith}
use Rattle.saved.specs.Codes.{ime_at}
use Rattle.saved.proofs.CodesBack.{ime_last}
use Rattle.saved.proofs.codes.ime_at.Goals as goal

pub returns-in-0 : goal.returns-in-0
unfolding ime_at
returns-in-0 c = rw c.in-0.is

pub returns-in-1 : goal.returns-in-1
unfolding ime_at
returns-in-1 c = rw c.in-1.is

pub returns-in_default : goal.returns-in_default
unfolding ime_at
returns-in_default c = sym (ime_last c.args.code (omega arith))

-- `insn::rows::row_3` meets its contract: each arm is the grid's entry, which antt computes. Assumes nothing.
use native.Mathlib.Omega.{arith}
use Rattle.insn.proofs.Told.{entries, told}
use Rattle.insn.proofs.rows.row_3.Goals as goal

pub returns-in-49 : goal.returns-in-49
unfolding entries
returns-in-49 c = told _ _ c.in-49.is c.new-in-49.ensures

pub returns-in_default : goal.returns-in_default
unfolding entries
returns-in_default c = told {op = c.args.op} {k = 63} _ _ (omega arith) c.new-in_default.ensures

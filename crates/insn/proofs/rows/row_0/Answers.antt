-- `insn::rows::row_0` meets its contract: each arm is the grid's entry, which antt computes. Assumes nothing.
use native.Mathlib.Omega.{arith}
use Rattle.insn.proofs.Told.{entries, told}
use Rattle.insn.proofs.rows.row_0.Goals as goal

pub returns-in-1 : goal.returns-in-1
unfolding entries
returns-in-1 c = told _ _ c.in-1.is c.new-in-1.ensures

pub returns-in_default : goal.returns-in_default
unfolding entries
returns-in_default c = told {op = c.args.op} {k = 15} _ _ (omega arith) c.new-in_default.ensures

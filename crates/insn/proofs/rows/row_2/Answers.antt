-- `insn::rows::row_2` meets its contract: each arm is the grid's entry, which antt computes. Assumes nothing.
use native.Mathlib.Omega.{arith}
use Rattle.insn.proofs.Told.{entries, told}
use Rattle.insn.proofs.rows.row_2.Goals as goal

pub returns-in-33 : goal.returns-in-33
unfolding entries
returns-in-33 c = told _ _ c.in-33.is c.new-in-33.ensures

pub returns-in_default : goal.returns-in_default
unfolding entries
returns-in_default c = told {op = c.args.op} {k = 47} _ _ (omega arith) c.new-in_default.ensures

-- `insn::rows::row_1` meets its contract: each arm is the grid's entry, which antt computes. Assumes nothing.
use native.Mathlib.Omega.{arith}
use Rattle.insn.proofs.Told.{entries, told}
use Rattle.insn.proofs.rows.row_1.Goals as goal

pub returns-in-17 : goal.returns-in-17
unfolding entries
returns-in-17 c = told _ _ c.in-17.is c.new-in-17.ensures

pub returns-in_default : goal.returns-in_default
unfolding entries
returns-in_default c = told {op = c.args.op} {k = 31} _ _ (omega arith) c.new-in_default.ensures

-- `insn::rows::row_c` meets its contract: each arm is the grid's entry, which antt computes. Assumes nothing.
use native.Mathlib.Omega.{arith}
use Rattle.insn.proofs.Told.{entries, told}
use Rattle.insn.proofs.rows.row_c.Goals as goal

pub returns-in-193 : goal.returns-in-193
unfolding entries
returns-in-193 c = told _ _ c.in-193.is c.new-in-193.ensures

pub returns-in-194 : goal.returns-in-194
unfolding entries
returns-in-194 c = told _ _ c.in-194.is c.new-in-194.ensures

pub returns-in-197 : goal.returns-in-197
unfolding entries
returns-in-197 c = told _ _ c.in-197.is c.new-in-197.ensures

pub returns-in-198 : goal.returns-in-198
unfolding entries
returns-in-198 c = told _ _ c.in-198.is c.new-in-198.ensures

pub returns-in_default : goal.returns-in_default
unfolding entries
returns-in_default c = told {op = c.args.op} {k = 207} _ _ (omega arith) c.new-in_default.ensures

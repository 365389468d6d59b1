-- `insn::rows::row_7` meets its contract: each arm is the grid's entry, which antt computes. Assumes nothing.
use native.Mathlib.Omega.{arith}
use Rattle.insn.proofs.Told.{entries, told}
use Rattle.insn.proofs.rows.row_7.Goals as goal

pub returns-in-112 : goal.returns-in-112
unfolding entries
returns-in-112 c = told _ _ c.in-112.is c.taking.ensures

pub returns-in-120 : goal.returns-in-120
unfolding entries
returns-in-120 c = told _ _ c.in-120.is c.taking-in-120.ensures

pub returns-in_default : goal.returns-in_default
unfolding entries
returns-in_default c = told {op = c.args.op} {k = 127} _ _ (omega arith) c.taking-in_default.ensures

-- `insn::rows::row_e` meets its contract: each arm is the grid's entry, which antt computes. Assumes nothing.
use native.Mathlib.Omega.{arith}
use Rattle.insn.proofs.Told.{entries, told}
use Rattle.insn.proofs.rows.row_e.Goals as goal

pub returns-in_default : goal.returns-in_default
unfolding entries
returns-in_default c = told {op = c.args.op} {k = 239} _ _ (omega arith) c.new-in_default.ensures

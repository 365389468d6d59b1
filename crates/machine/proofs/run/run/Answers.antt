-- `run` meets its contract: refusals 1, 2 and 5 in their order, then the turns.
use native.Mathlib.Omega.{arith}
use Rattle.machine.proofs.Gives.{exactly}
use Rattle.machine.proofs.Runs.{run_unfit, run_flags, run_budget, run_valid}
use Rattle.machine.proofs.run.run.Goals as goal

pub returns-in_default : goal.returns-in_default
returns-in_default c =
    let a = c.args in
    rw (run_unfit a.budget a.cpu a.mem.now c.in_default.ensures.cases, c.refused.ensures) exactly

pub returns-then-cpu-ne0 : goal.returns-then-cpu-ne0
returns-then-cpu-ne0 c =
    let a = c.args in
    let whole = c.in-Some.ensures.cases in
    rw (run_flags a.budget a.cpu a.mem.now whole.long c.if-cpu-ne0.true, c.refused-then-cpu-ne0.ensures, whole.same) exactly

pub returns-then-budget-gt-LARGEST_BUDGET : goal.returns-then-budget-gt-LARGEST_BUDGET
returns-then-budget-gt-LARGEST_BUDGET c =
    let a = c.args in
    let whole = c.in-Some.ensures.cases in
    rw (
      run_budget a.budget a.cpu a.mem.now whole.long (omega arith) c.if-budget-gt-LARGEST_BUDGET.true,
      c.refused-then-budget-gt-LARGEST_BUDGET.ensures,
      whole.same,
    )
    exactly

pub returns : goal.returns
returns c =
    let a = c.args in
    let whole = c.in-Some.ensures.cases in
    rw (run_valid a.budget a.cpu a.mem.now whole.long (omega arith) (omega arith), ← whole.same) c.run_from.ensures

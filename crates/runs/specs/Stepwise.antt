-- A run is its steps: how many were taken, that none of them was refused, what they cost, and why no further one was taken.
-- Document 01, "Runs and counts"; demands 1 and 2.
-- Assumes nothing.
use Rattle.std.specs.Prelude.{ℕ, zero, suc, ◌+◌, ◌<◌, ◌≤◌, ◌≢◌, ◌≡◌}
use Rattle.machine.specs.Answers.{With}
use Rattle.machine.specs.Memory.{Memory}
use Rattle.machine.specs.Step.{Stepped, stepped, step_of}
use Rattle.machine.specs.declared.Cpu.{Cpu}
use Rattle.machine.specs.Run.{Ran}
use Rattle.routines.specs.Steps.{after_steps}

-- the step that follows k steps
unfoldable pub step_after : ℕ → Cpu → Memory → With Stepped
step_after k s m = step_of (after_steps k s m).out.cpu (after_steps k s m).mem

-- what the first k steps cost: the sum of what the definition gives to each
unfoldable pub costs : ℕ → Cpu → Memory → ℕ
costs zero s m = 0
costs (suc k) s m = costs k s m + (step_after k s m).out.cycles

-- w is the run of a budget b from s and m, step by step
pub record Stepwise (b : ℕ) (s : Cpu) (m : Memory) (w : With Ran) : Type 0 where
  -- the state and the memory are those after `steps` steps, in `spent` cycles
  pub taken : after_steps w.out.steps s m ≡ stepped 0 w.out.spent w.out.cpu w.mem
  -- each of these steps is accepted, and `spent` is the sum of their costs
  pub accepted : (k : ℕ) → k < w.out.steps → (step_after k s m).out.code ≡ 0
  pub spent : w.out.spent ≡ costs w.out.steps s m
  -- each of them was due: those before it had cost less than the budget
  pub due : (k : ℕ) → k < w.out.steps → costs k s m < b
  -- the numbers are 0, 3 and 4
  pub least : w.out.code ≢ 0 → 3 ≤ w.out.code
  pub most : w.out.code ≤ 4
  -- with 0 the budget is met
  pub met : w.out.code ≡ 0 → b ≤ w.out.spent
  -- with 3 or 4 it is not, and the next step is the one that is refused with this number
  pub below : w.out.code ≢ 0 → w.out.spent < b
  pub refused : w.out.code ≢ 0 → (step_after w.out.steps s m).out.code ≡ w.out.code

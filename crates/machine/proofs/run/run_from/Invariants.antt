-- The loop's invariant: memory and F stay valid, the counts stay in their bounds, and what is left of the run gives what the whole run
-- gives. The measure is what is left of the budget.
use Rattle.std.proofs.Common.{◌≡◌, ◌+◌, ◌-◌, ◌%◌, ◌≤◌, length}
use Rattle.machine.specs.Memory.{memory_size}
use Rattle.machine.specs.Run.{run_from}
use Rattle.machine.proofs.run.run_from.Given as goal

abbrev pub invariant-loop-spent : goal.invariant-loop-spent
invariant-loop-spent l =
    (length l.mem ≡ memory_size) × (l.cpu.f % 16 ≡ 0) × (l.spent ≤ l.budget + 5) × (l.steps ≤ l.spent)
    × (run_from l.budget l.budget l.spent l.steps l.cpu l.mem ≡ run_from l.budget l.budget 0 0 l.initial.cpu l.initial.mem)

abbrev pub decreases-loop-spent : goal.decreases-loop-spent
decreases-loop-spent l = l.budget - l.spent

-- A run: steps while the cycles spent are below the budget. Document 01, "Runs and counts" and "Refusal numbers".
-- Assumes nothing.
use Rattle.std.specs.Prelude.{ℕ, zero, suc, ◌+◌, Bool, true, false, List, [], ◌∷◌, ◌++◌, ltb}
use Rattle.arith.specs.Refusals.{Refusal, ◌when◌, code_of, unless_refused}
use Rattle.machine.specs.Memory.{Memory}
use Rattle.machine.specs.Answers.{With, keeping}
use Rattle.machine.specs.Step.{Stepped, input_refusals, step_of}
use Rattle.machine.specs.declared.Cpu.{Cpu}

-- a run: its number, the cycles spent, the steps taken and the state at its end
pub record Ran : Type 0 where
  pub code : ℕ
  pub spent : ℕ
  pub steps : ℕ
  pub cpu : Cpu

-- a run that ended, with the memory
abbrev pub ending : ℕ → ℕ → ℕ → Cpu → Memory → With Ran
ending code spent steps s m = keeping (record { code = code; spent = spent; steps = steps; cpu = s }) m

-- what follows a test that holds is worked out only then
unfoldable pub while_below : Bool → (Unit {0} → With Ran) → With Ran → With Ran
while_below true next last = next tt
while_below false next last = last

-- a refused step ends the run and keeps the steps before it; an accepted one goes on
unfoldable pub after_step : With Stepped → (With Stepped → With Ran) → (ℕ → With Ran) → With Ran
after_step w next refused = unless_refused w.out.code (λ _. next w) refused

-- the turns of a run. Each accepted step spends at least one cycle, so that a run of budget b has at most b of them: the first
-- number counts those that are left
unfoldable pub run_from : ℕ → ℕ → ℕ → ℕ → Cpu → Memory → With Ran
run_from zero b spent steps s m = ending 0 spent steps s m
run_from (suc turns) b spent steps s m =
    while_below (ltb spent b)
    (λ _.
    after_step (step_of s m) (λ w. run_from turns b (spent + w.out.cycles) (steps + 1) w.out.cpu w.mem)
    (λ code. ending code spent steps s m))
    (ending 0 spent steps s m)

-- a budget is at most so many cycles
abbrev pub largest_budget : ℕ
largest_budget = 1048576

-- order: 1, 2, 5
unfoldable pub run_refusals : ℕ → Cpu → Memory → List Refusal
run_refusals b s m = input_refusals s m ++ (5 when ltb largest_budget b ∷ [])

unfoldable pub run_of : ℕ → Cpu → Memory → With Ran
run_of b s m = unless_refused (code_of (run_refusals b s m)) (λ _. run_from b b 0 0 s m) (λ code. ending code 0 0 s m)

-- opens the refusals of a run in a proof
unfoldable pub runs : Unit {0}
unfolding while_below after_step run_from input_refusals run_refusals run_of
runs = tt

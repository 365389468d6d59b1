-- Steps in a row and a run: with the budget that k accepted steps spend, a run takes just those steps. Each accepted step costs at
-- least one cycle, so the run does not end before, nor does it run out of turns. Of machine's laws that cost alone is used: a wrong
-- definition of a run is to fail here, and not in a law below.
-- Assumes nothing.
use Prim.Native.Nat.{ℕ, zero, suc, ◌+◌, ◌%◌, ◌<◌, ◌≤◌}
use mathlib.Core.Path.{◌≡◌, refl, ◌∙◌, ap}
use native.Mathlib.Nat.{le_trans, add-zero, zero-add}
use native.Mathlib.Omega.{arith}
use borrow.Author.Tests.{lt-ltb, le-ltb}
use lib.ListN.{length}
use Rattle.arith.specs.Refusals.{unless_refused, order}
use Rattle.machine.specs.Answers.{With}
use Rattle.machine.specs.Memory.{memory_size, Memory}
use Rattle.machine.specs.Step.{Stepped, stepped, step_of}
use Rattle.machine.specs.Run.{Ran, largest_budget, ending, while_below, after_step, run_from, run_of, runs}
use Rattle.machine.specs.declared.Cpu.{Cpu}
use Rattle.machine.proofs.Refused.{step_least}
use Rattle.routines.specs.Steps.{dearer, one_more, more_steps, after_steps}
use Rattle.routines.proofs.Stepping.{first_then}

-- a refused step is the last, and cycles only grow

stays : (k n : ℕ) (w : With Stepped) → w.out.code ≡ suc n → (more_steps k w).out.code ≡ suc n
unfolding more_steps one_more
stays zero n w e = e
stays (suc k) n w e = rw e (stays k n _ refl)

one_grows : (code : ℕ) (w : With Stepped) → w.out.cycles ≤ (one_more code w).out.cycles
unfolding one_more dearer
one_grows zero w = omega arith
one_grows (suc code) w = omega arith

grows : (k : ℕ) (w : With Stepped) → w.out.cycles ≤ (more_steps k w).out.cycles
unfolding more_steps
grows zero w = omega arith
grows (suc k) w = le_trans (one_grows w.out.code w) (grows k (one_more w.out.code w))

-- a run that ends with what some steps have come to
abbrev ended : ℕ → With Stepped → With Ran
ended steps w = ending 0 w.out.cycles steps w.out.cpu w.mem

module _ {b : ℕ} {s' : Cpu} {m' : Memory} where
  -- of steps that are all accepted the first is, and it leaves something of the budget to spend
  first_paid : (k t n : ℕ) (s : Cpu) (m : Memory) → (step_of s m).out.code ≡ n
      → more_steps (suc k) (stepped 0 t s m) ≡ stepped 0 b s' m' → ((step_of s m).out.code ≡ 0) × (t < b)
  unfolding more_steps one_more dearer
  first_paid k t zero s m e h =
      let total = ap (λ (w : With Stepped). w.out.cycles) h in
      (e, omega (arith, grows k (dearer t (step_of s m)), step_least s m e))
  first_paid k t (suc n) s m e h =
      absurd (omega (arith, ap (λ (w : With Stepped). w.out.code) h, stays k n (dearer t (step_of s m)) e))

  -- turn by turn: the budget is met, or the step that is due is taken
  run_from_lem : (k turns t steps : ℕ) (s : Cpu) (m : Memory) → k ≤ turns → more_steps k (stepped 0 t s m) ≡ stepped 0 b s' m'
      → run_from turns b t steps s m ≡ ending 0 b (steps + k) s' m'
  unfolding more_steps run_from while_below after_step unless_refused
  run_from_lem zero zero t steps s m h e = rw add-zero (ap (ended steps) e)
  run_from_lem zero (suc turns) t steps s m h e =
      let total = ap (λ (w : With Stepped). w.out.cycles) e in
      rw (le-ltb t b (omega arith), add-zero) (ap (ended steps) e)
  run_from_lem (suc k) zero t steps s m h e = absurd (omega arith)
  run_from_lem (suc k) (suc turns) t steps s m h e =
      let p = first_paid k t _ s m refl e in
      let same : steps + suc k ≡ steps + 1 + k = omega arith in
      rw (lt-ltb t b p.1, p.0, same)
      (run_from_lem k turns _ (steps + 1) _ _ (omega arith) (rw (first_then k t s m p.0) at e))

-- a run that is given what k accepted steps spend takes those steps
pub run_steps : (k b : ℕ) (s : Cpu) (m : Memory) {s' : Cpu} {m' : Memory} → length m ≡ memory_size → s.f % 16 ≡ 0
    → b ≤ largest_budget → k ≤ b → after_steps k s m ≡ stepped 0 b s' m' → run_of b s m ≡ ending 0 b k s' m'
unfolding order runs after_steps
run_steps k b s m size low most h e = rw (size, low, le-ltb largest_budget b most) (run_from_lem k b 0 0 s m h e ∙ rw zero-add)

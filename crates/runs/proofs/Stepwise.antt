-- A run is its steps: what the turns of a run count and leave is what as many steps in a row count and leave.
-- Assumes nothing.
use Prim.Native.Nat.{ℕ, zero, suc, ◌+◌, ◌-◌, ◌%◌, ◌<◌, ◌≤◌}
use mathlib.Core.Bool.{Bool, true, false}
use mathlib.Core.Logic.{◌≢◌}
use mathlib.Core.Path.{◌≡◌, refl, sym, ◌∙◌, ap}
use native.Mathlib.Nat.{add-zero, zero-add, suc-add}
use native.Mathlib.Omega.{arith}
use borrow.Author.Tests.{ltb-true, ltb-false, eqb-true, eqb-false, leb-true, leb-false}
use lib.Dec.{eqb, leb, ltb}
use lib.ListN.{length}
use Rattle.machine.specs.Answers.{With}
use Rattle.machine.specs.Memory.{memory_size, Memory}
use Rattle.machine.specs.Step.{Stepped, stepped, step_of}
use Rattle.machine.specs.Run.{Ran, largest_budget, ending, run_from, run_of}
use Rattle.machine.specs.declared.Cpu.{Cpu}
use Rattle.machine.proofs.Costs.{step_paid}
use Rattle.machine.proofs.Runs.{run_on, run_over, run_refused, run_goes, run_unfit, run_flags, run_budget, run_valid, Told, run_code}
use Rattle.routines.specs.Steps.{dearer, one_more, more_steps, after_steps}
use Rattle.routines.proofs.Stepping.{first_then}
use Rattle.runs.specs.Stepwise.{step_after, costs, Stepwise}

-- what `after` is: no step, and one step more than k that were accepted

pub after_none : (s : Cpu) (m : Memory) → after_steps 0 s m ≡ stepped 0 0 s m
unfolding after_steps more_steps
after_none s m = refl

last_step : (k : ℕ) (w : With Stepped) → more_steps (suc k) w ≡ one_more (more_steps k w).out.code (more_steps k w)
unfolding more_steps
last_step zero w = refl
last_step (suc k) w = last_step k (one_more w.out.code w)

pub after_more : (k c : ℕ) (s s' : Cpu) (m m' : Memory) → after_steps k s m ≡ stepped 0 c s' m'
    → after_steps (suc k) s m ≡ dearer c (step_of s' m')
unfolding after_steps one_more
after_more k c s s' m m' e =
    last_step k (stepped 0 0 s m) ∙ ap (λ (w : With Stepped). one_more w.out.code w) e

-- where k + 1 steps are accepted, so are the first k and the one that follows them, and the cycles add up
record Earlier (w v : With Stepped) : Type 0 where
  so_far : w.out.code ≡ 0
  last : (step_of w.out.cpu w.mem).out.code ≡ 0
  cycles : v.out.cycles ≡ w.out.cycles + (step_of w.out.cpu w.mem).out.cycles

earlier_at : (w : With Stepped) (c : ℕ) → w.out.code ≡ c → (one_more c w).out.code ≡ 0 → Earlier w (one_more c w)
unfolding one_more dearer
earlier_at w zero e h = record { so_far = e; last = h; cycles = refl }
earlier_at w (suc c) e h = absurd (omega arith)

module _ (s : Cpu) (m : Memory) where
  earlier : (k : ℕ) → (after_steps (suc k) s m).out.code ≡ 0 → Earlier (after_steps k s m) (after_steps (suc k) s m)
  unfolding after_steps
  earlier k h =
      let e = last_step k (stepped 0 0 s m) in
      rw e (earlier_at (more_steps k (stepped 0 0 s m)) _ refl (rw e at h))

  fewer : (d k : ℕ) → (after_steps (d + k) s m).out.code ≡ 0 → (after_steps k s m).out.code ≡ 0
  fewer zero k h = rw zero-add at h
  fewer (suc d) k h = fewer d k (earlier (d + k) (rw suc-add at h)).so_far

  so_far : (n k : ℕ) → k ≤ n → (after_steps n s m).out.code ≡ 0 → (after_steps k s m).out.code ≡ 0
  so_far n k l h =
      let same : n ≡ n - k + k = omega arith in
      fewer (n - k) k (rw same at h)

  each : (n k : ℕ) → k < n → (after_steps n s m).out.code ≡ 0 → (step_after k s m).out.code ≡ 0
  unfolding step_after
  each n k l h = (earlier k (so_far n (suc k) l h)).last

  all_costs : (n : ℕ) → (after_steps n s m).out.code ≡ 0 → (after_steps n s m).out.cycles ≡ costs n s m
  unfolding costs step_after
  all_costs zero h = rw (after_none s m)
  all_costs (suc n) h = (earlier n h).cycles ∙ rw (all_costs n (earlier n h).so_far)

-- from a turn on: `count` more steps
record Onward (b spent steps : ℕ) (s : Cpu) (m : Memory) (w : With Ran) : Type 0 where
  count : ℕ
  total : w.out.steps ≡ steps + count
  taken : more_steps count (stepped 0 spent s m) ≡ stepped 0 w.out.spent w.out.cpu w.mem
  due : (k : ℕ) → k < count → (more_steps k (stepped 0 spent s m)).out.cycles < b
  met : w.out.code ≡ 0 → b ≤ w.out.spent
  below : w.out.code ≢ 0 → w.out.spent < b
  refused : w.out.code ≢ 0 → (step_of w.out.cpu w.mem).out.code ≡ w.out.code

module _ (b spent steps : ℕ) (s : Cpu) (m : Memory) where
  -- no step more: the budget is met, or the step that is due is refused
  stops : (n : ℕ) → (n ≡ 0 → b ≤ spent) → (n ≢ 0 → spent < b) → (n ≢ 0 → (step_of s m).out.code ≡ n)
      → Onward b spent steps s m (ending n spent steps s m)
  unfolding more_steps
  stops n met below refused =
      record {
        count = 0;
        total = sym (add-zero steps);
        taken = refl;
        due = λ k h. absurd (omega arith);
        met = met;
        below = below;
        refused = refused;
      }

  over : b ≤ spent → Onward b spent steps s m (ending 0 spent steps s m)
  over p = stops 0 (omega arith) (omega arith) (omega arith)

  -- the step that is due is accepted
  module _ (p : spent < b) (e : (step_of s m).out.code ≡ 0) (w : With Ran)
      (g : Onward b (spent + (step_of s m).out.cycles) (steps + 1) (step_of s m).out.cpu (step_of s m).mem w) where
    due_before : (k : ℕ) → k < suc g.count → (more_steps k (stepped 0 spent s m)).out.cycles < b
    due_before zero h = unfold more_steps in p
    due_before (suc k) h = rw (first_then k spent s m e) (g.due k (omega arith))

    goes_on_lem : Onward b spent steps s m w
    goes_on_lem =
        record {
          count = suc g.count;
          total = g.total ∙ omega arith;
          taken = first_then g.count spent s m e ∙ g.taken;
          due = due_before;
          met = g.met;
          below = g.below;
          refused = g.refused;
        }

  turn : (t : ℕ) (d : Bool) → ltb spent b ≡ d → (n : ℕ) → (step_of s m).out.code ≡ n
      → ((step_of s m).out.code ≡ 0
      → Onward b (spent + (step_of s m).out.cycles) (steps + 1) (step_of s m).out.cpu (step_of s m).mem
      (run_on t b spent steps s m))
      → Onward b spent steps s m (run_from (suc t) b spent steps s m)
  turn t false d n e rest = rw (run_over b spent steps s m (suc t) (ltb-false _ _ d)) (over (ltb-false _ _ d))
  turn t true d zero e rest =
      rw (run_goes b spent steps s m t (ltb-true _ _ d) e) (goes_on_lem (ltb-true _ _ d) e _ (rest e))
  turn t true d (suc n) e rest =
      let p = ltb-true _ _ d in
      rw (run_refused b spent steps s m t n p e) (stops (suc n) (omega arith) (omega arith) (omega arith))

turns : (t b spent steps : ℕ) (s : Cpu) (m : Memory) → b ≤ spent + t → Onward b spent steps s m (run_from t b spent steps s m)
turns zero b spent steps s m p =
    rw (run_over b spent steps s m 0 (omega arith)) (over b spent steps s m (omega arith))
turns (suc t) b spent steps s m p =
    turn b spent steps s m t _ refl _ refl (λ e. turns t b _ _ _ _ (omega (arith, (step_paid s m).least e)))

-- the turns from the first one on
module _ (b : ℕ) (s : Cpu) (m : Memory) (w : With Ran) (g : Onward b 0 0 s m w) where
  all_taken : after_steps w.out.steps s m ≡ stepped 0 w.out.spent w.out.cpu w.mem
  unfolding after_steps
  all_taken = ap (λ (k : ℕ). more_steps k (stepped 0 0 s m)) (g.total ∙ zero-add _) ∙ g.taken

  none_refused : (after_steps w.out.steps s m).out.code ≡ 0
  none_refused = ap (λ (v : With Stepped). v.out.code) all_taken

  within_budget : (k : ℕ) → k < w.out.steps → costs k s m < b
  unfolding after_steps
  within_budget k l =
      rw (← all_costs s m k (so_far s m w.out.steps k (omega arith) none_refused)) (g.due k (omega (arith, g.total)))

  next_refused : w.out.code ≢ 0 → (step_after w.out.steps s m).out.code ≡ w.out.code
  unfolding step_after
  next_refused n = rw all_taken (g.refused n)

  stepwise : Told w → Stepwise b s m w
  stepwise told =
      record {
        taken = all_taken;
        accepted = λ k l. each s m w.out.steps k l none_refused;
        spent = sym (ap (λ (v : With Stepped). v.out.cycles) all_taken) ∙ all_costs s m w.out.steps none_refused;
        due = λ k l. omega (arith, within_budget k l);
        least = told.0;
        most = told.1;
        met = λ e. omega (arith, g.met e);
        below = λ n. omega (arith, g.below n);
        refused = next_refused;
      }

-- A RUN IS ITS STEPS
pub run_stepwise : (b : ℕ) (s : Cpu) (m : Memory) → length m ≡ memory_size → s.f % 16 ≡ 0 → b ≤ largest_budget
    → Stepwise b s m (run_of b s m)
run_stepwise b s m l f p =
    let w = run_from b b 0 0 s m in
    rw (run_valid b s m l f p)
    (stepwise b s m w (turns b b 0 0 s m (omega arith)) (run_code b b 0 0 s m record { long = l; low = f }))

-- 3 and 4 leave what was spent below the budget, whatever was given
below_at : (b : ℕ) (s : Cpu) (m : Memory) (l f p : Bool)
    → eqb (length m) memory_size ≡ l → eqb (s.f % 16) 0 ≡ f → leb b largest_budget ≡ p
    → 3 ≤ (run_of b s m).out.code → (run_of b s m).out.code ≤ 4 → (run_of b s m).out.spent < b
below_at b s m true true true l f p x y =
    (run_stepwise b s m (eqb-true _ _ l) (eqb-true _ _ f) (leb-true _ _ p)).below (omega arith)
below_at b s m true true false l f p x y =
    let e = ap (λ (w : With Ran). w.out.code) (run_budget b s m (eqb-true _ _ l) (eqb-true _ _ f) (leb-false _ _ p)) in
    absurd (omega arith)
below_at b s m true false p l f q x y =
    let e = ap (λ (w : With Ran). w.out.code) (run_flags b s m (eqb-true _ _ l) (eqb-false _ _ f)) in
    absurd (omega arith)
below_at b s m false f p l g q x y =
    let e = ap (λ (w : With Ran). w.out.code) (run_unfit b s m (eqb-false _ _ l)) in
    absurd (omega arith)

pub stopped_below : (b : ℕ) (s : Cpu) (m : Memory) → 3 ≤ (run_of b s m).out.code → (run_of b s m).out.code ≤ 4
    → (run_of b s m).out.spent < b
stopped_below b s m = below_at b s m _ _ _ refl refl refl

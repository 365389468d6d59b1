-- Runs: the fuel never cuts one short, how many cycles and steps it counts, and how slices of a budget add up.
-- Document 01, "Runs and counts".
-- Assumes nothing.
use Prim.Native.Nat.{ℕ, zero, suc, ◌+◌, ◌-◌, ◌%◌, ◌<◌, ◌≤◌}
use mathlib.Core.Bool.{Bool, true, false}
use mathlib.Core.Logic.{◌≢◌}
use mathlib.Core.Path.{◌≡◌, refl, sym, ap, ◌∙◌}
use native.Mathlib.Nat.{zero-add, add-zero, add_assoc}
use native.Mathlib.Omega.{arith}
use borrow.Author.Tests.{ltb-true, ltb-false, lt-ltb, le-ltb, eq-eqb, ne_eqb, eqb-true, eqb-false}
use lib.Dec.{eqb, ltb}
use lib.ListN.{length}
use Rattle.arith.specs.Refusals.{code_of, unless_refused, order}
use Rattle.arith.proofs.Refusals.{by_code}
use Rattle.machine.specs.Answers.{With}
use Rattle.machine.specs.Memory.{Memory, memory_size}
use Rattle.machine.specs.Step.{Stepped, due_step, step_of}
use Rattle.machine.specs.Run.{Ran, largest_budget, ending, while_below, after_step, run_from, run_refusals, run_of, runs}
use Rattle.machine.specs.declared.Cpu.{Cpu}
use Rattle.machine.proofs.Costs.{step_paid}
use Rattle.machine.proofs.Keeps.{step_length, step_low}
use Rattle.machine.proofs.Refused.{step_unmoved, due_code_least, due_code_most}
use Rattle.machine.proofs.Rules.{step_due}

-- a turn of a run: nothing is due, the step is refused, or it is accepted
data Turn (b spent : ℕ) (s : Cpu) (m : Memory) : Type 0 where
  over : b ≤ spent → Turn b spent s m
  refused : (n : ℕ) → spent < b → (step_of s m).out.code ≡ suc n → Turn b spent s m
  goes : spent < b → (step_of s m).out.code ≡ 0 → Turn b spent s m

module _ (b spent : ℕ) (s : Cpu) (m : Memory) where
  by_answer : spent < b → (n : ℕ) → (step_of s m).out.code ≡ n → Turn b spent s m
  by_answer p zero e = goes p e
  by_answer p (suc n) e = refused n p e

  by_budget : (t : Bool) → ltb spent b ≡ t → Turn b spent s m
  by_budget true e = by_answer (ltb-true _ _ e) _ refl
  by_budget false e = over (ltb-false _ _ e)

  turn : Turn b spent s m
  turn = by_budget _ refl

-- the run after the step that is due
abbrev pub run_on : ℕ → ℕ → ℕ → ℕ → Cpu → Memory → With Ran
run_on t b spent steps s m =
    run_from t b (spent + (step_of s m).out.cycles) (steps + 1) (step_of s m).out.cpu (step_of s m).mem

-- the run at such a turn
module _ (b spent steps : ℕ) (s : Cpu) (m : Memory) where
  pub run_over : (t : ℕ) → b ≤ spent → run_from t b spent steps s m ≡ ending 0 spent steps s m
  unfolding run_from while_below
  run_over zero p = refl
  run_over (suc t) p = rw (le-ltb spent b p)

  pub run_refused : (t n : ℕ) → spent < b → (step_of s m).out.code ≡ suc n
      → run_from (suc t) b spent steps s m ≡ ending (suc n) spent steps s m
  unfolding run_from while_below after_step unless_refused
  run_refused t n p e = rw (lt-ltb spent b p, e)

  pub run_goes : (t : ℕ) → spent < b → (step_of s m).out.code ≡ 0
      → run_from (suc t) b spent steps s m ≡ run_on t b spent steps s m
  unfolding run_from while_below after_step unless_refused
  run_goes t p e = rw (lt-ltb spent b p, e)

-- a run of budget 1 is one step, taken where it is not refused
unfoldable pub steps_taken : ℕ → ℕ
steps_taken zero = 1
steps_taken (suc n) = 0

abbrev pub one_step : With Stepped → With Ran
one_step w = ending w.out.code w.out.cycles (steps_taken w.out.code) w.out.cpu w.mem

step_run_at : (s : Cpu) (m : Memory) → Turn 1 0 s m
    → run_from 1 1 0 0 s m ≡ one_step (step_of s m)
unfolding steps_taken
step_run_at s m (over p) = absurd (omega arith)
step_run_at s m (refused n p e) =
    let u = step_unmoved s m in
    let ne : (step_of s m).out.code ≢ 0 = omega arith in
    run_refused 1 0 0 s m 0 n p e ∙ rw (e, u.cpu ne, u.mem ne, u.cycles ne)
step_run_at s m (goes p e) =
    run_goes 1 0 0 s m 0 p e ∙ run_over 1 _ 1 _ _ 0 (omega (arith, (step_paid s m).least e)) ∙ rw (e, zero-add)

pub step_is_run : (s : Cpu) (m : Memory) → run_from 1 1 0 0 s m ≡ one_step (step_of s m)
step_is_run s m = step_run_at s m (turn 1 0 s m)

-- fuel: with as many turns as the budget has cycles left, more turns change nothing

fuel_at : (t t' b spent steps : ℕ) (s : Cpu) (m : Memory) → Turn b spent s m
    → ((step_of s m).out.code ≡ 0
    → run_on t b spent steps s m
    ≡ run_on t' b spent steps s m)
    → run_from (suc t) b spent steps s m ≡ run_from (suc t') b spent steps s m
fuel_at t t' b spent steps s m (over p) k = run_over b spent steps s m (suc t) p ∙ sym (run_over b spent steps s m (suc t') p)
fuel_at t t' b spent steps s m (refused n p e) k =
    run_refused b spent steps s m t n p e ∙ sym (run_refused b spent steps s m t' n p e)
fuel_at t t' b spent steps s m (goes p e) k = run_goes b spent steps s m t p e ∙ k e ∙ sym (run_goes b spent steps s m t' p e)

pub fuel : (t t' b spent steps : ℕ) (s : Cpu) (m : Memory) → b ≤ spent + t → b ≤ spent + t'
    → run_from t b spent steps s m ≡ run_from t' b spent steps s m
fuel zero t' b spent steps s m p q =
    run_over b spent steps s m 0 (omega arith) ∙ sym (run_over b spent steps s m t' (omega arith))
fuel (suc t) zero b spent steps s m p q =
    run_over b spent steps s m (suc t) (omega arith) ∙ sym (run_over b spent steps s m 0 (omega arith))
fuel (suc t) (suc t') b spent steps s m p q =
    fuel_at t t' b spent steps s m (turn b spent s m)
    (λ e. fuel t t' b _ _ _ _ (omega (arith, (step_paid s m).least e)) (omega (arith, (step_paid s m).least e)))

pub fuel_enough : (b n : ℕ) (s : Cpu) (m : Memory) → run_from b b 0 0 s m ≡ run_from (b + n) b 0 0 s m
fuel_enough b n s m = fuel b (b + n) b 0 0 s m (omega arith) (omega arith)

-- the turns of a run as the code takes them: the number of turns left is the budget throughout, which is always enough

module _ (b spent steps : ℕ) (s : Cpu) (m : Memory) (long : length m ≡ memory_size) (low : s.f % 16 ≡ 0) where
  pub turn_taken : spent < b → (due_step s m).out.code ≡ 0
      → run_from b b spent steps s m ≡ run_from b b (spent + (due_step s m).out.cycles) (steps + 1) (due_step s m).out.cpu (due_step s m).mem
  turn_taken p e =
      fuel b (suc b) b spent steps s m (omega arith) (omega arith) ∙ run_goes b spent steps s m b p (rw (step_due s m long low) e)
      ∙ rw (step_due s m long low)

  refused_at : (n : ℕ) → (due_step s m).out.code ≡ n → n ≢ 0 → spent < b → run_from b b spent steps s m ≡ ending n spent steps s m
  refused_at zero e ne p = absurd (ne refl)
  refused_at (suc n) e ne p =
      fuel b (suc b) b spent steps s m (omega arith) (omega arith)
      ∙ run_refused b spent steps s m b n p (rw (step_due s m long low) e)

  pub turn_refused : spent < b → (due_step s m).out.code ≢ 0 → run_from b b spent steps s m ≡ ending (due_step s m).out.code spent steps s m
  turn_refused p ne = refused_at (due_step s m).out.code refl ne p

-- counts: a run that ends with 0 has spent its budget and at most 5 more, and each step has spent at least one cycle

pub record Counted (b : ℕ) (w : With Ran) : Type 0 where
  pub least : w.out.code ≡ 0 → b ≤ w.out.spent
  pub most : w.out.spent ≤ b + 5
  pub steps : w.out.steps ≤ w.out.spent

counted_at : (t b spent steps : ℕ) (s : Cpu) (m : Memory) → Turn b spent s m → spent ≤ b + 5 → steps ≤ spent
    → (spent < b → (step_of s m).out.code ≡ 0 → Counted b (run_on t b spent steps s m))
    → Counted b (run_from (suc t) b spent steps s m)
counted_at t b spent steps s m (over p) q r k = rw (run_over b spent steps s m (suc t) p) (omega arith)
counted_at t b spent steps s m (refused n p e) q r k = rw (run_refused b spent steps s m t n p e) (omega arith)
counted_at t b spent steps s m (goes p e) q r k = rw (run_goes b spent steps s m t p e) (k p e)

pub counted : (t b spent steps : ℕ) (s : Cpu) (m : Memory) → b ≤ spent + t → spent ≤ b + 5 → steps ≤ spent
    → Counted b (run_from t b spent steps s m)
counted zero b spent steps s m p q r = rw (run_over b spent steps s m 0 (omega arith)) (omega arith)
counted (suc t) b spent steps s m p q r =
    counted_at t b spent steps s m (turn b spent s m) q r
    (λ l e.
    counted t b _ _ _ _ (omega (arith, (step_paid s m).least e)) (omega (arith, (step_paid s m).most))
    (omega (arith, (step_paid s m).least e)))

pub run_counted : (b : ℕ) (s : Cpu) (m : Memory) → Counted b (run_from b b 0 0 s m)
run_counted b s m = counted b b 0 0 s m (omega arith) (omega arith) (omega arith)

-- refusals 1, 2 and 5, in their order, and then the turns
pub run_unfit : (b : ℕ) (s : Cpu) (m : Memory) → length m ≢ memory_size → run_of b s m ≡ ending 1 0 0 s m
unfolding order runs
run_unfit b s m l = rw (ne_eqb _ _ l)

pub run_flags : (b : ℕ) (s : Cpu) (m : Memory) → length m ≡ memory_size → s.f % 16 ≢ 0 → run_of b s m ≡ ending 2 0 0 s m
unfolding order runs
run_flags b s m l f = rw (eq-eqb _ _ l, ne_eqb _ _ f)

pub run_budget : (b : ℕ) (s : Cpu) (m : Memory) → length m ≡ memory_size → s.f % 16 ≡ 0 → largest_budget < b
    → run_of b s m ≡ ending 5 0 0 s m
unfolding order runs
run_budget b s m l f p = rw (eq-eqb _ _ l, eq-eqb _ _ f, lt-ltb _ _ p)

pub run_valid : (b : ℕ) (s : Cpu) (m : Memory) → length m ≡ memory_size → s.f % 16 ≡ 0 → b ≤ largest_budget
    → run_of b s m ≡ run_from b b 0 0 s m
unfolding order runs
run_valid b s m l f p = rw (eq-eqb _ _ l, eq-eqb _ _ f, le-ltb _ _ p)

-- budget 0 takes no step
pub run_none : (s : Cpu) (m : Memory) → length m ≡ memory_size → s.f % 16 ≡ 0 → run_of 0 s m ≡ ending 0 0 0 s m
unfolding run_from
run_none s m l f = run_valid 0 s m l f (omega arith)

-- what holds of the turns and of every refused run holds of a run
pub by_run : (P : With Ran → Type 0) (b : ℕ) (s : Cpu) (m : Memory) → ((n : ℕ) → P (ending (suc n) 0 0 s m))
    → P (run_from b b 0 0 s m) → P (run_of b s m)
unfolding run_of
by_run P b s m r q = by_code P (λ _. run_from b b 0 0 s m) (λ n. ending n 0 0 s m) r q (code_of (run_refusals b s m))

-- counts of a run with its refusals
pub run_of_counted : (b : ℕ) (s : Cpu) (m : Memory) → Counted b (run_of b s m)
run_of_counted b s m = by_run (Counted b) b s m (λ _. omega arith) (run_counted b s m)

-- what each step keeps, a run keeps

keeps_at : (P : Cpu → Memory → Type 0) (t b spent steps : ℕ) (s : Cpu) (m : Memory) → Turn b spent s m → P s m
    → (let w = run_on t b spent steps s m in P w.out.cpu w.mem)
    → (let w = run_from (suc t) b spent steps s m in P w.out.cpu w.mem)
keeps_at P t b spent steps s m (over p) h k = rw (run_over b spent steps s m (suc t) p) h
keeps_at P t b spent steps s m (refused n p e) h k = rw (run_refused b spent steps s m t n p e) h
keeps_at P t b spent steps s m (goes p e) h k = rw (run_goes b spent steps s m t p e) k

pub run_keeps : (P : Cpu → Memory → Type 0)
    → ((s : Cpu) (m : Memory) → P s m → P (step_of s m).out.cpu (step_of s m).mem)
    → (t b spent steps : ℕ) (s : Cpu) (m : Memory) → P s m
    → (let w = run_from t b spent steps s m in P w.out.cpu w.mem)
unfolding run_from
run_keeps P k zero b spent steps s m h = h
run_keeps P k (suc t) b spent steps s m h =
    keeps_at P t b spent steps s m (turn b spent s m) h (run_keeps P k t b _ _ _ _ (k s m h))

-- valid input stays valid, and then a run ends with 0, 3 or 4

pub record Valid (s : Cpu) (m : Memory) : Type 0 where
  pub long : length m ≡ memory_size
  pub low : s.f % 16 ≡ 0

pub step_valid : (s : Cpu) (m : Memory) → Valid s m → Valid (step_of s m).out.cpu (step_of s m).mem
step_valid s m v = record { long = step_length s m ∙ v.long; low = step_low s m v.low }

-- the numbers of such a run
abbrev pub Told : With Ran → Type 0
Told w = (w.out.code ≢ 0 → 3 ≤ w.out.code) × (w.out.code ≤ 4)

told_at : (t b spent steps : ℕ) (s : Cpu) (m : Memory) → Turn b spent s m → Valid s m
    → Told (run_on t b spent steps s m)
    → Told (run_from (suc t) b spent steps s m)
told_at t b spent steps s m (over p) v k = rw (run_over b spent steps s m (suc t) p) (omega arith)
told_at t b spent steps s m (refused n p e) v k =
    let f = ap (λ (w : With Stepped). w.out.code) (step_due s m v.long v.low) in
    let c = due_code_least s m (omega arith) in
    rw (run_refused b spent steps s m t n p e) (omega (arith, due_code_most s m))
told_at t b spent steps s m (goes p e) v k = rw (run_goes b spent steps s m t p e) k

pub run_code : (t b spent steps : ℕ) (s : Cpu) (m : Memory) → Valid s m
    → Told (run_from t b spent steps s m)
unfolding run_from
run_code zero b spent steps s m v = omega arith
run_code (suc t) b spent steps s m v =
    told_at t b spent steps s m (turn b spent s m) v (run_code t b _ _ _ _ (step_valid s m v))

-- slices: a run of budget b, and then the rest

-- a run that came after c cycles and k steps
abbrev pub after : ℕ → ℕ → With Ran → With Ran
after c k w = ending w.out.code (c + w.out.spent) (k + w.out.steps) w.out.cpu w.mem

shift_at : (t b c k spent steps : ℕ) (s : Cpu) (m : Memory) → Turn (b - c) spent s m
    → ((step_of s m).out.code ≡ 0
    → run_from t b (c + (spent + (step_of s m).out.cycles)) (k + (steps + 1)) (step_of s m).out.cpu (step_of s m).mem
    ≡ after c k (run_on t (b - c) spent steps s m))
    → run_from (suc t) b (c + spent) (k + steps) s m ≡ after c k (run_from (suc t) (b - c) spent steps s m)
shift_at t b c k spent steps s m (over p) h =
    rw (run_over b (c + spent) (k + steps) s m (suc t) (omega arith), run_over (b - c) spent steps s m (suc t) p)
shift_at t b c k spent steps s m (refused n p e) h =
    rw (run_refused b (c + spent) (k + steps) s m t n (omega arith) e, run_refused (b - c) spent steps s m t n p e)
shift_at t b c k spent steps s m (goes p e) h =
    let long = run_goes b (c + spent) (k + steps) s m t (omega arith) e in
    let short = run_goes (b - c) spent steps s m t p e in
    rw (long, short, add_assoc, add_assoc) (h e)

-- counting on from c cycles and k steps is counting from 0 with the budget that is left
pub shift : (t b c k spent steps : ℕ) (s : Cpu) (m : Memory)
    → run_from t b (c + spent) (k + steps) s m ≡ after c k (run_from t (b - c) spent steps s m)
unfolding run_from
shift zero b c k spent steps s m = refl
shift (suc t) b c k spent steps s m = shift_at t b c k spent steps s m (turn (b - c) spent s m) (λ _. shift t b c k _ _ _ _)

-- a run taken up again, up to the budget B in all; one that was refused stays as it is
unfoldable pub resumed : ℕ → With Ran → With Ran
resumed B w =
    unless_refused w.out.code
    (λ _. after w.out.spent w.out.steps (run_from (B - w.out.spent) (B - w.out.spent) 0 0 w.out.cpu w.mem))
    (λ _. w)

onward : (T B spent steps : ℕ) (s : Cpu) (m : Memory) → B ≤ spent + T
    → run_from T B spent steps s m ≡ after spent steps (run_from (B - spent) (B - spent) 0 0 s m)
onward T B spent steps s m p =
    fuel T (B - spent) B spent steps s m p (omega arith) ∙ (simp add-zero at (shift (B - spent) B spent steps 0 0 s m))

split_at : (t T b B spent steps : ℕ) (s : Cpu) (m : Memory) → Turn b spent s m → b ≤ B → B ≤ spent + suc T
    → ((step_of s m).out.code ≡ 0
    → run_on T B spent steps s m
    ≡ resumed B (run_on t b spent steps s m))
    → run_from (suc T) B spent steps s m ≡ resumed B (run_from (suc t) b spent steps s m)
split_at t T b B spent steps s m (over p) o q h =
    rw (run_over b spent steps s m (suc t) p) (unfold resumed unless_refused in onward (suc T) B spent steps s m q)
split_at t T b B spent steps s m (refused n p e) o q h =
    let long = run_refused B spent steps s m T n (omega arith) e in
    rw (run_refused b spent steps s m t n p e, long) (unfold resumed unless_refused in refl)
split_at t T b B spent steps s m (goes p e) o q h =
    rw (run_goes b spent steps s m t p e, run_goes B spent steps s m T (omega arith) e) (h e)

pub split : (t T b B spent steps : ℕ) (s : Cpu) (m : Memory) → b ≤ B → b ≤ spent + t → B ≤ spent + T
    → run_from T B spent steps s m ≡ resumed B (run_from t b spent steps s m)
split zero T b B spent steps s m o p q =
    rw (run_over b spent steps s m 0 (omega arith)) (unfold resumed unless_refused in onward T B spent steps s m q)
split (suc t) zero b B spent steps s m o p q =
    rw (run_over b spent steps s m (suc t) (omega arith)) (unfold resumed unless_refused in onward zero B spent steps s m q)
split (suc t) (suc T) b B spent steps s m o p q =
    split_at t T b B spent steps s m (turn b spent s m) o q
    (λ e. split t T b B _ _ _ _ o (omega (arith, (step_paid s m).least e)) (omega (arith, (step_paid s m).least e)))

pub slices : (b B : ℕ) (s : Cpu) (m : Memory) → b ≤ B → run_from B B 0 0 s m ≡ resumed B (run_from b b 0 0 s m)
slices b B s m o = split b B b B 0 0 s m o (omega arith) (omega arith)

-- the same of whole runs, refusals and all: a host may slice a budget as it likes
unfoldable pub continued : ℕ → With Ran → With Ran
continued B w =
    unless_refused w.out.code
    (λ _. after w.out.spent w.out.steps (run_of (B - w.out.spent) w.out.cpu w.mem))
    (λ _. w)

-- the rest of a run of valid input is a run of valid input
continued_valid : (B : ℕ) (w : With Ran) → B ≤ largest_budget → Valid w.out.cpu w.mem → continued B w ≡ resumed B w
unfolding continued resumed
continued_valid B w p v = rw (run_valid (B - w.out.spent) w.out.cpu w.mem v.long v.low (omega arith))

slices_at : (b B : ℕ) (s : Cpu) (m : Memory) (l f : Bool)
    → eqb (length m) memory_size ≡ l → eqb (s.f % 16) 0 ≡ f → b ≤ B → B ≤ largest_budget
    → run_of B s m ≡ continued B (run_of b s m)
slices_at b B s m true true l f o p =
    let v : Valid s m = record { long = eqb-true _ _ l; low = eqb-true _ _ f } in
    let first = run_valid b s m v.long v.low (omega arith) in
    let all = run_valid B s m v.long v.low p in
    let rest = continued_valid B (run_from b b 0 0 s m) p (run_keeps Valid step_valid b b 0 0 s m v) in
    rw (first, all, rest)
    (slices b B s m o)
slices_at b B s m true false l f o p =
    let first = run_flags b s m (eqb-true _ _ l) (eqb-false _ _ f) in
    let all = run_flags B s m (eqb-true _ _ l) (eqb-false _ _ f) in
    rw (first, all) (unfold continued unless_refused in refl)
slices_at b B s m false f l e o p =
    rw (run_unfit b s m (eqb-false _ _ l), run_unfit B s m (eqb-false _ _ l)) (unfold continued unless_refused in refl)

pub run_slices : (b B : ℕ) (s : Cpu) (m : Memory) → b ≤ B → B ≤ largest_budget → run_of B s m ≡ continued B (run_of b s m)
run_slices b B s m o p = slices_at b B s m _ _ refl refl o p

pub slice_done : (b B : ℕ) (s : Cpu) (m : Memory) → b ≤ B → B ≤ largest_budget → (run_of b s m).out.code ≡ 0
    → run_of B s m ≡ (let w = run_of b s m in after w.out.spent w.out.steps (run_of (B - w.out.spent) w.out.cpu w.mem))
unfolding continued unless_refused
slice_done b B s m o p e = run_slices b B s m o p ∙ rw e

pub slice_refused : (b B : ℕ) (s : Cpu) (m : Memory) → b ≤ B → B ≤ largest_budget → (run_of b s m).out.code ≢ 0
    → run_of B s m ≡ run_of b s m
unfolding continued unless_refused
slice_refused b B s m o p e = run_slices b B s m o p ∙ at (run_of b s m).out.code refl
  where
    at : (n : ℕ) → (run_of b s m).out.code ≡ n → continued B (run_of b s m) ≡ run_of b s m
    at zero z = absurd (e z)
    at (suc n) z = rw z

-- What `run` promises, which is `Post`, the claim that is read off its own `ensures`: every answer and memory that meet it are a run
-- step by step and, where the premises of the adding routine hold, the sum. So the theorems bind the code and not the definition
-- alone, and a promise that says less does not have them.
-- Assumes nothing.
use Prim.Native.Nat.{ℕ, ◌+◌, ◌*◌, ◌%◌, ◌≤◌}
use mathlib.Core.Path.{◌≡◌, sym, ◌∙◌, ap}
use contract.Lifetimes.{Lfts}
use borrow.Fn.Kinds.{Dens, res_t, ended_of}
use denote.Triple.Clauses.{AtExit}
use native.Mathlib.Omega.{arith}
use lib.ListN.{length}
use Rattle.machine.specs.Answers.{With, Gives}
use Rattle.machine.specs.Memory.{memory_size, Memory}
use Rattle.machine.specs.Run.{Ran, largest_budget, run_of}
use Rattle.machine.specs.Told.{told_run}
use Rattle.machine.specs.declared.Cpu.{Cpu}
use Rattle.machine.proofs.run.run.Kinds as kinds
use Rattle.machine.proofs.run.run.Reads as reads
use Rattle.routines.specs.Premises.{Given}
use Rattle.routines.specs.Adding.{adding_routine}
use Rattle.routines.proofs.Adding.{adding, run_adds}
use Rattle.runs.specs.Stepwise.{Stepwise}
use Rattle.runs.specs.Outcome.{AddedBy}
use Rattle.runs.proofs.Stepwise.{run_stepwise}

-- an outcome that meets a promise is the one that is promised
outcome : {w : With Ran} {r : Ran} {left : Memory} → Gives w r left → w ≡ record { out = r; mem = left }
outcome g = λ i. record { out = sym g.answers i; mem = sym g.leaves i }

-- of what is stated by `Gives`
pub stepwise_given : {b : ℕ} {s : Cpu} {m : Memory} {r : Ran} {left : Memory} → Gives (run_of b s m) r left
    → length m ≡ memory_size → s.f % 16 ≡ 0 → b ≤ largest_budget → Stepwise b s m (record { out = r; mem = left })
stepwise_given {b} {s} {m} g l f p = rw (outcome g) at (run_stepwise b s m l f p)

pub added_given : {n b : ℕ} {s : Cpu} {m : Memory} {dst src : ℕ} {r : Ran} {left : Memory} → Gives (run_of b s m) r left
    → b ≡ 13 * n + 4 → Given adding_routine n s m dst src → AddedBy n s m dst src r left
added_given {n} {b} {s} {m} {r = r} g e h =
    let t = adding h in
    let whole = ap (λ (k : ℕ). run_of k s m) e ∙ run_adds h t in
    let same = g.answers ∙ ap (λ (w : With Ran). w.out) whole in
    let spent : r.spent ≡ 13 * n + 4 = ap (λ (x : Ran). x.spent) same in
    let steps : r.steps ≡ 7 * n + 2 = ap (λ (x : Ran). x.steps) same in
    record {
      code = ap (λ (x : Ran). x.code) same;
      spent = omega arith;
      steps = omega arith;
      sum = t;
      cpu = ap (λ (x : Ran). x.cpu) same;
      mem = g.leaves ∙ ap (λ (w : With Ran). w.mem) whole;
    }

-- of the promise itself: a is the state, the memory and the budget, r the answer, which `told_run` says in numbers, e the parameters at
-- exit
module _ (κs : Lfts 1) (a : Dens κs kinds.ps) (r : (res_t kinds.r κs).Denot) (e : AtExit (ended_of 1 kinds.ps kinds.r) κs)
    (promise : reads.Post κs a r e) where
  pub run_is_its_steps : length a.1.0.now ≡ memory_size → a.0.f % 16 ≡ 0 → a.1.1.0 ≤ largest_budget
      → Stepwise a.1.1.0 a.0 a.1.0.now (record { out = told_run r; mem = e.1.0.now })
  run_is_its_steps = stepwise_given promise

  pub run_adds_up : (n dst src : ℕ) → a.1.1.0 ≡ 13 * n + 4 → Given adding_routine n a.0 a.1.0.now dst src
      → AddedBy n a.0 a.1.0.now dst src (told_run r) e.1.0.now
  run_adds_up n dst src = added_given promise

-- The two public promises determine the answer and the memory that is left: as in the crate arith, of `Post`. A refusal is told by its
-- number, which no other has.
-- Assumes nothing.
use Rattle.std.proofs.Common.{ℕ, List, ◌≡◌, Option, None, Some, Result, Ok, Err, refl, sym, ap}
use Rattle.arith.specs.declared.Refusal.{Refusal}
use Rattle.arith.proofs.Numbers.{number_once, number_some}
use Rattle.arith.proofs.Unique.{same, OneOutcome}
use Rattle.machine.specs.Answers.{With, Gives}
use Rattle.machine.specs.Step.{Stepped}
use Rattle.machine.specs.Run.{Ran}
use Rattle.machine.specs.Told.{told_step, number_if, told_run}
use Rattle.machine.specs.declared.Cpu.{Cpu}
use Rattle.machine.specs.declared.Taken.{Taken}
use Rattle.machine.specs.declared.Ran as answered
use Rattle.machine.proofs.run.step.Reads as step
use Rattle.machine.proofs.run.run.Reads as run

-- what is stated by `Gives` determines both
pub gives_one : {A : Type 0} {w : With A} {x y : A} {m l : List ℕ} → Gives w x m → Gives w y l → (x ≡ y) × (m ≡ l)
gives_one p q = (same p.answers q.answers, same p.leaves q.leaves)

-- two answers that are told the same are one
pub step_told_once : (s : Cpu) (x y : Result Taken Refusal) → told_step s x ≡ told_step s y → x ≡ y
step_told_once s (Ok t) (Ok u) e =
    let cycles = ap (λ (w : Stepped). w.cycles) e in
    let cpu = ap (λ (w : Stepped). w.cpu) e in
    ap Ok (one t u cycles cpu)
  where
    one : (t u : Taken) → t.cycles ≡ u.cycles → t.cpu ≡ u.cpu → t ≡ u
    one t u cycles cpu i = record { cycles = cycles i; cpu = cpu i }
step_told_once s (Ok t) (Err r) e = absurd (number_some r (sym (ap (λ (w : Stepped). w.code) e)))
step_told_once s (Err r) (Ok t) e = absurd (number_some r (ap (λ (w : Stepped). w.code) e))
step_told_once s (Err r) (Err q) e = ap Err (number_once r q (ap (λ (w : Stepped). w.code) e))

pub number_if_once : (x y : Option Refusal) → number_if x ≡ number_if y → x ≡ y
number_if_once None None e = refl
number_if_once None (Some r) e = absurd (number_some r (sym e))
number_if_once (Some r) None e = absurd (number_some r e)
number_if_once (Some r) (Some q) e = ap Some (number_once r q e)

pub run_told_once : (x y : answered.Ran) → told_run x ≡ told_run y → x ≡ y
run_told_once x y e i =
    record {
      refusal = number_if_once x.refusal y.refusal (ap (λ (w : Ran). w.code) e) i;
      spent = (e i).spent;
      steps = (e i).steps;
      cpu = (e i).cpu;
    }

pub step_unique : OneOutcome step.Post (λ κs e. e.1.0.now)
step_unique _ a x y _ _ p q = (step_told_once a.0 x y (same p.answers q.answers), same p.leaves q.leaves)

pub run_unique : OneOutcome run.Post (λ κs e. e.1.0.now)
run_unique _ _ x y _ _ p q = (run_told_once x y (same p.answers q.answers), same p.leaves q.leaves)

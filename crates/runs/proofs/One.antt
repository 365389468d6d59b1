-- `Stepwise` says all that there is to say of a run: two outcomes of which it holds are one. So nothing in it can be left out.
-- Assumes nothing.
use Prim.Native.Nat.{ℕ, zero, suc, ◌≤◌}
use mathlib.Core.Bool.{Bool, true, false}
use mathlib.Core.Path.{◌≡◌, refl, sym, ◌∙◌, ap}
use native.Mathlib.Omega.{arith}
use borrow.Author.Tests.{ltb-true, ltb-false}
use lib.Dec.{ltb}
use Rattle.machine.specs.Answers.{With}
use Rattle.machine.specs.Memory.{Memory}
use Rattle.machine.specs.declared.Cpu.{Cpu}
use Rattle.machine.specs.Run.{Ran}
use Rattle.machine.specs.Step.{Stepped}
use Rattle.routines.specs.Steps.{after_steps}
use Rattle.runs.specs.Stepwise.{step_after, costs, Stepwise}

module _ {b : ℕ} {s : Cpu} {m : Memory} where
  module _ {w v : With Ran} (x : Stepwise b s m w) (y : Stepwise b s m v) where
    -- the other run has no step more: it would be one that was not due, or one that was refused
    at_most : (n : ℕ) → w.out.code ≡ n → (d : Bool) → ltb w.out.steps v.out.steps ≡ d → v.out.steps ≤ w.out.steps
    at_most n e false d = ltb-false _ _ d
    at_most zero e true d =
        absurd (omega (arith, x.met e, x.spent, y.due w.out.steps (ltb-true _ _ d)))
    at_most (suc n) e true d =
        absurd (omega (arith, x.refused (omega arith), y.accepted w.out.steps (ltb-true _ _ d)))

    no_more : v.out.steps ≤ w.out.steps
    no_more = at_most _ refl _ refl

  module _ {w v : With Ran} (x : Stepwise b s m w) (y : Stepwise b s m v) where
    same_steps : w.out.steps ≡ v.out.steps
    same_steps = omega (arith, no_more x y, no_more y x)

    same_after : after_steps w.out.steps s m ≡ after_steps v.out.steps s m
    same_after = ap (λ (k : ℕ). after_steps k s m) same_steps

    same_spent : w.out.spent ≡ v.out.spent
    same_spent = x.spent ∙ ap (λ (k : ℕ). costs k s m) same_steps ∙ sym y.spent

    same_next : (step_after w.out.steps s m).out.code ≡ (step_after v.out.steps s m).out.code
    same_next = ap (λ (k : ℕ). (step_after k s m).out.code) same_steps

    code_at : (c d : ℕ) → w.out.code ≡ c → v.out.code ≡ d → w.out.code ≡ v.out.code
    code_at zero zero e g = e ∙ sym g
    code_at zero (suc d) e g = absurd (omega (arith, x.met e, y.below (omega arith), same_spent))
    code_at (suc c) zero e g = absurd (omega (arith, y.met g, x.below (omega arith), same_spent))
    code_at (suc c) (suc d) e g = sym (x.refused (omega arith)) ∙ same_next ∙ y.refused (omega arith)

    pub one_run : w ≡ v
    one_run =
        let code = code_at _ _ refl refl in
        let ends = sym x.taken ∙ same_after ∙ y.taken in
        let cpu = ap (λ (u : With Stepped). u.out.cpu) ends in
        let mem = ap (λ (u : With Stepped). u.mem) ends in
        λ i. record { out = record { code = code i; spent = same_spent i; steps = same_steps i; cpu = cpu i }; mem = mem i }

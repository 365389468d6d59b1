-- Principles for laws of a step: what holds of a refusal and of an accepted act holds of a step behind any refusals, and what holds
-- of the dispatch, of the idle step and of the instruction at PC holds of the act.
-- Assumes nothing.
use Prim.Native.Nat.{ℕ, suc, ◌%◌}
use mathlib.Core.Bool.{Bool, true, false, not, ◌&&◌}
use mathlib.Core.List.{List}
use mathlib.Core.Logic.{◌≢◌, ◌↔◌}
use mathlib.Core.Path.{◌≡◌, refl, sym, ap}
use borrow.Author.Tests.{eqb-true, eqb-false, eq-eqb, ne_eqb, not-true}
use native.Mathlib.Omega.{arith}
use lib.Dec.{eqb}
use lib.ListN.{length}
use Rattle.arith.specs.Refusals.{Refusal, code_of, order}
use Rattle.arith.proofs.Refusals.{by_code}
use Rattle.machine.specs.Memory.{Memory, memory_size}
use Rattle.machine.specs.Answers.{With, storeless}
use Rattle.machine.specs.Modes.{is_on, is_halted, is_stopped}
use Rattle.machine.specs.Interrupts.{dispatch_due_of, dispatch_of}
use Rattle.machine.specs.Step.{Stepped, Act, act, refusing, accepting, dispatches, idles, instruction_act, rule_by, rule_of, input_refusals, step_refusals, step_unless, due_step, step_of}
use Rattle.machine.specs.declared.Ime.{Ime}
use Rattle.machine.specs.declared.Ime.TheVariants.{Off, Arming, On}
use Rattle.machine.specs.declared.Mode.{Mode}
use Rattle.machine.specs.declared.Mode.TheVariants.{Running, Repeat, Halted, Stopped}
use Rattle.machine.specs.declared.Cpu.{Cpu}

-- a step behind any refusals

pub by_outcome : (P : With Stepped → Type 0) (a : Act) (s : Cpu) (m : Memory) → ((n : ℕ) → P (refusing (suc n) s m))
    → P (accepting a m) → (rs : List Refusal) → P (step_unless rs a s m)
by_outcome P a s m refused accepted rs = by_code P (λ _. accepting a m) (λ n. refusing n s m) refused accepted (code_of rs)

-- Q holds where each rule leads
pub record Rules (Q : Act → Type 0) (s : Cpu) (m : Memory) : Type 0 where
  pub dispatch : Q (act 5 (dispatch_of s m))
  pub idle : Q (act 1 (storeless s))
  pub insn : Q (instruction_act s m)

module _ (Q : Act → Type 0) (s : Cpu) (m : Memory) (r : Rules Q s m) where
  at_rules : (d i : Bool) → Q (rule_by d i s m)
  unfolding rule_by
  at_rules true i = r.dispatch
  at_rules false true = r.idle
  at_rules false false = r.insn

  pub by_rules : Q (rule_of s m)
  unfolding rule_of
  by_rules = at_rules _ _

pub step_due : (s : Cpu) (m : Memory) → length m ≡ memory_size → s.f % 16 ≡ 0 → step_of s m ≡ due_step s m
unfolding order input_refusals step_refusals step_of
step_due s m l f = rw (eq-eqb _ _ l, eq-eqb _ _ f)

-- a step that is accepted is a dispatch where one is due; where none is, and it is not idle, it is the instruction at PC
pub step_dispatch : (s : Cpu) (m : Memory) → dispatches s m ≡ true → (step_of s m).out.code ≡ 0
    → step_of s m ≡ accepting (act 5 (dispatch_of s m)) m
unfolding rule_of rule_by step_of
step_dispatch s m d =
    by_outcome (λ w. w.out.code ≡ 0 → w ≡ accepting (act 5 (dispatch_of s m)) m) (rule_of s m) s m (λ n c. absurd (omega arith)) (λ _. rw d)
    (step_refusals s m)

pub step_insn : (s : Cpu) (m : Memory) → dispatches s m ≡ false → idles s m ≡ false → (step_of s m).out.code ≡ 0
    → step_of s m ≡ accepting (instruction_act s m) m
unfolding rule_of rule_by step_of
step_insn s m d i =
    by_outcome (λ w. w.out.code ≡ 0 → w ≡ accepting (instruction_act s m) m) (rule_of s m) s m (λ n c. absurd (omega arith)) (λ _. rw (d, i))
    (step_refusals s m)

-- the tests in document 01's words

pub bool_apart : true ≡ false → ⊥
bool_apart e = let z : ◌≡◌ {A = ℕ} 0 1 = cc in omega arith

pub stopped_is : (mode : Mode) → (is_stopped mode ≡ true) ↔ (mode ≡ Stopped)
unfolding is_stopped
stopped_is Running = (λ e. absurd (bool_apart (sym e)), λ e. ap is_stopped e)
stopped_is Repeat = (λ e. absurd (bool_apart (sym e)), λ e. ap is_stopped e)
stopped_is Halted = (λ e. absurd (bool_apart (sym e)), λ e. ap is_stopped e)
stopped_is Stopped = (λ _. refl, λ _. refl)

pub dispatch_is : (ime : Ime) (p : ℕ) → (dispatch_due_of ime p ≡ true) ↔ ((ime ≡ On) × (p ≢ 0))
unfolding dispatch_due_of is_on
dispatch_is Off p = (λ e. absurd (bool_apart (sym e)), λ h. ap is_on h.0)
dispatch_is Arming p = (λ e. absurd (bool_apart (sym e)), λ h. ap is_on h.0)
dispatch_is On p = (λ e. (refl, eqb-false p 0 (not-true _ e)), λ h. ap not (ne_eqb p 0 h.1))

pub idle_is : (mode : Mode) (p : ℕ) → ((is_halted mode && eqb p 0) ≡ true) ↔ ((mode ≡ Halted) × (p ≡ 0))
unfolding is_halted
idle_is Running p = (λ e. absurd (bool_apart (sym e)), λ h. ap is_halted h.0)
idle_is Repeat p = (λ e. absurd (bool_apart (sym e)), λ h. ap is_halted h.0)
idle_is Halted p = (λ e. (refl, eqb-true p 0 e), λ h. eq-eqb p 0 h.1)
idle_is Stopped p = (λ e. absurd (bool_apart (sym e)), λ h. ap is_halted h.0)

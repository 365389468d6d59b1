-- What a step keeps: the memory's length, and the low four bits of F at 0.
-- Assumes nothing.
use Prim.Native.Nat.{◌%◌}
use mathlib.Core.List.{List}
use mathlib.Core.Path.{◌≡◌, refl}
use lib.ListN.{length}
use Rattle.arith.specs.Refusals.{Refusal}
use Rattle.machine.specs.Memory.{Memory}
use Rattle.machine.specs.Interrupts.{dispatch_of, vectored_of}
use Rattle.machine.specs.Step.{next_insn, next_after, ready_of, end_of, instruction_act, rule_of, due_refusals, step_refusals, step_unless, due_step, step_of}
use Rattle.machine.specs.declared.Cpu.{Cpu}
use Rattle.machine.proofs.Bounds.{executed}
use Rattle.machine.proofs.ReadOverWrite.{made_length}
use Rattle.machine.proofs.Rules.{by_outcome, by_rules}

-- length

pub step_length : (s : Cpu) (m : Memory) → length (step_of s m).mem ≡ length m
unfolding step_of
step_length s m =
    by_outcome (λ w. length w.mem ≡ length m) (rule_of s m) s m (λ _. refl) (made_length (rule_of s m).stores m) (step_refusals s m)

-- the low four bits of F

module _ (s : Cpu) (m : Memory) (p : s.f % 16 ≡ 0) where
  rule_low : (rule_of s m).cpu.f % 16 ≡ 0
  unfolding ready_of instruction_act end_of dispatch_of vectored_of
  rule_low =
      by_rules (λ a. a.cpu.f % 16 ≡ 0) s m
      record { dispatch = p; idle = p; insn = (executed s.pc (next_insn s m) (ready_of (next_after s m) s) m).state.low p }

  low_of : (rs : List Refusal) → (step_unless rs (rule_of s m) s m).out.cpu.f % 16 ≡ 0
  low_of = by_outcome (λ w. w.out.cpu.f % 16 ≡ 0) (rule_of s m) s m (λ _. p) rule_low

  pub due_low : (due_step s m).out.cpu.f % 16 ≡ 0
  due_low = low_of (due_refusals s m)

  pub step_low : (step_of s m).out.cpu.f % 16 ≡ 0
  unfolding step_of
  step_low = low_of (step_refusals s m)

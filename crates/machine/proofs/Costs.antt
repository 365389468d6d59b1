-- What a step costs: an instruction at most 6 cycles, those of a branch taken among them; an accepted step 1 to 6.
-- Assumes nothing.
use Prim.Native.Nat.{ℕ, ◌+◌, ◌≤◌}
use mathlib.Core.List.{List}
use mathlib.Core.Path.{◌≡◌}
use native.Mathlib.Omega.{arith}
use Rattle.arith.specs.Refusals.{Refusal}
use Rattle.insn.specs.Shapes.{shape_of}
use Rattle.insn.specs.declared.Insn.{Insn}
use Rattle.insn.proofs.Laws.{cycles_most}
use Rattle.machine.specs.Memory.{Memory}
use Rattle.machine.specs.Answers.{With}
use Rattle.machine.specs.Execute.{exec_of}
use Rattle.machine.specs.Step.{Stepped, next_insn, next_after, ready_of, end_of, instruction_act, rule_of, due_refusals, step_refusals, step_unless, due_step, step_of}
use Rattle.machine.specs.declared.Cpu.{Cpu}
use Rattle.machine.proofs.Bounds.{executed}
use Rattle.machine.proofs.Rules.{by_outcome, by_rules}
use Rattle.machine.proofs.Refused.{due_least, step_least}

pub insn_most : (own : ℕ) (i : Insn) (s : Cpu) (m : Memory) → (shape_of i).cycles + (exec_of own i s m).out.extra ≤ 6
insn_most own i s m = omega (arith, cycles_most i, (executed own i s m).extra)

-- where a step is accepted it costs 1 to 6
pub record Paid (w : With Stepped) : Type 0 where
  pub least : w.out.code ≡ 0 → 1 ≤ w.out.cycles
  pub most : w.out.cycles ≤ 6

module _ (s : Cpu) (m : Memory) where
  rule_most : (rule_of s m).cycles ≤ 6
  unfolding instruction_act end_of
  rule_most =
      by_rules (λ a. a.cycles ≤ 6) s m
      record {
        dispatch = omega arith;
        idle = omega arith;
        insn = insn_most s.pc (next_insn s m) (ready_of (next_after s m) s) m;
      }

  most_of_lem : (rs : List Refusal) → (step_unless rs (rule_of s m) s m).out.cycles ≤ 6
  most_of_lem = by_outcome (λ w. w.out.cycles ≤ 6) (rule_of s m) s m (λ _. omega arith) rule_most

  pub due_paid : Paid (due_step s m)
  due_paid = record { least = due_least s m; most = most_of_lem (due_refusals s m) }

  pub step_paid : Paid (step_of s m)
  unfolding step_of
  step_paid = record { least = step_least s m; most = most_of_lem (step_refusals s m) }

-- A refused step is the identity, and each number is answered exactly when. Document 01, "Refusal numbers".
-- Assumes nothing.
use Prim.Native.Nat.{ℕ, zero, suc, ◌<◌, ◌≤◌}
use mathlib.Core.Bool.{Bool, true, false, not, ◌&&◌}
use mathlib.Core.List.{List}
use mathlib.Core.Logic.{◌≢◌, ◌↔◌}
use mathlib.Core.Path.{◌≡◌, refl, sym, ◌∙◌}
use borrow.Author.Tests.{eqb-false}
use native.Mathlib.Omega.{arith}
use Rattle.arith.specs.Refusals.{Refusal, code_of, unless_refused}
use Rattle.arith.proofs.Refusals.{NoneHolds, First, number_at, code_within, refused_none, refused_first}
use Rattle.insn.specs.Shapes.{shape_of, is_undefined}
use Rattle.insn.proofs.Laws.{undefined_bytes, among, undefined_is, undefined_bytes_lem}
use Rattle.machine.specs.Answers.{With}
use Rattle.machine.specs.Memory.{Memory, byte_at}
use Rattle.machine.specs.Step.{Stepped, Act, refusing, accepting, dispatches, idles, next_rest, next_insn, end_of, instruction_act, rule_by, rule_of, input_refusals, due_refusals, step_refusals, step_unless, due_step, step_of}
use Rattle.machine.specs.declared.Cpu.{Cpu}
use Rattle.machine.proofs.Rules.{by_outcome}

-- where w is refused it is s and m with no cycles
pub record Unmoved (s : Cpu) (m : Memory) (w : With Stepped) : Type 0 where
  pub cpu : w.out.code ≢ 0 → w.out.cpu ≡ s
  pub mem : w.out.code ≢ 0 → w.mem ≡ m
  pub cycles : w.out.code ≢ 0 → w.out.cycles ≡ 0

module _ (rs : List Refusal) (a : Act) (s : Cpu) (m : Memory) where
  pub unless_unmoved : Unmoved s m (step_unless rs a s m)
  unless_unmoved =
      by_outcome (Unmoved s m) a s m (λ n. record { cpu = λ _. refl; mem = λ _. refl; cycles = λ _. refl })
      record { cpu = λ n. absurd (n refl); mem = λ n. absurd (n refl); cycles = λ n. absurd (n refl) }
      rs

  at_code : (n : ℕ) → (unless_refused n (λ _. accepting a m) (λ n. refusing n s m)).out.code ≡ n
  unfolding unless_refused
  at_code zero = refl
  at_code (suc n) = refl

  -- a step's code is the number of its first refusal
  pub unless_code : (step_unless rs a s m).out.code ≡ code_of rs
  unless_code = at_code (code_of rs)

module _ (s : Cpu) (m : Memory) where
  pub due_unmoved : Unmoved s m (due_step s m)
  due_unmoved = unless_unmoved (due_refusals s m) (rule_of s m) s m

  pub step_unmoved : Unmoved s m (step_of s m)
  unfolding step_of
  step_unmoved = unless_unmoved (step_refusals s m) (rule_of s m) s m

  pub step_code : (step_of s m).out.code ≡ code_of (step_refusals s m)
  unfolding step_of
  step_code = unless_code (step_refusals s m) (rule_of s m) s m

  -- a step is done exactly if none of its four tests holds, and the k-th refuses it exactly when it is the first that holds
  pub step_done : ((step_of s m).out.code ≡ 0) ↔ NoneHolds (step_refusals s m)
  unfolding input_refusals due_refusals step_refusals
  step_done = rw step_code (refused_none (step_refusals s m) refl)

  pub step_exactly : (k : ℕ) → k < 4 → ((step_of s m).out.code ≡ suc k) ↔ First (step_refusals s m) k
  unfolding input_refusals due_refusals step_refusals
  step_exactly k l = rw (step_code, ← (numbered k l)) (refused_first (step_refusals s m) k refl l)
    where
      numbered : (k : ℕ) → k < 4 → number_at (step_refusals s m) k ≡ suc k
      numbered zero l = refl
      numbered (suc zero) l = refl
      numbered (suc (suc zero)) l = refl
      numbered (suc (suc (suc zero))) l = refl
      numbered (suc (suc (suc (suc k)))) l = absurd (omega arith)

  -- the numbers: 0, 3 and 4 of valid input, 0 to 4 of any
  pub due_code_least : (due_step s m).out.code ≢ 0 → 3 ≤ (due_step s m).out.code
  unfolding due_refusals
  due_code_least = rw (unless_code (due_refusals s m) (rule_of s m) s m) (code_within 3 4 (due_refusals s m) refl).0

  pub due_code_most : (due_step s m).out.code ≤ 4
  unfolding due_refusals
  due_code_most = rw (unless_code (due_refusals s m) (rule_of s m) s m) (code_within 3 4 (due_refusals s m) refl).1

  pub step_code_most : (step_of s m).out.code ≤ 4
  unfolding input_refusals due_refusals step_refusals
  step_code_most = rw step_code (code_within 1 4 (step_refusals s m) refl).1

  -- refusal 4 on bytes: the byte at PC is one of the eleven
  pub undefined_byte : byte_at m s.pc < 256 → byte_at m (next_rest s) < 256
      → is_undefined (next_insn s m) ≡ among undefined_bytes (byte_at m s.pc)
  unfolding next_insn
  undefined_byte p q = undefined_bytes_lem _ _ _ p q

-- an accepted step costs at least one cycle: an instruction that is not refused has some

module _ (s : Cpu) (m : Memory) where
  rule_least : (d i : Bool) → (not d && not i && is_undefined (next_insn s m)) ≡ false → 1 ≤ (rule_by d i s m).cycles
  unfolding rule_by instruction_act end_of
  rule_least true i e = omega arith
  rule_least false true e = omega arith
  rule_least false false e = omega (arith, eqb-false (shape_of (next_insn s m)).cycles 0 (sym (undefined_is (next_insn s m)) ∙ e))

  least_of : (rs : List Refusal) → code_of rs ≡ 0 → 1 ≤ (rule_of s m).cycles → 1 ≤ (step_unless rs (rule_of s m) s m).out.cycles
  unfolding unless_refused
  least_of rs e p = rw e p

  pub due_least : (due_step s m).out.code ≡ 0 → 1 ≤ (due_step s m).out.cycles
  unfolding due_refusals rule_of
  due_least e =
      let none = sym (unless_code (due_refusals s m) (rule_of s m) s m) ∙ e in
      least_of (due_refusals s m) none (rule_least (dispatches s m) (idles s m) ((refused_none (due_refusals s m) refl).0 none).1.0)

  pub step_least : (step_of s m).out.code ≡ 0 → 1 ≤ (step_of s m).out.cycles
  unfolding input_refusals due_refusals step_refusals rule_of step_of
  step_least e =
      let none = sym (step_code s m) ∙ e in
      least_of (step_refusals s m) none (rule_least (dispatches s m) (idles s m) ((step_done s m).0 e).1.1.1.0)

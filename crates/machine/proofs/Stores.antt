-- What a step stores, in the order stored: at most three bytes, and every other byte is unchanged.
-- Assumes nothing.
use Prim.Native.Nat.{ℕ, zero, suc, ◌≤◌}
use mathlib.Core.List.{List, []}
use mathlib.Core.Path.{◌≡◌, refl}
use native.Mathlib.Nat.{le_trans}
use native.Mathlib.Omega.{arith}
use lib.ListN.{length}
use Rattle.arith.specs.Refusals.{code_of, unless_refused}
use Rattle.machine.specs.Memory.{Memory, byte_at, Store, made}
use Rattle.machine.specs.Step.{Act, refusing, accepting, next_insn, next_after, ready_of, end_of, instruction_act, rule_of, step_refusals, step_of}
use Rattle.machine.specs.declared.Cpu.{Cpu}
use Rattle.machine.proofs.Bounds.{executed}
use Rattle.machine.proofs.Dispatch.{dispatch_few}
use Rattle.machine.proofs.ReadOverWrite.{Spared, made_other}
use Rattle.machine.proofs.Rules.{by_rules}

-- a refused step stores nothing
unfoldable pub stores_of : Cpu → Memory → List Store
stores_of s m = unless_refused (code_of (step_refusals s m)) (λ _. (rule_of s m).stores) (λ _. [])

-- the memory after a step is the memory before with those stores made
made_at : (n : ℕ) (a : Act) (s : Cpu) (m : Memory)
    → (unless_refused n (λ _. accepting a m) (λ k. refusing k s m)).mem ≡ made (unless_refused n (λ _. a.stores) (λ _. [])) m
unfolding unless_refused
made_at zero a s m = refl
made_at (suc n) a s m = refl

few_at : (n : ℕ) (xs : List Store) → length xs ≤ 3 → length (unless_refused n (λ _. xs) (λ _. [])) ≤ 3
unfolding unless_refused
few_at zero xs p = p
few_at (suc n) xs p = omega arith

module _ (s : Cpu) (m : Memory) where
  pub step_made : (step_of s m).mem ≡ made (stores_of s m) m
  unfolding stores_of step_of
  step_made = made_at (code_of (step_refusals s m)) (rule_of s m) s m

  -- a byte that no store touches is unchanged
  pub step_other : (at : ℕ) → Spared at (stores_of s m) → byte_at (step_of s m).mem at ≡ byte_at m at
  step_other at h = rw step_made (made_other (stores_of s m) m at h)

  -- a dispatch stores at most three bytes, an instruction at most two
  rule_few : length (rule_of s m).stores ≤ 3
  unfolding instruction_act end_of
  rule_few =
      by_rules (λ a. length a.stores ≤ 3) s m
      record {
        dispatch = dispatch_few s m;
        idle = omega arith;
        insn = le_trans (executed s.pc (next_insn s m) (ready_of (next_after s m) s) m).stores.few (omega arith);
      }

  pub step_few : length (stores_of s m) ≤ 3
  unfolding stores_of
  step_few = few_at (code_of (step_refusals s m)) _ rule_few

-- Steps composed: a stretch of steps that are all accepted, and one stretch after another.
-- Assumes nothing.
use Prim.Native.Nat.{ℕ, zero, suc, ◌+◌}
use mathlib.Core.Path.{◌≡◌, ◌∙◌}
use native.Mathlib.Nat.{zero-add, suc-add, add_assoc}
use Rattle.machine.specs.Answers.{With}
use Rattle.machine.specs.Memory.{Memory}
use Rattle.machine.specs.Step.{Stepped, stepped, step_of}
use Rattle.machine.specs.declared.Cpu.{Cpu}
use Rattle.routines.specs.Steps.{dearer, one_more, more_steps, after_steps}

-- k steps, all accepted, in j cycles, from one state and memory to another, whatever was spent before
pub record Takes (k j : ℕ) (s : Cpu) (m : Memory) (s' : Cpu) (m' : Memory) : Type 0 where
  pub run : (t : ℕ) → more_steps k (stepped 0 t s m) ≡ stepped 0 (t + j) s' m'

more_steps_lem : (k k' : ℕ) (w : With Stepped) → more_steps (k + k') w ≡ more_steps k' (more_steps k w)
unfolding more_steps
more_steps_lem zero k' w = rw zero-add
more_steps_lem (suc k) k' w = rw suc-add (more_steps_lem k k' (one_more w.out.code w))

-- a first step that is accepted, and the steps after it
pub first_then : (k t : ℕ) (s : Cpu) (m : Memory) → (step_of s m).out.code ≡ 0
    → more_steps (suc k) (stepped 0 t s m)
    ≡ more_steps k (stepped 0 (t + (step_of s m).out.cycles) (step_of s m).out.cpu (step_of s m).mem)
unfolding more_steps one_more dearer
first_then k t s m e = rw e

-- one step
pub one : {s s' : Cpu} {m m' : Memory} {j : ℕ} → step_of s m ≡ stepped 0 j s' m' → Takes 1 j s m s' m'
unfolding more_steps one_more dearer
one e = record { run = λ t. rw e }

-- one stretch after another
infixl 20 ◌then◌
pub ◌then◌ : {k j k' j' : ℕ} {s s' s'' : Cpu} {m m' m'' : Memory} → Takes k j s m s' m' → Takes k' j' s' m' s'' m''
    → Takes (k + k') (j + j') s m s'' m''
◌then◌ {k} {j} {k'} {j'} p q =
    record { run = λ t. more_steps_lem k k' _ ∙ rw (p.run t, q.run (t + j), add_assoc t j j') }

-- the same counts, written otherwise
pub recount : {k j k' j' : ℕ} {s s' : Cpu} {m m' : Memory} → Takes k j s m s' m' → k ≡ k' → j ≡ j'
    → Takes k' j' s m s' m'
recount t e g = rw (← e, ← g) t

-- from the first step on
pub taken : {k j : ℕ} {s s' : Cpu} {m m' : Memory} → Takes k j s m s' m' → after_steps k s m ≡ stepped 0 j s' m'
unfolding after_steps
taken {j = j} t = rw zero-add at (t.run 0)

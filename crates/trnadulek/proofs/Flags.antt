-- The low four bits of F are 0 in a head or an image that loads, and a run leaves them at 0, whatever the memory and the budget.
-- Assumes nothing.
use Prim.Native.Nat.{ℕ, ◌%◌}
use mathlib.Core.List.{List}
use mathlib.Core.Path.{◌≡◌}
use Rattle.machine.specs.Run.{run_of}
use Rattle.machine.specs.declared.Cpu.{Cpu}
use Rattle.machine.proofs.Keeps.{step_low}
use Rattle.machine.proofs.Runs.{by_run, run_keeps}
use Rattle.saved.specs.Block.{held_in}
use Rattle.saved.specs.Head.{state_in}
use Rattle.saved.specs.Refusals.{Accepted, load_code}
use Rattle.saved.proofs.Accepted.{accepted_right}

pub loads_low : (size : ℕ) (h : List ℕ) → Accepted (load_code size h) → (state_in h).f % 16 ≡ 0
unfolding state_in held_in
loads_low size h accepted = (accepted_right size h accepted).flags_low

abbrev Low : Cpu → List ℕ → Type 0
Low s m = s.f % 16 ≡ 0

pub run_low : (b : ℕ) (s : Cpu) (m : List ℕ) → s.f % 16 ≡ 0 → (run_of b s m).out.cpu.f % 16 ≡ 0
run_low b s m low =
    by_run (λ w. w.out.cpu.f % 16 ≡ 0) b s m (λ _. low) (run_keeps Low (λ s m p. step_low s m p) b b 0 0 s m low)

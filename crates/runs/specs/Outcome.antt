-- Demand 3 of an outcome: the answer of a run, and the memory that it leaves. Document 01, "The adding routine".
-- Assumes nothing.
use Rattle.std.specs.Prelude.{ℕ, ◌+◌, ◌*◌, ◌≡◌}
use Rattle.machine.specs.Memory.{Memory}
use Rattle.machine.specs.declared.Cpu.{Cpu}
use Rattle.machine.specs.Run.{Ran}
use Rattle.routines.specs.Adding.{Added}

pub record AddedBy (n : ℕ) (s : Cpu) (m : Memory) (dst src : ℕ) (r : Ran) (left : Memory) : Type 0 where
  pub code : r.code ≡ 0
  pub spent : r.spent ≡ 13 * n + 4
  pub steps : r.steps ≡ 7 * n + 2
  -- all that is said of the sum, of the state in the answer and the memory that is left
  pub sum : Added n s m dst src
  pub cpu : r.cpu ≡ sum.cpu
  pub mem : left ≡ sum.mem

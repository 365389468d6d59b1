-- `ready` meets its contract.
use mathlib.Core.Path.{refl}
use Rattle.machine.specs.Step.{ready_of}
use Rattle.machine.proofs.Cpu.ready.Goals as goal

pub returns : goal.returns
unfolding ready_of
returns c = refl

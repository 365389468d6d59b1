-- `arm` meets its contract.
use Rattle.machine.proofs.Cpu.arm.Goals as goal

pub returns : goal.returns
returns c = simp (c.with_ime.ensures, c.armed.ensures)

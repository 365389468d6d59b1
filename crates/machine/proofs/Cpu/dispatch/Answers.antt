-- `dispatch` meets its contract: the stores of the choice stand between the two of PC.
use Rattle.machine.specs.Interrupts.{dispatch_of}
use Rattle.machine.proofs.Gives.{exactly}
use Rattle.machine.proofs.ReadOverWrite.{made_append}
use Rattle.machine.proofs.Cpu.dispatch.Goals as goal

pub returns : goal.returns
unfolding dispatch_of
returns c =
    rw (
      c.vector.ensures,
      made_append,
      c.store-2.ensures,
      c.choose-to.ensures.answers,
      c.choose-to.ensures.leaves,
      c.store.ensures,
      c.low.ensures,
      c.back-2.ensures,
      c.high.ensures,
      c.back.ensures,
    )
    exactly

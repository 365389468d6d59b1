-- `mode_code` answers the code of each mode.
use Rattle.saved.specs.Codes.{mode_code}
use Rattle.saved.proofs.codes.mode_code.Goals as goal

pub returns-in-Running : goal.returns-in-Running
unfolding mode_code
returns-in-Running c = rw c.in-Running.is

pub returns-in-Repeat : goal.returns-in-Repeat
unfolding mode_code
returns-in-Repeat c = rw c.in-Repeat.is

pub returns-in-Halted : goal.returns-in-Halted
unfolding mode_code
returns-in-Halted c = rw c.in-Halted.is

pub returns-in-Stopped : goal.returns-in-Stopped
unfolding mode_code
returns-in-Stopped c = rw c.in-Stopped.is

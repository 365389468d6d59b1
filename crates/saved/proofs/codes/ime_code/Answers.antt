-- `ime_code` answers the code of each setting.
use Rattle.saved.specs.Codes.{ime_code}
use Rattle.saved.proofs.codes.ime_code.Goals as goal

pub returns-in-Off : goal.returns-in-Off
unfolding ime_code
returns-in-Off c = rw c.in-Off.is

pub returns-in-Arming : goal.returns-in-Arming
unfolding ime_code
returns-in-Arming c = rw c.in-Arming.is

pub returns-in-On : goal.returns-in-On
unfolding ime_code
returns-in-On c = rw c.in-On.is

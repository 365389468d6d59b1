-- The interrupt switch and the modes: tests of both, what EI makes of the switch, and what the end of an instruction does.
-- Document 01, "One step".
-- Assumes nothing.
use Rattle.std.specs.Prelude.{Bool, true, false}
use Rattle.machine.specs.declared.Ime.{Ime}
use Rattle.machine.specs.declared.Ime.TheVariants.{Off, Arming, On}
use Rattle.machine.specs.declared.Mode.{Mode}
use Rattle.machine.specs.declared.Mode.TheVariants.{Running, Repeat, Halted, Stopped}

unfoldable pub is_on : Ime → Bool
is_on Off = false
is_on Arming = false
is_on On = true

unfoldable pub is_halted : Mode → Bool
is_halted Running = false
is_halted Repeat = false
is_halted Halted = true
is_halted Stopped = false

unfoldable pub is_stopped : Mode → Bool
is_stopped Running = false
is_stopped Repeat = false
is_stopped Halted = false
is_stopped Stopped = true

-- EI: Off becomes Arming
unfoldable pub armed_of : Ime → Ime
armed_of Off = Arming
armed_of Arming = Arming
armed_of On = On

-- IME at the end of an instruction: Arming at its start is On, unless the instruction is DI, the one that leaves it Off
unfoldable pub settled_ime : Ime → Ime → Ime
settled_ime Off now = now
settled_ime Arming Off = Off
settled_ime Arming Arming = On
settled_ime Arming On = On
settled_ime On now = now

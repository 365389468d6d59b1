-- What `==` at an IME or a mode tells the code, in the definition's words.
-- Assumes nothing.
use mathlib.Core.Path.{◌≡◌, refl}
use mathlib.Core.Bool.{false, not}
use denote.Enum.Bare.{sameb, differs_false}
use Rattle.machine.specs.Modes.{is_on, is_halted, is_stopped}
use Rattle.machine.specs.contracts.Ime as ime
use Rattle.machine.specs.contracts.Mode as mode
use Rattle.machine.specs.declared.Ime.{Ime}
use Rattle.machine.specs.declared.Ime.TheVariants.{Off, Arming, On}
use Rattle.machine.specs.declared.Mode.{Mode}
use Rattle.machine.specs.declared.Mode.TheVariants.{Running, Repeat, Halted, Stopped}

pub on_same : (t : Ime) → sameb ime.the_type t On ≡ is_on t
unfolding is_on
on_same Off = refl
on_same Arming = refl
on_same On = refl

pub halted_same : (w : Mode) → sameb mode.the_type w Halted ≡ is_halted w
unfolding is_halted
halted_same Running = refl
halted_same Repeat = refl
halted_same Halted = refl
halted_same Stopped = refl

pub stopped_same : (w : Mode) → sameb mode.the_type w Stopped ≡ is_stopped w
unfolding is_stopped
stopped_same Running = refl
stopped_same Repeat = refl
stopped_same Halted = refl
stopped_same Stopped = refl

-- and what it tells where `!=` does not hold
pub is_running : (w : Mode) → not (sameb mode.the_type w Running) ≡ false → w ≡ Running
is_running w = differs_false mode.the_type tt w Running

pub is_off : (t : Ime) → not (sameb ime.the_type t Off) ≡ false → t ≡ Off
is_off t = differs_false ime.the_type tt t Off

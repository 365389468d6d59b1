-- The codes of the interrupt switch and of the mode. Document 01, "Saved state".
-- Assumes nothing.
use Rattle.std.specs.Prelude.{ℕ, [], ◌∷◌, get_or}
use Rattle.machine.specs.declared.Ime.{Ime}
use Rattle.machine.specs.declared.Ime.TheVariants.{Off, Arming, On}
use Rattle.machine.specs.declared.Mode.{Mode}
use Rattle.machine.specs.declared.Mode.TheVariants.{Running, Repeat, Halted, Stopped}

-- 0 Off, 1 Arming, 2 On
unfoldable pub ime_code : Ime → ℕ
ime_code Off = 0
ime_code Arming = 1
ime_code On = 2

unfoldable pub ime_at : ℕ → Ime
ime_at code = get_or (Off ∷ Arming ∷ On ∷ []) code On

-- 0 Running, 1 Repeat, 2 Halted, 3 Stopped
unfoldable pub mode_code : Mode → ℕ
mode_code Running = 0
mode_code Repeat = 1
mode_code Halted = 2
mode_code Stopped = 3

unfoldable pub mode_at : ℕ → Mode
mode_at code = get_or (Running ∷ Repeat ∷ Halted ∷ Stopped ∷ []) code Stopped

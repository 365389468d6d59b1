-- Decimal numbers as they lie in memory: two digits to a byte, the least byte first. Document 01, "The adding routine".
-- Assumes nothing.
use Rattle.std.specs.Prelude.{ℕ, zero, suc, ◌+◌, ◌*◌, ◌/◌, ◌%◌, ◌<◌}
use Rattle.machine.specs.Memory.{Memory, byte_at}

-- a byte with digits 0 to 9
pub record Decimal (x : ℕ) : Type 0 where
  pub high : x / 16 < 10
  pub low : x % 16 < 10

-- what such a byte is worth, from 0 to 99
abbrev pub worth : ℕ → ℕ
worth x = x / 16 * 10 + x % 16

-- every byte of the field of n bytes from `at` upward has digits 0 to 9
abbrev pub Digits : Memory → ℕ → ℕ → Type 0
Digits m at n = (i : ℕ) → i < n → Decimal (byte_at m (at + i))

-- the number in the field of n bytes from `at` upward
unfoldable pub num : Memory → ℕ → ℕ → ℕ
num m at zero = 0
num m at (suc n) = worth (byte_at m at) + 100 * num m (at + 1) n

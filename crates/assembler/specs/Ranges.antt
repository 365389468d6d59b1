-- What a constant's value may be where it stands, and the number that it is there. Document 02, M-103; the ranges of n8, n16, e8, u3 and
-- vec in the instruction reference, edition 001.
-- Assumes nothing.
use Rattle.std.specs.Prelude.{ℕ, ◌%◌, Bool, true, ◌||◌, eqb, leb}
use Rattle.arith.specs.Words.{back}
use Rattle.spellings.specs.declared.Slot.{Slot}
use Rattle.spellings.specs.declared.Slot.TheVariants.{Bare, N8, N16, High, E8, Target, U3, Vec}

-- the highest value, and how far below 0 the lowest is; LDH's address and JR's target are n16, and where there is no constant there is
-- no other value than 0
unfoldable pub highest : Slot → ℕ
highest Bare = 0
highest N8 = 255
highest N16 = 65535
highest High = 65535
highest E8 = 127
highest Target = 65535
highest U3 = 7
highest Vec = 56

unfoldable pub lowest : Slot → ℕ
lowest Bare = 0
lowest N8 = 128
lowest N16 = 32768
lowest High = 32768
lowest E8 = 128
lowest Target = 32768
lowest U3 = 0
lowest Vec = 0

-- the number that a word is: JR's is how far its target lies from the address behind it, modulo 65,536
unfoldable pub number_in : ℕ → Slot → ℕ → ℕ
number_in next Bare w = w
number_in next N8 w = w
number_in next N16 w = w
number_in next High w = w
number_in next E8 w = w
number_in next Target w = back next w
number_in next U3 w = w
number_in next Vec w = w

-- LDH reaches $FF00 and up, JR from 128 back to 127 on, and a vector is a multiple of 8
unfoldable pub reached : Slot → ℕ → Bool
reached Bare n = true
reached N8 n = true
reached N16 n = true
reached High n = leb 0xFF00 n
reached E8 n = true
reached Target n = leb n 127 || leb 65408 n
reached U3 n = true
reached Vec n = eqb (n % 8) 0

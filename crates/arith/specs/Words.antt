-- Words: 16 bits, made of a high and a low byte. ADD HL, ADD SP, LD HL,SP+e8, relative jumps. Document 01, "Flags" and "One step".
-- Assumes nothing.
use Rattle.std.specs.Prelude.{ℕ, ◌+◌, ◌-◌, ◌*◌, ◌/◌, ◌%◌, Bool, true, false, nat_lt}
use Rattle.arith.specs.Width.{sum_of, difference_of, carry_of}
use Rattle.arith.specs.Flags.{flags_of, z_of}
use Rattle.arith.specs.Flagged.{Word}

-- a word from its high and its low byte, and each of them back
unfoldable pub word_of : ℕ → ℕ → ℕ
word_of hi lo = hi * 256 + lo

unfoldable pub high_of : ℕ → ℕ
high_of w = w / 256 % 256

unfoldable pub low_of : ℕ → ℕ
low_of w = w % 256

-- SP, PC and addresses count modulo 65,536: n further, and n back
unfoldable pub further : ℕ → ℕ → ℕ
further n w = sum_of 16 w n 0

unfoldable pub back : ℕ → ℕ → ℕ
back n w = difference_of 16 w n 0

-- a word and a signed byte: e8 from $80 up counts as itself less 256
unfoldable pub offset_by : Bool → ℕ → ℕ → ℕ
offset_by true e w = sum_of 16 w e 0
offset_by false e w = difference_of 16 w (256 - e) 0

unfoldable pub offset_of : ℕ → ℕ → ℕ
offset_of e w = offset_by (nat_lt e 0x80) e w

-- ADD HL: Z stays, N 0, H from bit 11, C from bit 15
unfoldable pub added_hl_of : ℕ → ℕ → ℕ → Word
added_hl_of hl v f =
    record { value = sum_of 16 hl v 0; flags = flags_of (z_of f) false (carry_of 12 hl v 0) (carry_of 16 hl v 0) }

-- ADD SP and LD HL,SP+e8: Z 0, N 0, H and C from the unsigned sum of the low bytes
unfoldable pub added_sp_of : ℕ → ℕ → Word
added_sp_of sp e =
    record { value = offset_of e sp; flags = flags_of false false (carry_of 4 sp e 0) (carry_of 8 sp e 0) }

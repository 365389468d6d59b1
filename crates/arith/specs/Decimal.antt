-- DAA, by the two adjustment lists of the instruction reference. Z by the result, N stays, H 0; C is set or stays and is
-- never cleared. Document 01, "Flags".
-- Assumes nothing.
use Rattle.std.specs.Prelude.{ℕ, ◌+◌, ◌%◌, Bool, true, false, ◌||◌, nat_lt}
use Rattle.arith.specs.Width.{sum_of, difference_of}
use Rattle.arith.specs.Flags.{weight_if, flags_of, n_of, h_of, c_of}
use Rattle.arith.specs.Bytes.{is_zero}
use Rattle.arith.specs.Flagged.{Byte}

-- the adjustment: $06 for the low digit, $60 for the high one
unfoldable pub adjustment_of : Bool → Bool → ℕ
adjustment_of low high = weight_if low 0x06 + weight_if high 0x60

-- the result v with N and C as given
unfoldable pub adjusted_of : ℕ → Bool → Bool → Byte
adjusted_of v n c = record { value = v; flags = flags_of (is_zero v) n false c }

-- N set: H and C alone say what is subtracted
unfoldable pub after_subtraction_of : ℕ → Bool → Bool → Byte
after_subtraction_of a h c = adjusted_of (difference_of 8 a (adjustment_of h c) 0) true c

-- N not set: H or a low digit above 9; C or a byte above $99, which also sets C
unfoldable pub low_wrong_of : ℕ → Bool → Bool
low_wrong_of a h = h || nat_lt 0x09 (a % 16)

unfoldable pub high_wrong_of : ℕ → Bool → Bool
high_wrong_of a c = c || nat_lt 0x99 a

unfoldable pub after_addition_of : ℕ → Bool → Bool → Byte
after_addition_of a h c =
    adjusted_of (sum_of 8 a (adjustment_of (low_wrong_of a h) (high_wrong_of a c)) 0) false (high_wrong_of a c)

unfoldable pub by_last : Bool → ℕ → Bool → Bool → Byte
by_last true a h c = after_subtraction_of a h c
by_last false a h c = after_addition_of a h c

-- DAA of A and F
unfoldable pub decimal_of : ℕ → ℕ → Byte
decimal_of a f = by_last (n_of f) a (h_of f) (c_of f)

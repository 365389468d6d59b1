-- Sums and differences at a width of w bits: one family, used at 4 and 8 bits for the flags of a byte, at 12 and 16 for those
-- of a word, and at 8 and 16 for the results. Document 01, "Flags" and "Byte and word arithmetic share one argument".
-- Assumes nothing.
use Rattle.std.specs.Prelude.{ℕ, ◌+◌, ◌-◌, ◌%◌, ◌^◌, Bool, true, false, nat_le, nat_lt}

-- a test as a number: 1 where it holds
abbrev pub one_if : Bool → ℕ
one_if true = 1
one_if false = 0

-- x + y + k, counted modulo 2 to the w
unfoldable pub sum_of : ℕ → ℕ → ℕ → ℕ → ℕ
sum_of w x y k = (x + y + k) % 2 ^ w

-- x - (y + k), counted modulo 2 to the w
unfoldable pub difference_of : ℕ → ℕ → ℕ → ℕ → ℕ
difference_of w x y k = (x + 2 ^ w - (y + k)) % 2 ^ w

-- the sum of the low w bits overflows them: a carry out of bit w - 1
unfoldable pub carry_of : ℕ → ℕ → ℕ → ℕ → Bool
carry_of w x y k = nat_le (2 ^ w) (x % 2 ^ w + y % 2 ^ w + k)

-- the low w bits are too few to take y + k from: a borrow from bit w
unfoldable pub borrow_of : ℕ → ℕ → ℕ → ℕ → Bool
borrow_of w x y k = nat_lt (x % 2 ^ w) (y % 2 ^ w + k)

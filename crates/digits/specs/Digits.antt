-- Numbers and their digits, highest first, in any base. At base 256 they are big-endian bytes. Document 01, "Saved state".
-- Assumes nothing.
use Rattle.std.specs.Prelude.{ℕ, zero, suc, ◌+◌, ◌*◌, ◌/◌, ◌%◌, ◌^◌, List, [], ◌∷◌, length, get_or, take, drop}

-- the number that the digits make, highest first
unfoldable pub worth_of : ℕ → List ℕ → ℕ
worth_of base [] = 0
worth_of base (d ∷ rest) = d * base ^ length rest + worth_of base rest

-- the low k digits of n, highest first
unfoldable pub digits_of : ℕ → ℕ → ℕ → List ℕ
digits_of base zero n = []
digits_of base (suc k) n = n / base ^ k % base ∷ digits_of base k n

-- a number from its bytes, big-endian, and n in k such bytes
unfoldable pub number_of : List ℕ → ℕ
number_of bytes = worth_of 256 bytes

unfoldable pub bytes_of : ℕ → ℕ → List ℕ
bytes_of k n = digits_of 256 k n

-- what stands in bytes at a place: a byte, and a number of k bytes
unfoldable pub byte_in : ℕ → List ℕ → ℕ
byte_in at bytes = get_or bytes at 0

unfoldable pub number_in : ℕ → ℕ → List ℕ → ℕ
number_in k at bytes = number_of (take k (drop at bytes))

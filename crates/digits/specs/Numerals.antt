-- Numbers as text, in ASCII codes: so many capital hexadecimal digits, and decimal with no zeros in front. Document 01,
-- "The program".
-- Assumes nothing.
use Rattle.std.specs.Prelude.{ℕ, zero, suc, ◌%◌, ◌^◌, Bool, true, false, List, map, leb, get_or}
use Rattle.digits.specs.Digits.{digits_of}
use Rattle.digits.specs.Ascii.{ascii}

-- 0 to 9, then A to F; a digit counts modulo 16
unfoldable pub glyph_of : ℕ → ℕ
glyph_of d = get_or (ascii "0123456789ABCDEF") (d % 16) 0

-- the low k hexadecimal digits of n
unfoldable pub hex_text : ℕ → ℕ → List ℕ
hex_text k n = map glyph_of (digits_of 16 k n)

-- how many decimal digits n has with no zeros in front: one more than the highest power of ten that it reaches, of those up to k
unfoldable pub width_if : Bool → ℕ → ℕ → ℕ
width_if true wide less = wide
width_if false wide less = less

unfoldable pub width_of : ℕ → ℕ → ℕ
width_of zero n = 1
width_of (suc k) n = width_if (leb (10 ^ suc k) n) (suc (suc k)) (width_of k n)

-- a number in decimal, below ten thousand million
unfoldable pub decimal_text : ℕ → List ℕ
decimal_text n = map glyph_of (digits_of 10 (width_of 9 n) n)

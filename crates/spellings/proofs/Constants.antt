-- A constant is read back from its text: the digits make the number again, the sign and the target the signed byte.
-- Assumes nothing.
use Prim.Native.Nat.{ℕ, ◌+◌, ◌-◌, ◌*◌, ◌%◌, ◌^◌, ◌<◌}
use mathlib.Core.Bool.{Bool, true, false}
use mathlib.Core.List.{List, [], ◌∷◌, map}
use mathlib.Core.Path.{◌≡◌, refl, ◌∙◌}
use native.Mathlib.Nat.{mod-eq_of_lt, mod-lt}
use native.Mathlib.Omega.{arith}
use borrow.Author.Tests.{ltb-true, ltb-false}
use lib.Dec.{eqb, ltb, lit<}
use lib.ListN.{drop, get_or}
use Rattle.arith.specs.Width.{sum_of, difference_of}
use Rattle.arith.specs.Words.{word_of, offset_by, offset_of}
use Rattle.digits.specs.Ascii.{ascii}
use Rattle.digits.specs.Digits.{worth_of, digits_of}
use Rattle.digits.specs.Numerals.{glyph_of, hex_text, width_if, width_of, decimal_text}
use Rattle.digits.proofs.Digits.{Below, below_rest, digits_below, worth_digits}
use Rattle.digits.proofs.Decimal.{digit_by, decimal_read}
use Rattle.insn.proofs.Entries.{agree}
use Rattle.listing.specs.Spelling.{Kind, n8, n16, at_n16, at_high, e8, sp_plus_e8, target, u3, vec, hex, signed_if, signed_text, constant_text}
use Rattle.spellings.specs.Outline.{begins, ends}
use Rattle.spellings.specs.Exact.{none, is_constant}

-- a hexadecimal digit from its glyph
abbrev nibble_if : Bool → ℕ → ℕ
nibble_if true glyph = glyph - 48
nibble_if false glyph = glyph - 55

abbrev nibble : ℕ → ℕ
nibble glyph = nibble_if (ltb glyph 58) glyph

abbrev glyphs : List ℕ
glyphs = ascii "0123456789ABCDEF"

glyph_nibble : (d : ℕ) → d < 16 → nibble (glyph_of d) ≡ d
unfolding glyph_of ascii
glyph_nibble d h = rw (mod-eq_of_lt h) (agree (λ k. nibble (get_or glyphs k 0)) (λ k. k) 16 refl d h)

glyph_inner : (d : ℕ) → ends (glyph_of d) ≡ false
unfolding glyph_of ascii ends
glyph_inner d = agree (λ k. ends (get_or glyphs k 0)) (λ k. false) 16 refl (d % 16) (mod-lt d (lit< tt))

nibbles : (digits : List ℕ) → Below 16 digits → map nibble (map glyph_of digits) ≡ digits
nibbles [] p = refl
nibbles (d ∷ rest) p = rw (glyph_nibble d (p.at 0), nibbles rest (below_rest p))

glyphs_inner : (digits : List ℕ) → none ends (map glyph_of digits) ≡ true
glyphs_inner [] = refl
glyphs_inner (d ∷ rest) = rw (glyph_inner d, glyphs_inner rest)

-- $ and digits
abbrev hex_read : List ℕ → ℕ
hex_read t = worth_of 16 (map nibble (drop 1 t))

hex_read_lem : (k n : ℕ) → hex_read (hex k n) ≡ n % 16 ^ k
unfolding hex hex_text ascii
hex_read_lem k n = rw (nibbles (digits_of 16 k n) (digits_below (lit< tt) k n)) (worth_digits 16 (lit< tt) k n)

hex_constant : (k n : ℕ) → is_constant (hex k n) ≡ true
unfolding hex hex_text ascii begins ends
hex_constant k n = glyphs_inner (digits_of 16 k n)

hex_small : (n : ℕ) → n < 256 → hex_read (hex 2 n) ≡ n
hex_small n h = hex_read_lem 2 n ∙ omega arith

hex_large : (n : ℕ) → n < 65536 → hex_read (hex 4 n) ≡ n
hex_large n h = hex_read_lem 4 n ∙ omega arith

-- LDH's address has the byte below
high_read : (n : ℕ) → n < 256 → hex_read (hex 4 (word_of 0xFF n)) % 256 ≡ n
unfolding word_of
high_read n h = rw (hex_large (0xFF * 256 + n) (omega arith)) (omega arith)

-- with a minus before it where it is negative
abbrev signed_read_if : Bool → List ℕ → ℕ
signed_read_if true t = 256 - hex_read (drop 1 t)
signed_read_if false t = hex_read t

abbrev signed_read : List ℕ → ℕ
signed_read t = signed_read_if (eqb (get_or t 0 0) 45) t

signed_if_lem : (t : Bool) (e : ℕ) → ltb e 0x80 ≡ t → e < 256 → signed_read (signed_if t e) ≡ e
unfolding signed_if hex ascii
signed_if_lem true e b h = hex_small e h
signed_if_lem false e b h =
    let back = hex_small (256 - e) (omega (arith, ltb-false e 0x80 b)) in
    rw back (omega arith)

signed_read_lem : (e : ℕ) → e < 256 → signed_read (signed_text e) ≡ e
unfolding signed_text
signed_read_lem e h = signed_if_lem (ltb e 0x80) e refl h

signed_constant_if : (t : Bool) (e : ℕ) → is_constant (signed_if t e) ≡ true
unfolding signed_if hex hex_text ascii begins ends
signed_constant_if true e = glyphs_inner (digits_of 16 2 e)
signed_constant_if false e = glyphs_inner (digits_of 16 2 (256 - e))

-- by the target of JR, which leads on from behind its two bytes
abbrev target_read : ℕ → List ℕ → ℕ
target_read next t = (hex_read t + 65536 - next) % 256

target_if : (t : Bool) (e next : ℕ) → ltb e 0x80 ≡ t → e < 256 → next < 65536 → (offset_by t e next + 65536 - next) % 256 ≡ e
unfolding offset_by sum_of difference_of
target_if true e next b h small = let low = ltb-true e 0x80 b in omega arith
target_if false e next b h small = let high = ltb-false e 0x80 b in omega arith

offset_below : (t : Bool) (e next : ℕ) → offset_by t e next < 65536
unfolding offset_by sum_of difference_of
offset_below true e next = omega arith
offset_below false e next = omega arith

target_read_lem : (e next : ℕ) → e < 256 → next < 65536 → target_read next (hex 4 (offset_of e next)) ≡ e
unfolding offset_of
target_read_lem e next h small =
    rw (hex_large (offset_by (ltb e 0x80) e next) (offset_below (ltb e 0x80) e next)) (target_if (ltb e 0x80) e next refl h small)

-- a bit's number
decimal_constant : (k : ℕ) → k < 8 → is_constant (decimal_text k) ≡ true
unfolding decimal_text digits_of width_of width_if glyph_of ascii begins ends
decimal_constant k h = agree (λ k. is_constant (decimal_text k)) (λ k. true) 8 refl k h

-- the numbers that a constant of each kind can have
abbrev pub Fits : Kind → ℕ → Type 0
Fits n8 n = n < 256
Fits n16 n = n < 65536
Fits at_n16 n = n < 65536
Fits at_high n = n < 256
Fits e8 n = n < 256
Fits sp_plus_e8 n = n < 256
Fits target n = n < 256
Fits u3 n = n < 8
Fits vec n = n < 256

pub constant_is : (next : ℕ) (k : Kind) (n : ℕ) → Fits k n → is_constant (constant_text next k n) ≡ true
unfolding constant_text signed_text
constant_is next n8 n h = hex_constant _ n
constant_is next n16 n h = hex_constant _ n
constant_is next at_n16 n h = hex_constant _ n
constant_is next at_high n h = hex_constant _ (word_of 0xFF n)
constant_is next e8 n h = signed_constant_if (ltb n 0x80) n
constant_is next sp_plus_e8 n h = signed_constant_if (ltb n 0x80) n
constant_is next target n h = hex_constant _ (offset_of n next)
constant_is next u3 n h = decimal_constant n h
constant_is next vec n h = hex_constant _ n

-- the number of a constant from its text, where the next instruction stands at next
abbrev pub number_in : ℕ → Kind → List ℕ → ℕ
number_in next n8 t = hex_read t
number_in next n16 t = hex_read t
number_in next at_n16 t = hex_read t
number_in next at_high t = hex_read t % 256
number_in next e8 t = signed_read t
number_in next sp_plus_e8 t = signed_read t
number_in next target t = target_read next t
number_in next u3 t = worth_of 10 (map digit_by t)
number_in next vec t = hex_read t

pub number_back : (next : ℕ) (k : Kind) (n : ℕ) → next < 65536 → Fits k n → number_in next k (constant_text next k n) ≡ n
unfolding constant_text
number_back next n8 n small h = hex_small n h
number_back next n16 n small h = hex_large n h
number_back next at_n16 n small h = hex_large n h
number_back next at_high n small h = high_read n h
number_back next e8 n small h = signed_read_lem n h
number_back next sp_plus_e8 n small h = signed_read_lem n h
number_back next target n small h = target_read_lem n next h small
number_back next u3 n small h = decimal_read n (omega arith)
number_back next vec n small h = hex_small n h

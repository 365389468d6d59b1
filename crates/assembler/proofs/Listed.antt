-- The constants of a listing are read as the numbers that they stand for, in the range of their operand; so a line of a listing has its
-- bytes.
-- Assumes nothing.
use Prim.Native.Nat.{ℕ, suc, ◌-◌, ◌%◌, ◌^◌, ◌<◌, ◌≤◌}
use mathlib.Core.Bool.{Bool, true, false}
use mathlib.Core.List.{List, [], ◌∷◌, ◌++◌, map}
use mathlib.Core.Path.{◌≡◌, refl, ◌∙◌, ap}
use native.Mathlib.Nat.{mod-eq_of_lt, mod-lt}
use native.Mathlib.Omega.{arith}
use borrow.Author.Tests.{le-leb, lt-leb, ltb-true, ltb-false}
use lib.Dec.{eqb, ltb, lit<}
use lib.ListN.{get_or}
use Rattle.arith.specs.Width.{sum_of, difference_of}
use Rattle.arith.proofs.Laws.{further_below}
use Rattle.arith.specs.Words.{word_of, low_of, back, further, offset_by, offset_of}
use Rattle.digits.specs.Ascii.{ascii}
use Rattle.digits.specs.Digits.{worth_of, digits_of}
use Rattle.digits.specs.Numerals.{glyph_of, hex_text, width_if, width_of, decimal_text}
use Rattle.digits.proofs.Digits.{Below as AllBelow, below_rest, digits_below, worth_digits}
use Rattle.insn.proofs.Entries.{agree}
use Rattle.constants.specs.declared.Base.TheVariants.{Hexadecimal}
use Rattle.constants.specs.Constant.{Number, Plain, Negated, is_decimal, is_digit, all_digits, is_number, digit_if, digit_of, base_of, worth, number_text, right, nests, small, value_of}
use Rattle.constants.specs.Constant as constants
use Rattle.constants.specs.Reading.{read_of, read_from, step, wanted, begun, state_if, ended, followed, finished, put}
use Rattle.constants.specs.Answer.{in_range, found_if, signed, found_in, found_of}
use Rattle.constants.specs.Answer.{Above, Below}
use Rattle.constants.proofs.Complete.{whole_read}
use Rattle.listing.specs.Spelling.{Kind, n8, n16, at_n16, at_high, e8, sp_plus_e8, target, u3, vec, hex, signed_if, signed_text}
use Rattle.listing.specs.Spelling as listing
use Rattle.spellings.specs.Rows.{slot_of}
use Rattle.spellings.specs.Bytes.{row_bytes, bytes_of}
use Rattle.spellings.specs.declared.Slot.{Slot}
use Rattle.spellings.specs.declared.Slot.TheVariants.{Bare, N8, N16, High, E8, Target, U3, Vec}
use Rattle.assembler.proofs.Short.{extra}
use Rattle.assembler.specs.Ranges.{highest, lowest, number_in, reached}
use Rattle.assembler.specs.Lines.{Bytes, verdict_if, valued_by, verdict_by}

-- a digit from its glyph
abbrev glyphs : List ℕ
glyphs = ascii "0123456789ABCDEF"

glyph_digit : (d : ℕ) → d < 16 → digit_of (glyph_of d) ≡ d
unfolding glyph_of ascii digit_of digit_if
glyph_digit d h = rw (mod-eq_of_lt h) (agree (λ k. digit_of (get_or glyphs k 0)) (λ k. k) 16 refl d h)

glyph_is : (d : ℕ) → is_digit Hexadecimal (glyph_of d) ≡ true
unfolding glyph_of ascii is_digit is_decimal
glyph_is d = agree (λ k. is_digit Hexadecimal (get_or glyphs k 0)) (λ k. true) 16 refl (d % 16) (mod-lt d (lit< tt))

glyphs_digits : (digits : List ℕ) → AllBelow 16 digits → map digit_of (map glyph_of digits) ≡ digits
glyphs_digits [] p = refl
glyphs_digits (d ∷ rest) p = rw (glyph_digit d (p.at 0), glyphs_digits rest (below_rest p))

glyphs_are : (digits : List ℕ) → all_digits Hexadecimal (map glyph_of digits) ≡ true
unfolding all_digits
glyphs_are [] = refl
glyphs_are (d ∷ rest) = rw (glyph_is d, glyphs_are rest)

-- the number that digits make
hex_worth : (k n : ℕ) → worth Hexadecimal (hex_text k n) ≡ n % 16 ^ k
unfolding worth base_of hex_text
hex_worth k n = rw (glyphs_digits (digits_of 16 k n) (digits_below (lit< tt) k n)) (worth_digits 16 (lit< tt) k n)

hex_number : (k n : ℕ) → is_number Hexadecimal (hex_text (suc k) n) ≡ true
unfolding is_number hex_text digits_of
hex_number k n = glyphs_are (digits_of 16 (suc k) n)

-- the numbers that constants of a listing have: as in the crate below, and a vector is a multiple of 8
abbrev pub Ranged : Kind → ℕ → Type 0
Ranged n8 n = n < 256
Ranged n16 n = n < 65536
Ranged at_n16 n = n < 65536
Ranged at_high n = n < 256
Ranged e8 n = n < 256
Ranged sp_plus_e8 n = n < 256
Ranged target n = n < 256
Ranged u3 n = n < 8
Ranged vec n = (n ≤ 56) × (eqb (n % 8) 0 ≡ true)

-- a constant of one number, as it is or after a minus
plain_found : (k n v : ℕ) → n % 16 ^ suc k ≡ v → v < 65536 → found_of (hex (suc k) n) ≡ Above v
unfolding found_of found_in found_if constants.constant_text number_text hex right nests small value_of in_range signed
plain_found k n v e h =
    let read = whole_read (Plain (Number Hexadecimal (hex_text (suc k) n))) (hex_number k n) in
    rw (read, hex_worth (suc k) n, e, le-leb v 65535 (omega (arith, h))) refl

negated_found : (k n v : ℕ) → n % 16 ^ suc k ≡ suc v → v < 32768 → found_of (ascii "-" ++ hex (suc k) n) ≡ Below (suc v)
unfolding found_of found_in found_if constants.constant_text number_text hex right nests small value_of in_range signed
negated_found k n v e h =
    let read = whole_read (Negated (Number Hexadecimal (hex_text (suc k) n))) (hex_number k n) in
    rw (read, hex_worth (suc k) n, e, le-leb (suc v) 65535 (omega (arith, h)), le-leb v 32767 (omega (arith, h))) refl

-- a value at or above 0 in its range makes bytes
above_taken : (a row : ℕ) (slot : Slot) (t : List ℕ) (n m : ℕ) → found_of t ≡ Above n → n ≤ highest slot → number_in (further 2 a) slot n ≡ m
    → reached slot m ≡ true → verdict_by a row slot (found_of t) ≡ Bytes (bytes_of row slot m)
unfolding verdict_by valued_by verdict_if
above_taken a row slot t n m f h is r = rw (f, le-leb n (highest slot) h, is, r) refl

below_taken : (a row : ℕ) (slot : Slot) (t : List ℕ) (n m : ℕ) → found_of t ≡ Below n → n ≤ lowest slot → number_in (further 2 a) slot (back n 0) ≡ m
    → reached slot m ≡ true → verdict_by a row slot (found_of t) ≡ Bytes (bytes_of row slot m)
unfolding verdict_by valued_by verdict_if
below_taken a row slot t n m f h is r = rw (f, le-leb n (lowest slot) h, is, r) refl

-- where one byte stands behind the row's, numbers with the same low byte make the same bytes
low_bytes : (row x y : ℕ) (slot : Slot) → extra slot ≡ 1 → low_of x ≡ low_of y → bytes_of row slot x ≡ bytes_of row slot y
unfolding bytes_of
low_bytes row x y Bare one e = absurd (omega arith)
low_bytes row x y N8 one e = ap (λ b. row_bytes row ++ (b ∷ [])) e
low_bytes row x y N16 one e = absurd (omega arith)
low_bytes row x y High one e = ap (λ b. row_bytes row ++ (b ∷ [])) e
low_bytes row x y E8 one e = ap (λ b. row_bytes row ++ (b ∷ [])) e
low_bytes row x y Target one e = ap (λ b. row_bytes row ++ (b ∷ [])) e
low_bytes row x y U3 one e = absurd (omega arith)
low_bytes row x y Vec one e = absurd (omega arith)

negative_low : (n : ℕ) → n < 256 → 128 ≤ n → low_of (back (suc (255 - n)) 0) ≡ low_of n
unfolding low_of back difference_of
negative_low n h high = omega arith

signed_taken : (t : Bool) (a row n : ℕ) → ltb n 128 ≡ t → n < 256 → verdict_by a row E8 (found_of (signed_if t n)) ≡ Bytes (bytes_of row E8 n)
unfolding signed_if
signed_taken true a row n s h =
    let low = ltb-true n 128 s in
    above_taken a row E8 (hex 2 n) n n (plain_found 1 n n (omega arith) (omega arith)) (unfold highest in omega arith) (unfold number_in in refl)
    (unfold reached in refl)
signed_taken false a row n s h =
    let high = ltb-false n 128 s in
    let far : (256 - n) % 16 ^ 2 ≡ suc (255 - n) = omega arith in
    let less = negative_low n h high in
    below_taken a row E8 (ascii "-" ++ hex 2 (256 - n)) (suc (255 - n)) (back (suc (255 - n)) 0)
    (negated_found 1 (256 - n) (255 - n) far (omega arith)) (unfold lowest in omega arith) (unfold number_in in refl) (unfold reached in refl)
    ∙ ap Bytes (low_bytes row _ n E8 refl less)

-- JR's target lies as far from the next instruction as the signed byte says
target_low : (t : Bool) (n next : ℕ) → ltb n 128 ≡ t → n < 256 → next < 65536 → low_of (back next (offset_by t n next)) ≡ low_of n
unfolding offset_by sum_of difference_of low_of back
target_low true n next s h small = let low = ltb-true n 128 s in omega arith
target_low false n next s h small = let high = ltb-false n 128 s in omega arith

target_below : (t : Bool) (n next : ℕ) → offset_by t n next < 65536
unfolding offset_by sum_of difference_of
target_below true n next = omega arith
target_below false n next = omega arith

target_near : (n next : ℕ) → n < 128 → next < 65536 → back next (offset_by true n next) ≤ 127
unfolding offset_by sum_of difference_of back
target_near n next h small = omega arith

target_far : (n next : ℕ) → 128 ≤ n → n < 256 → next < 65536 → 65408 ≤ back next (offset_by false n next)
unfolding offset_by sum_of difference_of back
target_far n next low h small = omega arith

target_reached : (t : Bool) (n next : ℕ) → ltb n 128 ≡ t → n < 256 → next < 65536 → reached Target (back next (offset_by t n next)) ≡ true
unfolding reached
target_reached true n next s h small = rw (le-leb _ 127 (target_near n next (ltb-true n 128 s) small)) refl
target_reached false n next s h small =
    let far = target_far n next (ltb-false n 128 s) h small in
    let on : 127 < back next (offset_by false n next) = omega (arith, far) in
    rw (lt-leb _ 127 on, le-leb 65408 _ far) refl

target_taken : (a row n : ℕ) → n < 256 → verdict_by a row Target (found_of (hex 4 (offset_of n (further 2 a)))) ≡ Bytes (bytes_of row Target n)
unfolding offset_of
target_taken a row n h =
    let next = further 2 a in
    let small = further_below 2 a in
    let t = offset_by (ltb n 128) n next in
    let below = target_below (ltb n 128) n next in
    above_taken a row Target (hex 4 t) t (back next t) (plain_found 3 t t (omega (arith, below)) below) (unfold highest in omega (arith, below)) (unfold number_in in refl)
    (target_reached (ltb n 128) n next refl h small)
    ∙ ap Bytes (low_bytes row _ n Target refl (target_low (ltb n 128) n next refl h small))

high_low : (n : ℕ) → low_of (word_of 0xFF n) ≡ low_of n
unfolding low_of word_of
high_low n = omega arith

high_word : (n : ℕ) → n < 256 → (0xFF00 ≤ word_of 0xFF n) × (word_of 0xFF n < 65536)
unfolding word_of
high_word n h = (omega arith, omega arith)

high_taken : (a row n : ℕ) → n < 256 → verdict_by a row High (found_of (hex 4 (word_of 0xFF n))) ≡ Bytes (bytes_of row High n)
high_taken a row n h =
    let w = high_word n h in
    above_taken a row High (hex 4 (word_of 0xFF n)) (word_of 0xFF n) (word_of 0xFF n)
    (plain_found 3 (word_of 0xFF n) (word_of 0xFF n) (omega (arith, w.1)) w.1) (unfold highest in omega (arith, w.1)) (unfold number_in in refl)
    (unfold reached in le-leb 0xFF00 (word_of 0xFF n) w.0)
    ∙ ap Bytes (low_bytes row _ n High refl (high_low n))

bit_found : (n : ℕ) → n < 8 → found_of (decimal_text n) ≡ Above n
unfolding decimal_text digits_of width_of width_if glyph_of ascii found_of found_in found_if read_of read_from step wanted begun state_if ended followed finished put is_decimal is_digit nests small value_of worth base_of digit_of digit_if worth_of in_range signed
bit_found n h = agree (λ k. found_of (decimal_text k)) Above 8 refl n h

byte_taken : (a row n : ℕ) → n < 256 → verdict_by a row N8 (found_of (hex 2 n)) ≡ Bytes (bytes_of row N8 n)
byte_taken a row n h =
    above_taken a row N8 (hex 2 n) n n (plain_found 1 n n (omega arith) (omega arith)) (unfold highest in omega arith) (unfold number_in in refl)
    (unfold reached in refl)

word_taken : (a row n : ℕ) → n < 65536 → verdict_by a row N16 (found_of (hex 4 n)) ≡ Bytes (bytes_of row N16 n)
word_taken a row n h =
    above_taken a row N16 (hex 4 n) n n (plain_found 3 n n (omega arith) h) (unfold highest in omega arith) (unfold number_in in refl)
    (unfold reached in refl)

-- a constant of a listing, by its kind
pub constant_taken : (a row : ℕ) (k : Kind) (n : ℕ) → Ranged k n
    → verdict_by a row (slot_of k) (found_of (listing.constant_text (further 2 a) k n)) ≡ Bytes (bytes_of row (slot_of k) n)
unfolding listing.constant_text slot_of signed_text
constant_taken a row n8 n h = byte_taken a row n h
constant_taken a row n16 n h = word_taken a row n h
constant_taken a row at_n16 n h = word_taken a row n h
constant_taken a row at_high n h = high_taken a row n h
constant_taken a row e8 n h = signed_taken (ltb n 128) a row n refl h
constant_taken a row sp_plus_e8 n h = signed_taken (ltb n 128) a row n refl h
constant_taken a row target n h = target_taken a row n h
constant_taken a row u3 n h =
    above_taken a row U3 (decimal_text n) n n (bit_found n h) (unfold highest in omega arith) (unfold number_in in refl) (unfold reached in refl)
constant_taken a row vec n h =
    above_taken a row Vec (hex 2 n) n n (plain_found 1 n n (omega (arith, h.0)) (omega (arith, h.0))) (unfold highest in h.0) (unfold number_in in refl)
    (unfold reached in h.1)

-- A number in decimal: its digits, read again, are worth the number, and from ten on the first is no 0.
-- Assumes nothing.
use Prim.Native.Nat.{ℕ, zero, suc, ◌+◌, ◌/◌, ◌%◌, ◌^◌, ◌<◌, ◌≤◌}
use mathlib.Core.Bool.{Bool, true, false}
use mathlib.Core.List.{List, [], ◌∷◌, ◌++◌, map}
use mathlib.Core.Path.{◌≡◌, refl, ◌∙◌}
use native.Mathlib.Nat.{one-mul, mul_comm, one-le-pow, pow-suc, mod-eq_of_lt, le-div_iff_mul-le, div-lt_iff_lt-mul, le_of_suc-le-suc}
use native.Mathlib.Omega.{arith}
use borrow.Author.Tests.{le-leb, lt-leb, leb-true, leb-false}
use lib.Dec.{leb, lit<}
use lib.ListN.{length, get_or, length-map}
use Rattle.digits.specs.Digits.{worth_of, digits_of}
use Rattle.digits.specs.Ascii.{ascii}
use Rattle.digits.specs.Numerals.{glyph_of, width_if, width_of, decimal_text}
use Rattle.digits.proofs.Digits.{Below, below_rest, digits_below, digits_length, worth_digits}

-- the glyphs of the digits 0 to 9 count up from that of 0, and those of 10 to 15 from A

abbrev pub zero_glyph : ℕ
zero_glyph = 48

abbrev up_from : ℕ → ℕ → List ℕ
up_from c zero = []
up_from c (suc n) = c ∷ up_from (suc c) n

up_at : (c n k : ℕ) (rest : List ℕ) → k < n → get_or (up_from c n ++ rest) k 0 ≡ c + k
up_at c zero k rest h = absurd (omega arith)
up_at c (suc n) zero rest h = omega arith
up_at c (suc n) (suc k) rest h = up_at (suc c) n k rest (le_of_suc-le-suc h) ∙ omega arith

glyph_decimal : (d : ℕ) → d < 10 → glyph_of d ≡ zero_glyph + d
unfolding glyph_of ascii
glyph_decimal d h =
    let below : d < 16 = omega arith in
    rw (mod-eq_of_lt below) (up_at zero_glyph 10 d (up_from 65 6) h)

-- a digit by its glyph
abbrev pub digit_by : ℕ → ℕ
digit_by glyph = glyph % zero_glyph

read_again : (digits : List ℕ) → Below 10 digits → map digit_by (map glyph_of digits) ≡ digits
read_again [] p = refl
read_again (d ∷ rest) p =
    let digit : digit_by (glyph_of d) ≡ d = rw (glyph_decimal d (p.at 0)) (omega (arith, p.at 0)) in
    rw (digit, read_again rest (below_rest p))

-- what holds of the width by each power that the number reaches, and by none

module _ (P : ℕ → Type 0) (n : ℕ) where
  by_power : (k : ℕ) (t : Bool) → leb (10 ^ suc k) n ≡ t → (10 ^ suc k ≤ n → P (suc (suc k))) → (n < 10 ^ suc k → P (width_of k n))
      → P (width_if t (suc (suc k)) (width_of k n))
  unfolding width_if
  by_power k true e wide less = wide (leb-true _ _ e)
  by_power k false e wide less = less (leb-false _ _ e)

  by_width : (n < 10 → P 1) → ((k : ℕ) → 10 ^ suc k ≤ n → n < 10 ^ suc (suc k) → P (suc (suc k)))
      → (k : ℕ) → n < 10 ^ suc k → P (width_of k n)
  unfolding width_of
  by_width one more zero h = one h
  by_width one more (suc k) h = by_power k _ refl (λ reached. more k reached h) (λ less. by_width one more k less)

width_most : (k n : ℕ) → width_of k n ≤ suc k
unfolding width_of
width_most zero n = omega arith
width_most (suc k) n = by_power (λ w. w ≤ suc (suc k)) n k _ refl (λ _. omega arith) (λ _. omega (arith, width_most k n))

pub decimal_most : (n : ℕ) → length (decimal_text n) ≤ 10
unfolding decimal_text
decimal_most n = rw (length-map, digits_length 10 (lit< tt)) (width_most 9 n)

pub decimal_read : (n : ℕ) → n < 10000000000 → worth_of 10 (map digit_by (decimal_text n)) ≡ n
unfolding decimal_text
decimal_read n h =
    rw (read_again _ (digits_below (lit< tt) (width_of 9 n) n))
    (worth_digits 10 (lit< tt) (width_of 9 n) n ∙ mod-eq_of_lt (by_width (λ w. n < 10 ^ w) n (λ h. h) (λ k _ h. h) 9 h))

-- the first digit is there, and is no 0
abbrev pub Leads : List ℕ → Type 0
Leads [] = ⊥
Leads (c ∷ cs) = zero_glyph < c

first_digit : (k n : ℕ) → 10 ^ k ≤ n → n < 10 ^ suc k → zero_glyph < glyph_of (n / 10 ^ k % 10)
first_digit k n reached h =
    let pos = one-le-pow k 10 (lit< tt) in
    let few : n / 10 ^ k < 10 = (div-lt_iff_lt-mul pos).1 (rw (pow-suc, mul_comm) at h) in
    let some : 1 ≤ n / 10 ^ k = (le-div_iff_mul-le pos).1 (rw one-mul reached) in
    rw (mod-eq_of_lt few, glyph_decimal _ few) (omega (arith, some))

pub decimal_leads : (n : ℕ) → 10 ≤ n → n < 10000000000 → Leads (decimal_text n)
unfolding decimal_text digits_of
decimal_leads n t h =
    by_width (λ w. Leads (map glyph_of (digits_of 10 w n))) n (λ l. absurd (omega arith)) (λ k. first_digit (suc k) n) 9 h

-- digit by digit from the highest: a power that the number reaches has its digit, and one that it does not reach has none

width_reached : (k n : ℕ) → 10 ^ k ≤ n → width_of k n ≡ suc k
unfolding width_of width_if
width_reached zero n h = refl
width_reached (suc k) n h = rw (le-leb (10 ^ suc k) n h)

pub power_reached : (k n : ℕ) → 10 ^ suc k ≤ n → digits_of 10 (width_of (suc k) n) n ≡ n / 10 ^ suc k % 10 ∷ digits_of 10 (width_of k n) n
unfolding digits_of
power_reached k n h =
    let lower : 10 ^ k ≤ n = omega (arith, rw pow-suc at h) in
    rw (width_reached (suc k) n h, width_reached k n lower)

pub power_passed : (k n : ℕ) → n < 10 ^ suc k → width_of (suc k) n ≡ width_of k n
unfolding width_of width_if
power_passed k n h = rw (lt-leb (10 ^ suc k) n h)

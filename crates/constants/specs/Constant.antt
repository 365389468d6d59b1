-- What a constant is: terms joined by + or -, the first perhaps after a minus; a term is a decimal or $ number of at most 65,535, or a
-- constant in parentheses nested to depth 16. Document 02, M-103.
-- Assumes nothing.
use Rattle.std.specs.Prelude.{ℕ, zero, suc, ◌-◌, Bool, true, false, ◌||◌, ◌&&◌, List, [], ◌∷◌, ◌++◌, map, leb, ℤ, pos, neg_ℤ, ◌+ℤ◌, ◌-ℤ◌}
use Rattle.digits.specs.Ascii.{ascii}
use Rattle.digits.specs.Digits.{worth_of}
use Rattle.constants.specs.declared.Base.{Base}
use Rattle.constants.specs.declared.Base.TheVariants.{Decimal, Hexadecimal}

-- a term is a number, decimal or hexadecimal after a $, by the characters of its digits, or a constant in parentheses; a constant is a first
-- term, perhaps after a minus, and others joined to it by + or -
mutual
  pub data Term : Type 0 where
    Number : Base → List ℕ → Term
    Within : Constant → Term

  pub data Constant : Type 0 where
    Plain : Term → Constant
    Negated : Term → Constant
    Plus : Constant → Term → Constant
    Minus : Constant → Term → Constant

-- its text
unfoldable pub number_text : Base → List ℕ → List ℕ
number_text Decimal digits = digits
number_text Hexadecimal digits = ascii "$" ++ digits

unfoldable mutual
  pub term_text : Term → List ℕ
  term_text (Number b digits) = number_text b digits
  term_text (Within c) = ascii "(" ++ (constant_text c ++ ascii ")")

  pub constant_text : Constant → List ℕ
  constant_text (Plain t) = term_text t
  constant_text (Negated t) = ascii "-" ++ term_text t
  constant_text (Plus c t) = constant_text c ++ (ascii "+" ++ term_text t)
  constant_text (Minus c t) = constant_text c ++ (ascii "-" ++ term_text t)

-- the digits of a base: 0 to 9, and A to F in hexadecimal; a number has at least one
unfoldable pub is_decimal : ℕ → Bool
is_decimal c = leb 48 c && leb c 57

unfoldable pub is_digit : Base → ℕ → Bool
is_digit Decimal c = is_decimal c
is_digit Hexadecimal c = is_decimal c || (leb 65 c && leb c 70)

unfoldable pub all_digits : Base → List ℕ → Bool
all_digits b [] = true
all_digits b (c ∷ cs) = is_digit b c && all_digits b cs

unfoldable pub is_number : Base → List ℕ → Bool
is_number b [] = false
is_number b (c ∷ cs) = all_digits b (c ∷ cs)

unfoldable mutual
  pub right_term : Term → Bool
  right_term (Number b digits) = is_number b digits
  right_term (Within c) = right c

  pub right : Constant → Bool
  right (Plain t) = right_term t
  right (Negated t) = right_term t
  right (Plus c t) = right c && right_term t
  right (Minus c t) = right c && right_term t

-- its value, an integer: the number that digits make, and the sum of the terms; a minus negates the first term alone
unfoldable pub digit_if : Bool → ℕ → ℕ
digit_if true c = c - 48
digit_if false c = c - 55

unfoldable pub digit_of : ℕ → ℕ
digit_of c = digit_if (leb c 57) c

unfoldable pub base_of : Base → ℕ
base_of Decimal = 10
base_of Hexadecimal = 16

unfoldable pub worth : Base → List ℕ → ℕ
worth b digits = worth_of (base_of b) (map digit_of digits)

unfoldable mutual
  pub term_value : Term → ℤ
  term_value (Number b digits) = pos (worth b digits)
  term_value (Within c) = value_of c

  pub value_of : Constant → ℤ
  value_of (Plain t) = term_value t
  value_of (Negated t) = neg_ℤ (term_value t)
  value_of (Plus c t) = value_of c +ℤ term_value t
  value_of (Minus c t) = value_of c -ℤ term_value t

-- whether parentheses are nested at most so deep
unfoldable mutual
  pub nests_term : Term → ℕ → Bool
  nests_term (Number b digits) n = true
  nests_term (Within c) zero = false
  nests_term (Within c) (suc n) = nests c n

  pub nests : Constant → ℕ → Bool
  nests (Plain t) n = nests_term t n
  nests (Negated t) n = nests_term t n
  nests (Plus c t) n = nests c n && nests_term t n
  nests (Minus c t) n = nests c n && nests_term t n

-- whether every number is at most 65,535
unfoldable mutual
  pub small_term : Term → Bool
  small_term (Number b digits) = leb (worth b digits) 65535
  small_term (Within c) = small c

  pub small : Constant → Bool
  small (Plain t) = small_term t
  small (Negated t) = small_term t
  small (Plus c t) = small c && small_term t
  small (Minus c t) = small c && small_term t

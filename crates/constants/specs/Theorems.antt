-- What is proved of constants: a text is a constant in one way, and each answer is given exactly when it is to be. Document 02, M-103.
-- Assumes nothing.
use Rattle.std.specs.Prelude.{ℕ, zero, suc, true, false, ◌&&◌, List, ◌↔◌, ◌≡◌, ℤ}
use Prim.Native.String.{String}
use Rattle.digits.specs.Ascii.{ascii}
use Rattle.constants.specs.Constant.{Constant, Plain, Within, constant_text, right, value_of, nests, small}
use Rattle.constants.specs.Reading.{Formed, read_of}
use Rattle.constants.specs.Answer.{deepest, in_range, Found, NoForm, Deep, Large, Above, Below, signed, found_of}

-- a text is that of a right constant
pub record Spells (c : Constant) (text : List ℕ) : Type 0 where
  pub spelled : constant_text c ≡ text
  pub formed : right c ≡ true

-- it is then read as that constant, and only then
abbrev pub Exact : Type 0
Exact = (text : List ℕ) (c : Constant) → (read_of text ≡ Formed c) ↔ Spells c text

-- so it is that of no other
abbrev pub OneWay : Type 0
OneWay = (text : List ℕ) (c d : Constant) → Spells c text → Spells d text → c ≡ d

-- no form: it is that of no right constant
abbrev pub NoFormExactly : Type 0
NoFormExactly = (text : List ℕ) → (found_of text ≡ NoForm) ↔ ((c : Constant) → Spells c text → ⊥)

-- too deep: it is that of one whose parentheses are nested deeper than 16
abbrev pub DeepExactly : Type 0
DeepExactly = (text : List ℕ) → (found_of text ≡ Deep) ↔ ((c : Constant) × Spells c text × (nests c deepest ≡ false))

-- out of range: they are not, and a number is above 65,535 or the value below -32,768 or above 65,535
abbrev pub LargeExactly : Type 0
LargeExactly =
    (text : List ℕ)
    → (found_of text ≡ Large) ↔ ((c : Constant) × Spells c text × (nests c deepest ≡ true) × ((small c && in_range (value_of c)) ≡ false))

-- and else its value
abbrev pub ValueExactly : Type 0
ValueExactly =
    (text : List ℕ) (v : ℤ)
    → (found_of text ≡ signed v)
    ↔ ((c : Constant) × Spells c text × (nests c deepest ≡ true) × ((small c && in_range (value_of c)) ≡ true) × (value_of c ≡ v))

-- a constant in so many parentheses more
unfoldable pub nested : ℕ → Constant → Constant
nested zero c = c
nested (suc n) c = Plain (Within (nested n c))

-- sixteen around a constant that has none change nothing, and seventeen are too many
abbrev pub Sixteen : Type 0
Sixteen = (c : Constant) → right c ≡ true → nests c 0 ≡ true → found_of (constant_text (nested 16 c)) ≡ found_of (constant_text c)

abbrev pub Seventeen : Type 0
Seventeen = (c : Constant) → right c ≡ true → found_of (constant_text (nested 17 c)) ≡ Deep

-- texts and what is answered of each
abbrev pub Answers : String → Found → Type 0
Answers text found = found_of (ascii text) ≡ found

pub record Examples : Type 0 where
  pub sixteen : Answers "((((((((((((((((1))))))))))))))))" (Above 1)
  pub seventeen : Answers "(((((((((((((((((1)))))))))))))))))" Deep
  pub seventeen_unclosed : Answers "(((((((((((((((((1))))))))))))))))" NoForm
  pub seventeen_large : Answers "(((((((((((((((((65536)))))))))))))))))" Deep
  pub minus_first : Answers "-5+3" (Below 2)
  pub minus_all : Answers "-(5+3)" (Below 8)
  pub minus_inside : Answers "10-(-5+3)-(2-(3))" (Above 13)
  pub zero_below : Answers "-0" (Above 0)
  pub twenty_digits : Answers "99999999999999999999" Large
  pub wraps : Answers "18446744073709551617" Large
  pub twenty_zeros : Answers "00000000000000000007" (Above 7)
  pub most : Answers "65535" (Above 65535)
  pub one_more : Answers "65536" Large
  pub most_hexadecimal : Answers "$FFFF" (Above 65535)
  pub more_hexadecimal : Answers "$10000" Large
  pub back_again : Answers "65535+65535-65535" (Above 65535)
  pub back_from_below : Answers "-65535-65535+65535+65535" (Above 0)
  pub number_stays : Answers "65536-1" Large
  pub above : Answers "65535+1" Large
  pub least : Answers "-32768" (Below 32768)
  pub below : Answers "-32769" Large
  pub dollar : Answers "$" NoForm
  pub small_letter : Answers "$f" NoForm
  pub letter : Answers "1F" NoForm
  pub plus_first : Answers "+5" NoForm
  pub minus_twice : Answers "--5" NoForm
  pub minus_behind_plus : Answers "5+-3" NoForm
  pub nothing : Answers "" NoForm
  pub nothing_within : Answers "()" NoForm
  pub unclosed : Answers "(1" NoForm
  pub closed_twice : Answers "(1))" NoForm
  pub side_by_side : Answers "(1)(2)" NoForm

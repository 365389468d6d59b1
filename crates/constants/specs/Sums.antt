-- How the code finds the value of a constant: term by term, each added to a total or taken away, a call for each parenthesis.
-- Assumes nothing.
use Rattle.std.specs.Prelude.{ℕ, ◌+◌, ◌*◌, ◌≤◌, ◌<◌, ◌^◌, Bool, true, false, ◌||◌, not, List, [], ◌∷◌, ◌++◌, ◌≢◌, ◌≡◌, eqb, leb, length, get_or, drop, ℤ, pos, neg_ℤ, ◌+ℤ◌, ◌-ℤ◌, Result, Ok, Err}
use Rattle.std.specs.List.{prefix_len}
use Rattle.std.specs.Int.Signed.{mag}
use lib.Signed.{◌≤ℤ◌}
use Rattle.arith.specs.declared.Refusal.{Refusal}
use Rattle.arith.specs.declared.Refusal.TheVariants.{Range}
use Rattle.constants.specs.Constant.{Number, Constant, is_digit, all_digits, worth, value_of, nests, small}
use Rattle.constants.specs.Reading.{Behind, Nothing, Wants, Has, begun, put, Formed, read_from}
use Rattle.constants.specs.Answer.{deepest, in_range}
use Rattle.constants.specs.declared.Base.{Base}
use Rattle.constants.specs.declared.Counted.{Counted}

-- numbers

-- a number as the code holds it: none is above 65,535
unfoldable pub number_if : Bool → ℕ → Result ℕ Refusal
number_if true n = Ok n
number_if false n = Err Range

unfoldable pub number_in : ℕ → Result ℕ Refusal
number_in n = number_if (leb n 65535) n

-- how many digits of a base stand in front
abbrev pub digits_end : Base → List ℕ → ℕ
digits_end base text = prefix_len (λ c. is_digit base c) text

-- no digit of a base stands in front
unfoldable pub NoDigit : Base → List ℕ → Type 0
NoDigit base [] = Unit {0}
NoDigit base (c ∷ cs) = is_digit base c ≡ false

-- the digits at the front of a text, as many as there are
pub record Spans (base : Base) (text digits rest : List ℕ) : Type 0 where
  pub spans : text ≡ digits ++ rest
  pub all : all_digits base digits ≡ true
  pub ends : NoDigit base rest

-- a number and what is left behind it, or that it is too large
unfoldable pub HoldsNumber : ℕ → List ℕ → Result Counted Refusal → Type 0
HoldsNumber n rest (Ok r) = (n ≤ 65535) × (r.value ≡ pos n) × (r.rest.now ≡ rest)
HoldsNumber n rest (Err e) = (65535 < n) × (e ≡ Range)

pub record Digits (base : Base) (text : List ℕ) (r : Result Counted Refusal) : Type 0 where
  pub digits : List ℕ
  pub rest : List ℕ
  pub spans : Spans base text digits rest
  pub holds : HoldsNumber (worth base digits) rest r

-- what is read goes on with a number
pub record NumberAt (text : List ℕ) : Type 0 where
  pub pile : List Behind
  pub behind : Behind
  pub whole : Constant
  pub reads : read_from (begun pile behind (get_or text 0 0)) (drop 1 text) ≡ Formed whole
  pub some : 0 < length text
  pub other : get_or text 0 0 ≢ 40

-- the number there, and how the reading goes on behind it
pub record Counts (text : List ℕ) (r : Result Counted Refusal) : Type 0 where
  pub base : Base
  pub digits : List ℕ
  pub rest : List ℕ
  pub reads : (pile : List Behind) (b : Behind)
      → read_from (begun pile b (get_or text 0 0)) (drop 1 text) ≡ read_from (Has pile (put b (Number base digits))) rest
  pub shorter : length rest < length text
  pub holds : HoldsNumber (worth base digits) rest r

-- totals

-- a total with a term, which counts below 0 behind a minus
unfoldable pub join_if : Bool → ℤ → ℤ → ℤ
join_if true total term = total -ℤ term
join_if false total term = total +ℤ term

unfoldable pub joined : ℤ → ℕ → ℤ → ℤ
joined total sign term = join_if (eqb sign 45) total term

-- both fit in a half of the range
pub record JoinFits (total : ℤ) (sign : ℕ) (term : ℤ) : Type 0 where
  pub total_fits : mag total < 2 ^ 126
  pub term_fits : mag term < 2 ^ 126

-- so many characters make no larger a value
pub record Bounded (count : ℕ) (value : ℤ) : Type 0 where
  pub above : value ≤ℤ pos (65535 * count)
  pub below : neg_ℤ (pos (65535 * count)) ≤ℤ value

-- a value, where it is in its range
unfoldable pub sum_if : Bool → ℤ → Result ℤ Refusal
sum_if true v = Ok v
sum_if false v = Err Range

unfoldable pub sum_in : ℤ → Result ℤ Refusal
sum_in v = sum_if (in_range v) v

-- sums

-- neither the end nor a closed parenthesis stands in front
unfoldable pub goes_on : List ℕ → Bool
goes_on [] = false
goes_on (c ∷ cs) = not (eqb c 41)

-- what stands behind a sign, where there is one
unfoldable pub behind_if : Bool → ℕ → List ℕ → List ℕ
behind_if true c cs = cs
behind_if false c cs = c ∷ cs

unfoldable pub behind_sign : List ℕ → List ℕ
behind_sign [] = []
behind_sign (c ∷ cs) = behind_if (eqb c 43 || eqb c 45) c cs

-- what is read goes on with a constant, with so many parentheses left to open
pub record Opens (text : List ℕ) (depth : ℕ) : Type 0 where
  pub pile : List Behind
  pub whole : Constant
  pub reads : read_from (Wants pile Nothing) text ≡ Formed whole
  pub fits : nests whole deepest ≡ true
  pub room : length pile + depth ≡ deepest
  pub short : length text < 2 ^ 64

-- the constant there, and how the reading goes on behind it: at the end or at a closed parenthesis
pub record Summed (text : List ℕ) (value : ℤ) (rest : List ℕ) : Type 0 where
  pub sum : Constant
  pub reads : (pile : List Behind) → read_from (Wants pile Nothing) text ≡ read_from (Has pile sum) rest
  pub ends : goes_on rest ≡ false
  pub small : small sum ≡ true
  pub is : value ≡ value_of sum
  pub count : ℕ
  pub counted : length rest + count ≡ length text
  pub bounded : Bounded count value

-- or a number in it is too large, and so every constant that the reading makes of it has one that is
unfoldable pub Sums : List ℕ → Result Counted Refusal → Type 0
Sums text (Ok r) = Summed text r.value r.rest.now
Sums text (Err e) = (e ≡ Range) × ((pile : List Behind) (x : Constant) → read_from (Wants pile Nothing) text ≡ Formed x → small x ≡ false)

-- A constant by places in its text, its value kept as a total: two counts of 65,536s and a rest below that, so that no part grows faster
-- than the text. Another way to say what is read than in Forms and Sums; the laws of it stand in Amounts and Places.
-- Assumes nothing.
use Rattle.std.specs.Prelude.{ℕ, suc, ◌+◌, ◌*◌, ◌≤◌, ◌<◌, min, Bool, true, false, ◌||◌, ◌&&◌, not, List, ◌++◌, ◌≢◌, ◌≡◌, eqb, leb, length, get_or, drop, ℤ, pos, neg_ℤ, ◌+ℤ◌, ◌-ℤ◌}
use Rattle.constants.specs.Constant.{Number, Constant, all_digits, worth, value_of, nests, small}
use Rattle.constants.specs.Reading.{Behind, Nothing, Wants, Has, begun, put, Read, NoConstant, Formed, read_from}
use Rattle.constants.specs.Answer.{Found, Large, deepest, in_range, found_if, signed}
use Rattle.constants.specs.Forms.{ends_at}
use Rattle.constants.specs.Sums.{NoDigit, goes_on}
use Rattle.constants.specs.declared.Base.{Base}
use Rattle.constants.specs.declared.Base.TheVariants.{Decimal, Hexadecimal}
use Rattle.constants.specs.declared.Stand.{Stand}

-- a number: the place behind it, and its value, or 65,536 for any above 65,535
pub record Numeral : Type 0 where
  pub at : ℕ
  pub value : ℕ

-- a total of numbers: 65,536 times the difference of up and down, and low; large says that there was a number above 65,535, which is not in it
pub record Total : Type 0 where
  pub up : ℕ
  pub down : ℕ
  pub low : ℕ
  pub large : Bool

-- a sum: the place behind it, and the total with it
pub record Sum : Type 0 where
  pub at : ℕ
  pub total : Total

-- forms

-- of what form a text is: no constant, one that is nested too deep, or one that is not
pub data Form : Type 0 where
  Wrong : Form
  TooDeep : Form
  Right : Form

unfoldable pub form_if : Bool → Form → Form → Form
form_if true f other = f
form_if false f other = other

unfoldable pub form_in : Read → Form
form_in NoConstant = Wrong
form_in (Formed c) = form_if (nests c deepest) Right TooDeep

unfoldable pub form_by : Stand → ℕ → Bool → Form
form_by stand opened deep = form_if (ends_at stand && eqb opened 0) (form_if deep TooDeep Right) Wrong

-- numbers

unfoldable pub base_if : Bool → Base
base_if true = Hexadecimal
base_if false = Decimal

-- a number with an end: any above 65,535 is 65,536
abbrev pub clipped : ℕ → ℕ
clipped n = min 65536 n

-- the digits from a place on, as many as there are
pub record Spans (base : Base) (text : List ℕ) (from : ℕ) (r : Numeral) : Type 0 where
  pub digits : List ℕ
  pub spans : drop from text ≡ digits ++ drop r.at text
  pub all : all_digits base digits ≡ true
  pub ends : NoDigit base (drop r.at text)
  pub place : r.at ≡ from + length digits
  pub value : r.value ≡ clipped (worth base digits)

-- what is read goes on at a place with a number
pub record NumberAt (text : List ℕ) (from : ℕ) : Type 0 where
  pub pile : List Behind
  pub behind : Behind
  pub whole : Constant
  pub reads : read_from (begun pile behind (get_or text from 0)) (drop (suc from) text) ≡ Formed whole
  pub within : from < length text
  pub other : get_or text from 0 ≢ 40

-- the number there, and where the reading goes on behind it
pub record Counts (text : List ℕ) (from : ℕ) (r : Numeral) : Type 0 where
  pub base : Base
  pub digits : List ℕ
  pub reads : (pile : List Behind) (b : Behind)
      → read_from (begun pile b (get_or text from 0)) (drop (suc from) text) ≡ read_from (Has pile (put b (Number base digits))) (drop r.at text)
  pub further : from < r.at
  pub within : r.at ≤ length text
  pub value : r.value ≡ clipped (worth base digits)

-- totals

unfoldable pub total_of : Total → ℤ
total_of t = pos (t.up * 65536 + t.low) -ℤ pos (t.down * 65536)

-- an integer that counts above 0 or below it
unfoldable pub turned_by : Bool → ℤ → ℤ
turned_by false v = v
turned_by true v = neg_ℤ v

-- a total holds what so many characters say, so that it has room
pub record Holds (at : ℕ) (t : Total) : Type 0 where
  pub low : t.low < 65536
  pub up : t.up ≤ at
  pub down : t.down ≤ at

-- a total with a number, where it is at most 65,535
pub record Adds (t : Total) (number : ℕ) (negative : Bool) (r : Total) : Type 0 where
  pub holds : (at : ℕ) → Holds at t → Holds (suc at) r
  pub large : r.large ≡ (t.large || not (leb number 65535))
  pub total : number ≤ 65535 → total_of r ≡ total_of t +ℤ turned_by negative (pos number)

-- what is answered of a total
unfoldable pub found_by : Total → Found
found_by t = found_if (not (not t.large && in_range (total_of t))) Large (signed (total_of t))

-- sums

-- a sign before a term
unfoldable pub width_if : Bool → ℕ
width_if true = 1
width_if false = 0

unfoldable pub width_of : ℕ → ℕ
width_of c = width_if (eqb c 43 || eqb c 45)

unfoldable pub turned_if : Bool → Bool → Bool
turned_if true negative = not negative
turned_if false negative = negative

unfoldable pub turned : ℕ → Bool → Bool
turned c negative = turned_if (eqb c 45) negative

-- what is read goes on at a place with a constant, with so many parentheses left to open
pub record Opens (text : List ℕ) (from depth : ℕ) (t : Total) : Type 0 where
  pub pile : List Behind
  pub whole : Constant
  pub reads : read_from (Wants pile Nothing) (drop from text) ≡ Formed whole
  pub fits : nests whole deepest ≡ true
  pub room : length pile + depth ≡ deepest
  pub within : from ≤ length text
  pub holds : Holds from t

-- the constant there, and where the reading goes on behind it: at the end or at a closed parenthesis
pub record Sums (text : List ℕ) (from : ℕ) (negative : Bool) (t : Total) (r : Sum) : Type 0 where
  pub sum : Constant
  pub reads : (pile : List Behind) → read_from (Wants pile Nothing) (drop from text) ≡ read_from (Has pile sum) (drop r.at text)
  pub ends : goes_on (drop r.at text) ≡ false
  pub further : from ≤ r.at
  pub within : r.at ≤ length text
  pub holds : Holds r.at r.total
  pub large : r.total.large ≡ (t.large || not (small sum))
  pub total : small sum ≡ true → total_of r.total ≡ total_of t +ℤ turned_by negative (value_of sum)

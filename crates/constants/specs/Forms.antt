-- How the code judges the form of a text: by where the reading stands, how many parentheses are open, and whether there were too many.
-- Assumes nothing.
use Rattle.std.specs.Prelude.{ℕ, ◌+◌, ◌-◌, Bool, true, false, ◌||◌, ◌&&◌, not, [], ◌∷◌, ◌≡◌, eqb, Result, Ok, Err}
use Rattle.arith.specs.declared.Refusal.{Refusal}
use Rattle.arith.specs.declared.Refusal.TheVariants.{Form, Nesting}
use Rattle.constants.specs.Constant.{is_decimal, is_digit, nests}
use Rattle.constants.specs.Reading.{Nothing, Sign, Joined, Less, State, Wants, Digits, Has, Stuck, Read, NoConstant, Formed}
use Rattle.constants.specs.Answer.{deepest}
use Rattle.constants.specs.declared.Stand.{Stand}
use Rattle.constants.specs.declared.Stand.TheVariants.{Start, Next, Dollar, InHexadecimal, InDecimal, Closed, Nowhere}
use Rattle.constants.specs.declared.Base.TheVariants.{Decimal, Hexadecimal}

-- where a state of the reading stands, as the code has it
unfoldable pub StandsAt : State → Stand → Type 0
StandsAt (Wants pile Nothing) stand = stand ≡ Start
StandsAt (Wants pile Sign) stand = stand ≡ Next
StandsAt (Wants pile (Joined x)) stand = stand ≡ Next
StandsAt (Wants pile (Less x)) stand = stand ≡ Next
StandsAt (Digits pile b Decimal []) stand = ⊥
StandsAt (Digits pile b Decimal (d ∷ ds)) stand = stand ≡ InDecimal
StandsAt (Digits pile b Hexadecimal []) stand = stand ≡ Dollar
StandsAt (Digits pile b Hexadecimal (d ∷ ds)) stand = stand ≡ InHexadecimal
StandsAt (Has pile x) stand = stand ≡ Closed
StandsAt Stuck stand = stand ≡ Nowhere

-- where a character leads: to the begin of a term, behind a term with so many parentheses open, and from any place
unfoldable pub stand_if : Bool → Stand → Stand → Stand
stand_if true stand other = stand
stand_if false stand other = other

unfoldable pub begun_at : ℕ → Stand
begun_at c = stand_if (eqb c 40) Start (stand_if (eqb c 36) Dollar (stand_if (is_decimal c) InDecimal Nowhere))

unfoldable pub followed_at : ℕ → ℕ → Stand
followed_at c opened =
    stand_if (eqb c 43 || eqb c 45) Next (stand_if (eqb c 41 && not (eqb opened 0)) Closed Nowhere)

unfoldable pub stand_after : Stand → ℕ → ℕ → Stand
stand_after Start c opened = stand_if (eqb c 45) Next (begun_at c)
stand_after Next c opened = begun_at c
stand_after Dollar c opened = stand_if (is_digit Hexadecimal c) InHexadecimal Nowhere
stand_after InHexadecimal c opened = stand_if (is_digit Hexadecimal c) InHexadecimal (followed_at c opened)
stand_after InDecimal c opened = stand_if (is_digit Decimal c) InDecimal (followed_at c opened)
stand_after Closed c opened = followed_at c opened
stand_after Nowhere c opened = Nowhere

-- how many parentheses are open behind a character
unfoldable pub open_if : Bool → Bool → ℕ → ℕ
open_if true closes opened = opened + 1
open_if false true opened = opened - 1
open_if false false opened = opened

unfoldable pub open_after : ℕ → ℕ → ℕ
open_after c opened = open_if (eqb c 40) (eqb c 41 && not (eqb opened 0)) opened

-- the form of what is read
unfoldable pub form_if : Bool → Result (Unit {0}) Refusal → Result (Unit {0}) Refusal → Result (Unit {0}) Refusal
form_if true f other = f
form_if false f other = other

unfoldable pub form_in : Read → Result (Unit {0}) Refusal
form_in NoConstant = Err Form
form_in (Formed c) = form_if (nests c deepest) (Ok tt) (Err Nesting)

-- and the same by where the reading ends
unfoldable pub ends_at : Stand → Bool
ends_at Start = false
ends_at Next = false
ends_at Dollar = false
ends_at InHexadecimal = true
ends_at InDecimal = true
ends_at Closed = true
ends_at Nowhere = false

unfoldable pub form_by : Stand → ℕ → Bool → Result (Unit {0}) Refusal
form_by stand opened deep = form_if (ends_at stand && eqb opened 0) (form_if deep (Err Nesting) (Ok tt)) (Err Form)

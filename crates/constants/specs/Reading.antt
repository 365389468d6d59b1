-- The constant that a text is: read from the left, a character at a time. What is open stands on a pile: for each parenthesis what it
-- was opened behind.
-- Assumes nothing.
use Rattle.std.specs.Prelude.{ℕ, Bool, true, false, List, [], ◌∷◌, ◌++◌, eqb}
use Rattle.constants.specs.declared.Base.{Base}
use Rattle.constants.specs.declared.Base.TheVariants.{Decimal, Hexadecimal}
use Rattle.constants.specs.Constant.{Term, Number, Within, Constant, Plain, Negated, Plus, Minus, is_digit, is_decimal}

-- what a term is read behind: nothing yet, a minus, or a constant that a + or a - joins it to
pub data Behind : Type 0 where
  Nothing : Behind
  Sign : Behind
  Joined : Constant → Behind
  Less : Constant → Behind

unfoldable pub put : Behind → Term → Constant
put Nothing t = Plain t
put Sign t = Negated t
put (Joined c) t = Plus c t
put (Less c) t = Minus c t

-- where the reading stands, the pile first: a term is to come; in the digits of a number, of which some may be there; behind a closed
-- parenthesis; or no constant begins so
pub data State : Type 0 where
  Wants : List Behind → Behind → State
  Digits : List Behind → Behind → Base → List ℕ → State
  Has : List Behind → Constant → State
  Stuck : State

unfoldable pub state_if : Bool → State → State → State
state_if true s other = s
state_if false s other = other

-- a term begins with (, $ or a digit
unfoldable pub begun : List Behind → Behind → ℕ → State
begun pile b c =
    state_if (eqb c 40) (Wants (b ∷ pile) Nothing)
    (state_if (eqb c 36) (Digits pile b Hexadecimal []) (state_if (is_decimal c) (Digits pile b Decimal (c ∷ [])) Stuck))

-- the first perhaps after a minus
unfoldable pub wanted : List Behind → Behind → ℕ → State
wanted pile Nothing c = state_if (eqb c 45) (Wants pile Sign) (begun pile Nothing c)
wanted pile Sign c = begun pile Sign c
wanted pile (Joined x) c = begun pile (Joined x) c
wanted pile (Less x) c = begun pile (Less x) c

-- a parenthesis closes the one opened last
unfoldable pub closed : List Behind → Constant → State
closed [] x = Stuck
closed (b ∷ pile) x = Has pile (put b (Within x))

-- behind a term stands + or - and another term, or )
unfoldable pub followed : List Behind → Constant → ℕ → State
followed pile x c =
    state_if (eqb c 43) (Wants pile (Joined x)) (state_if (eqb c 45) (Wants pile (Less x)) (state_if (eqb c 41) (closed pile x) Stuck))

-- a number has at least one digit
unfoldable pub ended : List Behind → Behind → Base → List ℕ → ℕ → State
ended pile b base [] c = Stuck
ended pile b base (d ∷ ds) c = followed pile (put b (Number base (d ∷ ds))) c

unfoldable pub step : State → ℕ → State
step (Wants pile b) c = wanted pile b c
step (Digits pile b base digits) c =
    state_if (is_digit base c) (Digits pile b base (digits ++ (c ∷ []))) (ended pile b base digits c)
step (Has pile x) c = followed pile x c
step Stuck c = Stuck

-- what is read: no constant, or one
pub data Read : Type 0 where
  NoConstant : Read
  Formed : Constant → Read

unfoldable pub finished : State → Read
finished (Wants pile b) = NoConstant
finished (Digits [] b base []) = NoConstant
finished (Digits [] b base (d ∷ ds)) = Formed (put b (Number base (d ∷ ds)))
finished (Digits (x ∷ pile) b base digits) = NoConstant
finished (Has [] x) = Formed x
finished (Has (b ∷ pile) x) = NoConstant
finished Stuck = NoConstant

unfoldable pub read_from : State → List ℕ → Read
read_from s [] = finished s
read_from s (c ∷ cs) = read_from (step s c) cs

unfoldable pub read_of : List ℕ → Read
read_of text = read_from (Wants [] Nothing) text

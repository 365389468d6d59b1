-- Where the code's reading stands is where the definition's stands, behind each character and at the end.
-- Assumes nothing.
use Prim.Native.Nat.{ℕ, suc}
use mathlib.Core.Bool.{Bool, true, false, not, and-false}
use mathlib.Core.List.{List, [], ◌∷◌, ◌++◌}
use mathlib.Core.Path.{◌≡◌, refl}
use lib.Dec.{eqb, lit≤, eqb-suc-zero}
use lib.ListN.{length}
use Rattle.constants.specs.Constant.{Number, Constant, is_digit, nests}
use Rattle.constants.specs.declared.Base.{Base}
use Rattle.constants.specs.declared.Base.TheVariants.{Decimal, Hexadecimal}
use Rattle.constants.specs.Reading.{Behind, Nothing, Sign, Joined, Less, put, State, Wants, Digits, Has, Stuck, state_if, begun, wanted, closed, followed, ended, step, Formed, finished}
use Rattle.constants.specs.Answer.{deepest}
use Rattle.constants.specs.Forms.{StandsAt, stand_if, begun_at, followed_at, stand_after, ends_at, form_if, form_in, form_by}
use Rattle.constants.specs.declared.Stand.{Stand}
use Rattle.constants.specs.declared.Stand.TheVariants.{Next, InHexadecimal, InDecimal, Nowhere}
use Rattle.std.specs.Prelude.{Ok, Err}
use Rattle.arith.specs.declared.Refusal.TheVariants.{Form, Nesting}
use Rattle.constants.proofs.Steps.{decimal_from, digit_not, by_begun, by_followed}
use Rattle.constants.proofs.Nesting.{Tally, Tallies, wants_nests, has_nests, pile_nests, number_nests}

begun_stands : (pile : List Behind) (b : Behind) (c : ℕ) → StandsAt (begun pile b c) (begun_at c)
unfolding StandsAt begun_at stand_if
begun_stands pile b c =
    by_begun (λ s. StandsAt s (begun_at c)) pile c b (λ e. rw e) (λ e. rw e)
    (λ e. let h = decimal_from c e in rw (digit_not c 40 h (lit≤ tt), digit_not c 36 h (lit≤ tt), e))
    (λ e f g. rw (e, f, g))

closed_stands : (pile : List Behind) (x : Constant) (opened : ℕ) → length pile ≡ opened → StandsAt (closed pile x) (followed_at 41 opened)
unfolding StandsAt closed followed_at stand_if
closed_stands [] x opened e = rw (← e)
closed_stands (b ∷ pile) x opened e = rw (← e, eqb-suc-zero (length pile))

followed_stands : (pile : List Behind) (x : Constant) (c opened : ℕ) → length pile ≡ opened → StandsAt (followed pile x c) (followed_at c opened)
unfolding StandsAt followed_at stand_if
followed_stands pile x c opened e =
    by_followed (λ s. StandsAt s (followed_at c opened)) pile c x (λ f. rw f) (λ f. rw f)
    (λ f. rw f (closed_stands pile x opened e))
    (λ f g h. rw (f, g, h))

by_one_test : (t : Bool) (s other : State) (stand place : Stand) → StandsAt s stand → StandsAt other place
    → StandsAt (state_if t s other) (stand_if t stand place)
unfolding state_if stand_if
by_one_test true s other stand place p q = p
by_one_test false s other stand place p q = q

-- behind each character
pub step_stands : (s : State) (stand : Stand) (c opened : ℕ) (deep : Bool) → StandsAt s stand → Tally s opened deep
    → StandsAt (step s c) (stand_after stand c opened)
unfolding StandsAt Tally Tallies step wanted stand_after ended
step_stands (Wants pile Nothing) stand c opened deep e t =
    rw e (by_one_test (eqb c 45) (Wants pile Sign) (begun pile Nothing c) Next (begun_at c) refl (begun_stands pile Nothing c))
step_stands (Wants pile Sign) stand c opened deep e t = rw e (begun_stands pile Sign c)
step_stands (Wants pile (Joined x)) stand c opened deep e t = rw e (begun_stands pile (Joined x) c)
step_stands (Wants pile (Less x)) stand c opened deep e t = rw e (begun_stands pile (Less x) c)
step_stands (Digits pile b Decimal []) stand c opened deep e t = absurd e
step_stands (Digits pile b Decimal (d ∷ ds)) stand c opened deep e t =
    rw e (by_one_test (is_digit Decimal c) (Digits pile b Decimal (d ∷ (ds ++ (c ∷ [])))) _ InDecimal _ refl
    (followed_stands pile (put b (Number Decimal (d ∷ ds))) c opened t.0))
step_stands (Digits pile b Hexadecimal []) stand c opened deep e t =
    rw e (by_one_test (is_digit Hexadecimal c) (Digits pile b Hexadecimal (c ∷ [])) Stuck InHexadecimal Nowhere refl refl)
step_stands (Digits pile b Hexadecimal (d ∷ ds)) stand c opened deep e t =
    rw e (by_one_test (is_digit Hexadecimal c) (Digits pile b Hexadecimal (d ∷ (ds ++ (c ∷ [])))) _ InHexadecimal _ refl
    (followed_stands pile (put b (Number Hexadecimal (d ∷ ds))) c opened t.0))
step_stands (Has pile x) stand c opened deep e t = rw e (followed_stands pile x c opened t.0)
step_stands Stuck stand c opened deep e t = rw e

-- at the end
turned_about : (nesting deep : Bool) → nesting ≡ not deep → form_if deep (Err Nesting) (Ok tt) ≡ form_if nesting (Ok tt) (Err Nesting)
unfolding form_if
turned_about nesting true e = rw e
turned_about nesting false e = rw e

whole : (x : Constant) (stand : Stand) (opened : ℕ) (deep : Bool) → ends_at stand ≡ true → Tallies [] (has_nests [] x) opened deep
    → form_by stand opened deep ≡ form_in (Formed x)
unfolding Tallies has_nests pile_nests form_by form_in form_if
whole x stand opened deep e t = rw (e, ← t.0) (turned_about (nests x deepest) deep t.1)

none_open : (n opened : ℕ) (stand : Stand) (deep : Bool) → suc n ≡ opened → form_by stand opened deep ≡ Err Form
unfolding form_by form_if
none_open n opened stand deep e = rw (← e, eqb-suc-zero n, and-false (ends_at stand))

no_end : (stand : Stand) (opened : ℕ) (deep : Bool) → ends_at stand ≡ false → form_by stand opened deep ≡ Err Form
unfolding form_by form_if
no_end stand opened deep e = rw e

number_whole : (b : Behind) (base : Base) (digits : List ℕ) (stand : Stand) (opened : ℕ) (deep : Bool) → ends_at stand ≡ true
    → Tallies [] (wants_nests [] b) opened deep → form_by stand opened deep ≡ form_in (Formed (put b (Number base digits)))
number_whole b base digits stand opened deep e t =
    whole (put b (Number base digits)) stand opened deep e (rw (number_nests [] b base digits) t)

pub finished_stands : (s : State) (stand : Stand) (opened : ℕ) (deep : Bool) → StandsAt s stand → Tally s opened deep
    → form_by stand opened deep ≡ form_in (finished s)
unfolding StandsAt Tally Tallies finished form_in ends_at
finished_stands (Wants pile Nothing) stand opened deep e t = no_end stand opened deep (rw e)
finished_stands (Wants pile Sign) stand opened deep e t = no_end stand opened deep (rw e)
finished_stands (Wants pile (Joined x)) stand opened deep e t = no_end stand opened deep (rw e)
finished_stands (Wants pile (Less x)) stand opened deep e t = no_end stand opened deep (rw e)
finished_stands (Digits [] b Decimal []) stand opened deep e t = absurd e
finished_stands (Digits [] b Decimal (d ∷ ds)) stand opened deep e t = number_whole b Decimal (d ∷ ds) stand opened deep (rw e) t
finished_stands (Digits [] b Hexadecimal []) stand opened deep e t = no_end stand opened deep (rw e)
finished_stands (Digits [] b Hexadecimal (d ∷ ds)) stand opened deep e t = number_whole b Hexadecimal (d ∷ ds) stand opened deep (rw e) t
finished_stands (Digits (x ∷ pile) b base digits) stand opened deep e t = none_open _ opened stand deep t.0
finished_stands (Has [] x) stand opened deep e t = whole x stand opened deep (rw e) t
finished_stands (Has (b ∷ pile) x) stand opened deep e t = none_open _ opened stand deep t.0
finished_stands Stuck stand opened deep e t = no_end stand opened deep (rw e)

-- Of what form a text is where its reading ends, as one of three.
-- Assumes nothing.
use Prim.Native.Nat.{ℕ, suc}
use mathlib.Core.Bool.{Bool, true, false, not, and-false}
use mathlib.Core.List.{List, [], ◌∷◌}
use mathlib.Core.Path.{◌≡◌}
use lib.Dec.{eqb-suc-zero}
use Rattle.constants.specs.Constant.{Number, Constant, nests}
use Rattle.constants.specs.Reading.{Behind, Nothing, Sign, Joined, Less, put, State, Wants, Digits, Has, Stuck, Formed, finished}
use Rattle.constants.specs.Answer.{deepest}
use Rattle.constants.specs.Forms.{StandsAt, ends_at}
use Rattle.constants.specs.Totals.{Wrong, TooDeep, Right, form_if, form_in, form_by}
use Rattle.constants.specs.declared.Base.{Base}
use Rattle.constants.specs.declared.Base.TheVariants.{Decimal, Hexadecimal}
use Rattle.constants.specs.declared.Stand.{Stand}
use Rattle.constants.proofs.Nesting.{Tally, Tallies, wants_nests, has_nests, pile_nests, number_nests}

turned_about : (nesting deep : Bool) → nesting ≡ not deep → form_if deep TooDeep Right ≡ form_if nesting Right TooDeep
unfolding form_if
turned_about nesting true e = rw e
turned_about nesting false e = rw e

whole : (x : Constant) (stand : Stand) (opened : ℕ) (deep : Bool) → ends_at stand ≡ true → Tallies [] (has_nests [] x) opened deep
    → form_by stand opened deep ≡ form_in (Formed x)
unfolding Tallies has_nests pile_nests form_by form_in form_if
whole x stand opened deep e t = rw (e, ← t.0) (turned_about (nests x deepest) deep t.1)

none_open : (n opened : ℕ) (stand : Stand) (deep : Bool) → suc n ≡ opened → form_by stand opened deep ≡ Wrong
unfolding form_by form_if
none_open n opened stand deep e = rw (← e, eqb-suc-zero n, and-false (ends_at stand))

no_end : (stand : Stand) (opened : ℕ) (deep : Bool) → ends_at stand ≡ false → form_by stand opened deep ≡ Wrong
unfolding form_by form_if
no_end stand opened deep e = rw e

number_whole : (b : Behind) (base : Base) (digits : List ℕ) (stand : Stand) (opened : ℕ) (deep : Bool) → ends_at stand ≡ true
    → Tallies [] (wants_nests [] b) opened deep → form_by stand opened deep ≡ form_in (Formed (put b (Number base digits)))
number_whole b base digits stand opened deep e t =
    whole (put b (Number base digits)) stand opened deep e (rw (number_nests [] b base digits) t)

pub finished_stands : (s : State) (stand : Stand) (opened : ℕ) (deep : Bool) → StandsAt s stand → Tally s opened deep
    → form_by stand opened deep ≡ form_in (finished s)
unfolding StandsAt Tally Tallies finished form_in ends_at
finished_stands (Wants pile Nothing) stand opened deep e t = no_end stand opened deep (rw e)
finished_stands (Wants pile Sign) stand opened deep e t = no_end stand opened deep (rw e)
finished_stands (Wants pile (Joined x)) stand opened deep e t = no_end stand opened deep (rw e)
finished_stands (Wants pile (Less x)) stand opened deep e t = no_end stand opened deep (rw e)
finished_stands (Digits [] b Decimal []) stand opened deep e t = absurd e
finished_stands (Digits [] b Decimal (d ∷ ds)) stand opened deep e t = number_whole b Decimal (d ∷ ds) stand opened deep (rw e) t
finished_stands (Digits [] b Hexadecimal []) stand opened deep e t = no_end stand opened deep (rw e)
finished_stands (Digits [] b Hexadecimal (d ∷ ds)) stand opened deep e t = number_whole b Hexadecimal (d ∷ ds) stand opened deep (rw e) t
finished_stands (Digits (x ∷ pile) b base digits) stand opened deep e t = none_open _ opened stand deep t.0
finished_stands (Has [] x) stand opened deep e t = whole x stand opened deep (rw e) t
finished_stands (Has (b ∷ pile) x) stand opened deep e t = none_open _ opened stand deep t.0
finished_stands Stuck stand opened deep e t = no_end stand opened deep (rw e)

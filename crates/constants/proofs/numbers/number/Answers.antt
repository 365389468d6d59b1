-- `number` takes the digits behind a $, or those here. There are some, since what is read is a constant.
use Prim.Native.Nat.{ℕ, ◌+◌}
use mathlib.Core.Bool.{Bool, true, false, true≢false}
use mathlib.Core.List.{List, [], ◌∷◌, ◌++◌}
use mathlib.Core.Logic.{◌≢◌}
use mathlib.Core.Path.{◌≡◌, refl, sym, ap, subst, ◌∙◌}
use native.Mathlib.Omega.{arith}
use borrow.Author.Tests.{ne_eqb}
use lib.ListN.{length, get_or, drop, length-append}
use Rattle.std.specs.Prelude.{Result}
use Rattle.arith.specs.declared.Refusal.{Refusal}
use Rattle.constants.specs.Constant.{is_decimal, is_digit, all_digits, worth}
use Rattle.constants.specs.Reading.{Behind, Digits, Stuck, begun, state_if}
use Rattle.constants.specs.Sums.{HoldsNumber, NoDigit, Spans, NumberAt, Counts}
use Rattle.constants.specs.Sums.{Digits as Held}
use Rattle.constants.specs.declared.Base.TheVariants.{Decimal, Hexadecimal}
use Rattle.constants.specs.declared.Counted.{Counted}
use Rattle.constants.proofs.Steps.{both}
use Rattle.constants.proofs.Terms.{part}
use Rattle.constants.proofs.Worth.{stuck, no_constant, digits_read, number_ends, none_read}
use Rattle.constants.proofs.numbers.number.Goals as goal

-- behind digits less is left
left : (text digits rest : List ℕ) → text ≡ digits ++ rest → length digits + length rest ≡ length text
left text digits rest e = sym (ap length e ∙ length-append digits rest)

module _ (r : Result Counted Refusal) where
  hexadecimal : (c : ℕ) (cs : List ℕ) → NumberAt (c ∷ cs) → c ≡ 36 → (digits rest : List ℕ) → Spans Hexadecimal cs digits rest
      → HoldsNumber (worth Hexadecimal digits) rest r → Counts (c ∷ cs) r
  unfolding begun state_if
  hexadecimal c cs n e [] rest s h =
      absurd (no_constant (sym (none_read n.pile n.behind Hexadecimal rest s.ends) ∙ rw (e, s.spans) at n.reads))
  hexadecimal c cs n e (d ∷ ds) rest s h = record {
    base = Hexadecimal;
    digits = d ∷ ds;
    rest = rest;
    reads =
        λ pile b. rw (e, s.spans)
        (digits_read pile b Hexadecimal [] (d ∷ ds) rest s.all ∙ number_ends pile b Hexadecimal d ds rest s.ends);
    shorter = omega (arith, left cs (d ∷ ds) rest s.spans);
    holds = h;
  }

  module _ (c : ℕ) (cs : List ℕ) (n : NumberAt (c ∷ cs)) (dollar : c ≢ 36) where
    begun_here : (pile : List Behind) (b : Behind)
        → begun pile b c ≡ state_if (is_decimal c) (Digits pile b Decimal (c ∷ [])) Stuck
    unfolding begun state_if
    begun_here pile b = rw (ne_eqb c 40 n.other, ne_eqb c 36 dollar)

    -- what is read here is a digit
    digit_here : (t : Bool) → is_decimal c ≡ t → t ≡ true
    unfolding state_if
    digit_here true e = refl
    digit_here false e = absurd (no_constant (sym (stuck cs) ∙ rw (begun_here n.pile n.behind, e) at n.reads))

    has_digit : is_decimal c ≡ true
    has_digit = digit_here _ refl

    first : (pile : List Behind) (b : Behind) → begun pile b c ≡ Digits pile b Decimal (c ∷ [])
    unfolding state_if
    first pile b = begun_here pile b ∙ rw has_digit

    decimal : (digits rest : List ℕ) → Spans Decimal (c ∷ cs) digits rest → HoldsNumber (worth Decimal digits) rest r → Counts (c ∷ cs) r
    unfolding NoDigit all_digits is_digit
    decimal [] rest s h =
        let none : NoDigit Decimal (c ∷ cs) = subst (NoDigit Decimal) (sym s.spans) s.ends in
        absurd (true≢false (sym has_digit ∙ none))
    decimal (d ∷ ds) rest s h =
        let here : c ∷ cs ≡ d ∷ (ds ++ rest) = s.spans in
        let same : c ≡ d = cc in
        let more : cs ≡ ds ++ rest = cc in
        record {
          base = Decimal;
          digits = d ∷ ds;
          rest = rest;
          reads =
              λ pile b. rw (first pile b, more, same)
              (digits_read pile b Decimal (d ∷ []) ds rest (both (is_decimal d) (all_digits Decimal ds) s.all).1
              ∙ number_ends pile b Decimal d ds rest s.ends);
          shorter = omega (arith, left (c ∷ cs) (d ∷ ds) rest here);
          holds = h;
        }

  by_dollar : (text : List ℕ) → NumberAt text → get_or text 0 0 ≡ 36 → Held Hexadecimal (drop 1 text) r → Counts text r
  by_dollar [] n e h = absurd (omega (arith, n.some))
  by_dollar (c ∷ cs) n e h = hexadecimal c cs n e h.digits h.rest h.spans h.holds

  by_digit : (text : List ℕ) → NumberAt text → get_or text 0 0 ≢ 36 → Held Decimal text r → Counts text r
  by_digit [] n e h = absurd (omega (arith, n.some))
  by_digit (c ∷ cs) n e h = decimal c cs n e h.digits h.rest h.spans h.holds

pub returns-then-text-eq36 : goal.returns-then-text-eq36
returns-then-text-eq36 c = by_dollar _ _ c.requires c.if-text-eq36.true (rw part at c.digits.ensures)

pub returns-else-text-eq36 : goal.returns-else-text-eq36
returns-else-text-eq36 c = by_digit _ _ c.requires c.if-text-eq36.false c.digits-else-text-eq36.ensures

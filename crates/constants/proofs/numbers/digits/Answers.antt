-- `digits` takes the digits in front, and stops at the first with which the number is too large.
use Prim.Native.Nat.{ℕ, ◌+◌, ◌*◌, ◌≤◌, ◌<◌}
use Rattle.std.specs.Prelude.{Ok, Err}
use Rattle.std.proofs.Common.{rules, SFits}
use Rattle.std.proofs.lemmas.Int.{to_z-of_z}
use Rattle.std.proofs.lemmas.List.{take-append-drop, take_all}
use Rattle.std.proofs.lemmas.List.Sums.{prefix_len-le-length}
use Rattle.std.proofs.lemmas.Result.{err_from_is_err_and}
use Rattle.std.proofs.Math.Seq.{take-suc}
use borrow.Author.Tests.{leb-true, leb-false}
use mathlib.Core.Bool.{Bool, true, false}
use mathlib.Core.List.{List}
use mathlib.Core.Path.{◌≡◌, refl, sym, ap, ◌∙◌}
use mir.Syntax.{w128}
use native.Mathlib.Numerals.{add-one}
use native.Mathlib.Omega.{arith}
use lib.Dec.{leb, lit≤}
use lib.IntN.{pos}
use lib.ListN.{length, get_or, take, drop}
use Rattle.arith.specs.declared.Refusal.{Refusal}
use Rattle.arith.specs.declared.Refusal.TheVariants.{Range}
use Rattle.digits.specs.Digits.{worth_of}
use Rattle.constants.specs.Constant.{digit_of, base_of, worth, is_digit}
use Rattle.constants.specs.Sums.{number_if, number_in, digits_end, Spans, HoldsNumber}
use Rattle.constants.specs.declared.Base.{Base}
use Rattle.constants.specs.declared.Base.TheVariants.{Decimal, Hexadecimal}
use Rattle.constants.proofs.Worth.{worth_digit, worth_grows, digits_span}
use Rattle.constants.proofs.numbers.digits.Goals as goal

-- what the code's answer says of a number
number_err : (t : Bool) (n : ℕ) (x : Refusal) → leb n 65535 ≡ t → number_if t n ≡ Err x → (65535 < n) × (x ≡ Range)
unfolding number_if
number_err true n x e f = cc
number_err false n x e f = (leb-false n 65535 e, cc)

number_ok : (t : Bool) (n m : ℕ) → leb n 65535 ≡ t → number_if t n ≡ Ok m → (m ≤ 65535) × (m ≡ n)
unfolding number_if
number_ok true n m e f = let same : m ≡ n = cc in (rw same (leb-true n 65535 e), same)
number_ok false n m e f = cc

-- one more digit
module _ (base : Base) (front : List ℕ) (i : ℕ) (h : i < length front) (value b d : ℕ) (is : value ≡ worth base (take i front)) (by : b ≡ base_of base)
    (digit : d ≡ digit_of (get_or front i 0))
  where
    one_more : value * b + d ≡ worth base (take (i + 1) front)
    one_more =
        rw (is, by, digit)
        (sym (worth_digit base (take i front) (get_or front i 0)) ∙ ap (worth base) (sym (rw add-one (take-suc front i 0 h))))

    too_large : (x : Refusal) → Err x ≡ number_in (value * b + d) → (65535 < worth base front) × (x ≡ Range)
    unfolding number_in
    too_large x e =
        let large = number_err _ (value * b + d) x refl (sym e) in
        let grows = rw take-append-drop at (worth_grows base (take (i + 1) front) (drop (i + 1) front)) in
        (omega (arith, large.0, one_more, grows), large.1)

    still_small : (m : ℕ) → Ok m ≡ number_in (value * b + d) → (m ≤ 65535) × (m ≡ worth base (take (i + 1) front))
    unfolding number_in
    still_small m e =
        let small = number_ok _ (value * b + d) m refl (sym e) in
        (small.0, small.1 ∙ one_more)

small_base : (base : Base) → base_of base ≤ 16
unfolding base_of
small_base Decimal = lit≤ tt
small_base Hexadecimal = lit≤ tt

spanned : (base : Base) (text front rest : List ℕ) (e : ℕ) → e ≡ digits_end base text → front ≡ take e text → rest ≡ drop e text
    → Spans base text front rest
spanned base text front rest e is f r = rw (f, r, is) (digits_span base text)

pub split_at-requires : goal.split_at-requires
split_at-requires c = rw c.digits_end.ensures (prefix_len-le-length (λ x. is_digit c.args.base x) c.args.text.now)

pub loop-c-init : goal.loop-c-init
unfolding worth worth_of
loop-c-init c = record { few = omega arith; is = refl }

pub with_digit-requires : goal.with_digit-requires
with_digit-requires c = (c.loop-c.invariant.few, rw c.base-counted_by.ensures (small_base c.args.base))

pub returns-in_err-value : goal.returns-in_err-value
unfolding HoldsNumber
returns-in_err-value c =
    let p = err_from_is_err_and c.from_residual.result c.from_residual.ensures.1 in
    let large =
    too_large c.args.base c.split_at.result.0.now c.loop-c.c-index c.loop-c-test.true _ _ _ c.loop-c.invariant.is
    c.base-counted_by.ensures c.digit.ensures _ c.in_err-value.ensures in
    rw (p.1, p.2) (record {
      digits = c.split_at.result.0.now;
      rest = c.split_at.result.1.now;
      spans = spanned c.args.base c.args.text.now _ _ _ c.digits_end.ensures c.split_at.ensures.front c.split_at.ensures.back;
      holds = large;
    })

pub loop-c-preserved : goal.loop-c-preserved
loop-c-preserved c =
    let small =
    still_small c.args.base c.split_at.result.0.now c.loop-c.c-index c.loop-c-test.true _ _ _ c.loop-c.invariant.is
    c.base-counted_by.ensures c.digit.ensures _ c.in_ok-value.ensures in
    record { few = small.0; is = small.1 }

pub returns : goal.returns
unfolding HoldsNumber
returns c =
    let all : worth c.args.base c.split_at.result.0.now ≡ c.loop-c.value =
    sym (rw (take_all c.loop-c.c-index c.split_at.result.0.now c.loop-c-test.false) at c.loop-c.invariant.is) in
    let fits : SFits w128 c.from.result = search rules in
    record {
      digits = c.split_at.result.0.now;
      rest = c.split_at.result.1.now;
      spans = spanned c.args.base c.args.text.now _ _ _ c.digits_end.ensures c.split_at.ensures.front c.split_at.ensures.back;
      holds = (omega (arith, all, c.loop-c.invariant.few), to_z-of_z w128 c.from.result fits ∙ c.from.ensures ∙ ap pos (sym all), refl);
    }

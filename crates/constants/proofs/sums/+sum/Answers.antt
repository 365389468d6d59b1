-- `sum` reads a level: a sign, where there is one, and a number, or a constant in parentheses by a call of itself.
use Prim.Native.Nat.{◌<◌}
use Rattle.std.proofs.Common.{rules, SFits}
use Rattle.std.proofs.lemmas.Int.{to_z-of_z}
use Rattle.std.proofs.lemmas.Result.{err_from_is_err_and}
use mathlib.Core.Path.{refl, sym, ◌∙◌}
use mir.Syntax.{w128}
use native.Mathlib.Omega.{arith}
use lib.ListN.{length}
use Rattle.constants.specs.Sums.{Sums, HoldsNumber}
use Rattle.constants.proofs.Levels.{begins, level_sums}
use Rattle.constants.proofs.Terms.{here, term_here, depth_left, inner_opens, inner_large, closed_here, inner_fits, inner_smaller, inner_level, number_at, number_too_large, number_fits, number_smaller, number_level, part}
use Rattle.constants.proofs.sums.+sum.Goals as goal

pub loop-sign-init : goal.loop-sign-init
loop-sign-init t c = begins _

-- the sign
pub bounds-rest-0 : goal.bounds-rest-0
bounds-rest-0 t c = here c.requires c.loop-sign.invariant (sym c.goes_on.ensures ∙ c.loop-sign-test.true)

pub bounds-term-0 : goal.bounds-term-0
bounds-term-0 t c =
    rw c.behind_sign-term.ensures (term_here c.requires c.loop-sign.invariant (sym c.goes_on.ensures ∙ c.loop-sign-test.true))

-- a constant in parentheses
pub overflow_sub-depth : goal.overflow_sub-depth
overflow_sub-depth t c =
    let goes = sym c.goes_on.ensures ∙ c.loop-sign-test.true in
    depth_left c.requires c.loop-sign.invariant goes (rw c.behind_sign-term.ensures at c.if-term-eq40.true)

pub sum-requires : goal.sum-requires
sum-requires t c =
    let goes = sym c.goes_on.ensures ∙ c.loop-sign-test.true in
    let opens = rw c.behind_sign-term.ensures at c.if-term-eq40.true in (
      omega (arith, depth_left c.requires c.loop-sign.invariant goes opens),
      rw (c.behind_sign-term.ensures, part) (inner_opens c.requires c.loop-sign.invariant goes opens),
    )

pub returns-in_err-inner : goal.returns-in_err-inner
unfolding Sums
returns-in_err-inner t c =
    let goes = sym c.goes_on.ensures ∙ c.loop-sign-test.true in
    let opens = rw c.behind_sign-term.ensures at c.if-term-eq40.true in
    let large = rw (c.behind_sign-term.ensures, part) at c.in_err-inner.ensures in
    let p = err_from_is_err_and c.from_residual.result c.from_residual.ensures.1 in
    rw (p.1, p.2) (large.0, inner_large c.requires c.loop-sign.invariant goes opens large.1)

pub with_term-value-requires : goal.with_term-value-requires
unfolding Sums
with_term-value-requires t c =
    let goes = sym c.goes_on.ensures ∙ c.loop-sign-test.true in
    let opens = rw c.behind_sign-term.ensures at c.if-term-eq40.true in
    let sums = rw (c.behind_sign-term.ensures, part) at c.in_ok-inner.ensures in
    let fits : SFits w128 c.in_ok-inner.inner.value = search rules in
    rw (to_z-of_z w128 c.in_ok-inner.inner.value fits) (inner_fits c.requires c.loop-sign.invariant goes opens _ _ sums)

pub slice_bounds-rest-count : goal.slice_bounds-rest-count
unfolding Sums
slice_bounds-rest-count t c =
    let goes = sym c.goes_on.ensures ∙ c.loop-sign-test.true in
    let opens = rw c.behind_sign-term.ensures at c.if-term-eq40.true in
    let sums = rw (c.behind_sign-term.ensures, part) at c.in_ok-inner.ensures in
    closed_here c.requires c.loop-sign.invariant goes opens _ _ sums

pub slice_bounds-rest-start : goal.slice_bounds-rest-start
unfolding Sums
slice_bounds-rest-start t c =
    let goes = sym c.goes_on.ensures ∙ c.loop-sign-test.true in
    let opens = rw c.behind_sign-term.ensures at c.if-term-eq40.true in
    let sums = rw (c.behind_sign-term.ensures, part) at c.in_ok-inner.ensures in
    closed_here c.requires c.loop-sign.invariant goes opens _ _ sums

pub loop-sign-smaller-then-term-eq40 : goal.loop-sign-smaller-then-term-eq40
unfolding Sums
loop-sign-smaller-then-term-eq40 t c =
    let goes = sym c.goes_on.ensures ∙ c.loop-sign-test.true in
    let opens = rw c.behind_sign-term.ensures at c.if-term-eq40.true in
    let sums = rw (c.behind_sign-term.ensures, part) at c.in_ok-inner.ensures in
    rw part (inner_smaller c.requires c.loop-sign.invariant goes opens _ _ sums)

pub loop-sign-preserved-then-term-eq40 : goal.loop-sign-preserved-then-term-eq40
unfolding Sums
loop-sign-preserved-then-term-eq40 t c =
    let goes = sym c.goes_on.ensures ∙ c.loop-sign-test.true in
    let opens = rw c.behind_sign-term.ensures at c.if-term-eq40.true in
    let sums = rw (c.behind_sign-term.ensures, part) at c.in_ok-inner.ensures in
    let fits : SFits w128 c.in_ok-inner.inner.value = search rules in
    let after : SFits w128 c.with_term-value.result = search rules in
    rw (part, to_z-of_z w128 c.with_term-value.result after, c.with_term-value.ensures, to_z-of_z w128 c.in_ok-inner.inner.value fits)
    (inner_level c.requires c.loop-sign.invariant goes opens _ _ sums)

-- a number
pub number-requires : goal.number-requires
number-requires t c =
    let goes = sym c.goes_on.ensures ∙ c.loop-sign-test.true in
    let other = rw c.behind_sign-term.ensures at c.if-term-eq40.false in
    rw c.behind_sign-term.ensures (number_at c.requires c.loop-sign.invariant goes other)

pub returns-in_err-number : goal.returns-in_err-number
unfolding Sums HoldsNumber
returns-in_err-number t c =
    let goes = sym c.goes_on.ensures ∙ c.loop-sign-test.true in
    let counts = rw c.behind_sign-term.ensures at c.number.ensures in
    let held = rw c.in_err-number.was at counts.holds in
    let p = err_from_is_err_and c.from_residual-in_err-number.result c.from_residual-in_err-number.ensures.1 in
    rw (p.1, p.2) (held.1, number_too_large c.requires c.loop-sign.invariant goes _ counts held.0)

pub with_term-value-requires-else-term-eq40 : goal.with_term-value-requires-else-term-eq40
unfolding Sums HoldsNumber
with_term-value-requires-else-term-eq40 t c =
    let goes = sym c.goes_on.ensures ∙ c.loop-sign-test.true in
    let counts = rw c.behind_sign-term.ensures at c.number.ensures in
    let held = rw c.in_ok-number.was at counts.holds in
    let fits : SFits w128 c.in_ok-number.number.value = search rules in
    rw (to_z-of_z w128 c.in_ok-number.number.value fits, held.1)
    (number_fits c.requires c.loop-sign.invariant goes _ counts _ refl held.0)

pub loop-sign-smaller : goal.loop-sign-smaller
unfolding Sums HoldsNumber
loop-sign-smaller t c =
    let goes = sym c.goes_on.ensures ∙ c.loop-sign-test.true in
    let counts = rw c.behind_sign-term.ensures at c.number.ensures in
    let held = rw c.in_ok-number.was at counts.holds in
    let left : length counts.rest < length c.loop-sign.rest.now =
    number_smaller c.requires c.loop-sign.invariant goes _ counts _ refl held.0 in
    rw (← held.2) at left

pub loop-sign-preserved : goal.loop-sign-preserved
unfolding Sums HoldsNumber
loop-sign-preserved t c =
    let goes = sym c.goes_on.ensures ∙ c.loop-sign-test.true in
    let counts = rw c.behind_sign-term.ensures at c.number.ensures in
    let held = rw c.in_ok-number.was at counts.holds in
    let fits : SFits w128 c.in_ok-number.number.value = search rules in
    let after : SFits w128 c.with_term-value-else-term-eq40.result = search rules in
    rw (
      to_z-of_z w128 c.with_term-value-else-term-eq40.result after,
      c.with_term-value-else-term-eq40.ensures,
      to_z-of_z w128 c.in_ok-number.number.value fits,
      held.1,
      held.2,
    ) (number_level c.requires c.loop-sign.invariant goes _ counts _ refl held.0)

-- the level ends
pub returns : goal.returns
unfolding Sums
returns t c =
    let fits : SFits w128 c.loop-sign.value = search rules in
    level_sums _ _ _ c.requires.pile c.requires.whole c.loop-sign.invariant
    (sym c.goes_on.ensures ∙ c.loop-sign-test.false) c.requires.reads

-- `decimal` writes digit by digit, from the highest.
use Prim.Native.Nat.{ℕ, zero, suc, ◌+◌, ◌-◌, ◌/◌, ◌%◌, ◌^◌, ◌<◌, ◌≤◌}
use mathlib.Core.Bool.{Bool, true, false}
use mathlib.Core.Path.{◌≡◌, refl}
use borrow.Author.Tests.{leb-true, leb-false}
use lib.Dec.{leb, lit<}
use native.Mathlib.Nat.{one-le-pow, div-one}
use native.Mathlib.Omega.{arith}
use Rattle.digits.specs.Digits.{digits_of}
use Rattle.digits.specs.Numerals.{glyph_of, width_of, decimal_text}
use Rattle.digits.proofs.Decimal.{power_reached, power_passed}
use Rattle.text.specs.Written.{pushed, written}
use Rattle.text.specs.declared.Text.{Text}
use Rattle.text.proofs.Text.decimal.Invariants.{left}
use Rattle.text.proofs.Text.decimal.Goals as goal

-- the digit of a power leaves those of the powers below it
module _ (n p : ℕ) (t u : Text) (digit : (p ≤ n → u ≡ pushed (glyph_of (n / p % 10)) t) × (n < p → u ≡ t)) where
  by_reach : (k : ℕ) (b : Bool) → leb p n ≡ b → p ≡ 10 ^ suc k → left k n u ≡ left (suc k) n t
  unfolding written
  by_reach k true e power =
      rw (digit.0 (leb-true p n e), power, power_reached k n (rw power at (leb-true p n e)))
  by_reach k false e power = rw (digit.1 (leb-false p n e), power_passed k n (rw power at (leb-false p n e)))

  lower : (k m : ℕ) → k + 1 ≡ m → p ≡ 10 ^ m → left k n u ≡ left m n t
  lower k zero e power = absurd (omega arith)
  lower k (suc m) e power =
      let same : k ≡ m = omega arith in rw same (by_reach m (leb p n) refl power)

pub loop-place-init : goal.loop-place-init
unfolding decimal_text
loop-place-init c = refl

pub digit-self-requires : goal.digit-self-requires
digit-self-requires c = rw c.pow.ensures (one-le-pow (9 - c.loop-place.place) 10 (lit< tt))

pub loop-place-preserved : goal.loop-place-preserved
loop-place-preserved c =
    let here = c.loop-place.place in
    let step : 9 - (here + 1) + 1 ≡ 9 - here = omega (arith, c.loop-place-test.true) in
    rw (lower c.args.n c.pow.result _ _ c.digit-self.ensures (9 - (here + 1)) (9 - here) step c.pow.ensures) c.loop-place.invariant

pub returns : goal.returns
unfolding written width_of digits_of
returns c =
    let none : 9 - c.loop-place.place ≡ 0 = omega (arith, c.loop-place-test.false) in
    rw (c.push.ensures, c.glyph.ensures) (rw (none, div-one) at c.loop-place.invariant)

-- `measure` adds up how long the lines are.
use Prim.Native.Nat.{ℕ, ◌≤◌, ◌<◌}
use borrow.Author.Rules.{rules}
use borrow.Author.Tests.{le-leb, lt-leb}
use mathlib.Core.Path.{◌≡◌}
use native.Mathlib.Omega.{arith}
use Rattle.std.proofs.Common.{Ok, Err}
use Rattle.arith.specs.declared.Refusal.TheVariants.{Room}
use Rattle.listing.specs.Forms.{measured_if, measured_of}
use Rattle.listing.proofs.Left.{none_left, at_end, fewer, length_on}
use Rattle.listing.proofs.lines.Lines.measure.Goals as goal

too_long : (whole room : ℕ) → room < whole → Err Room ≡ measured_of whole room
unfolding measured_of measured_if
too_long whole room h = rw (lt-leb whole room h)

fits : (whole room count : ℕ) → count ≡ whole → count ≤ room → Ok count ≡ measured_of whole room
unfolding measured_of measured_if
fits whole room count same h = rw (← same, le-leb count room h)

pub loop-self-init : goal.loop-self-init
loop-self-init c = record { fits = omega arith; whole = omega arith }

pub returns-then-room-length : goal.returns-then-room-length
returns-then-room-length c =
    let wide = c.width-wide.ensures in
    too_long _ _ (omega (arith, length_on wide.others, wide.width, c.loop-self.invariant.whole, c.loop-self.invariant.fits, c.if-room-length.true))

pub loop-self-smaller : goal.loop-self-smaller
loop-self-smaller c = fewer c.width-wide.ensures.others

pub loop-self-preserved : goal.loop-self-preserved
loop-self-preserved c =
    let wide = c.width-wide.ensures in
    record {
      fits = omega (arith, c.loop-self.invariant.fits, c.if-room-length.false);
      whole = omega (arith, length_on wide.others, wide.width, c.loop-self.invariant.whole);
    }

pub returns : goal.returns
returns c =
    let s = c.loop-self.self in
    let none = at_end _ (none_left s.edition s.address s.rest.now (search rules)) in
    fits _ _ _ (omega (arith, none, c.loop-self.invariant.whole)) c.loop-self.invariant.fits

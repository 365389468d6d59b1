-- Bounds out of tests that are made together.
-- Assumes nothing.
use Prim.Native.Nat.{ℕ, ◌≤◌, ◌<◌}
use mathlib.Core.Bool.{Bool, true, false, not, ◌||◌, ◌&&◌}
use mathlib.Core.Path.{◌≡◌, refl}
use borrow.Author.Tests.{leb-true, leb-false, ltb-true}
use lib.Dec.{eqb, leb, ltb}
use Rattle.spellings.proofs.Outline.{both}

pub between : (low high x : ℕ) → (leb low x && ltb x high) ≡ true → (low ≤ x) × (x < high)
between low high x h =
    let each = both (leb low x) (ltb x high) h in
    (leb-true low x each.0, ltb-true x high each.1)

pub and_between : (a k low high x : ℕ) → (eqb a k && (leb low x && ltb x high)) ≡ true → (low ≤ x) × (x < high)
and_between a k low high x h = between low high x (both (eqb a k) (leb low x && ltb x high) h).1

pub and_below : (a k high x : ℕ) → (eqb a k && ltb x high) ≡ true → x < high
and_below a k high x h = ltb-true x high (both (eqb a k) (ltb x high) h).1

first_false : (t u : Bool) → (t || u) ≡ false → t ≡ false
first_false true u e = e
first_false false u e = refl

pub nor_below : (a k high x : ℕ) → (leb high x || not (eqb a k)) ≡ false → x < high
nor_below a k high x h = leb-false high x (first_false (leb high x) (not (eqb a k)) h)

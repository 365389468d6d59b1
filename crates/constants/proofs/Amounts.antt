-- Integers as differences, and totals.
-- Assumes nothing.
use Prim.Native.Nat.{ℕ, suc, ◌+◌, ◌*◌, ◌≤◌, ◌<◌}
use mathlib.Core.Bool.{Bool, true, false, ◌||◌, not, or-false, or-true}
use mathlib.Core.Path.{◌≡◌, sym, ap, ◌∙◌}
use native.Mathlib.Nat.{add_comm}
use native.Mathlib.Omega.{arith}
use borrow.Author.Tests.{le-leb, lt-leb}
use lib.Dec.{leb}
use lib.IntN.{ℤ, pos, negsuc, neg_ℤ, ◌+ℤ◌, ◌-ℤ◌, +ℤ_idl, +ℤ_idr, +ℤ_assoc, +ℤ_comm, neg_ℤ-+ℤ, +ℤ-neg_ℤ_cancel}
use Rattle.constants.specs.Answer.{Large, Above, Below, in_range, found_if, signed}
use Rattle.constants.specs.Totals.{Total, total_of, turned_by, Adds, found_by}

-- a number less another
unfoldable pub difference : ℕ → ℕ → ℤ
difference a b = pos a -ℤ pos b

pub more_difference : (a b n : ℕ) → difference a b +ℤ pos n ≡ difference (a + n) b
unfolding difference
more_difference a b n =
    +ℤ_assoc (pos a) (neg_ℤ (pos b)) (pos n)
    ∙ ap (λ (z : ℤ). pos a +ℤ z) (+ℤ_comm (neg_ℤ (pos b)) (pos n))
    ∙ sym (+ℤ_assoc (pos a) (pos n) (neg_ℤ (pos b)))

pub less_difference : (a b n : ℕ) → difference a b -ℤ pos n ≡ difference a (b + n)
unfolding difference
less_difference a b n =
    +ℤ_assoc (pos a) (neg_ℤ (pos b)) (neg_ℤ (pos n))
    ∙ ap (λ (z : ℤ). pos a +ℤ z) (sym (neg_ℤ-+ℤ (pos b) (pos n)))

both_more : (a b n : ℕ) → difference (a + n) (b + n) ≡ difference a b
both_more a b n =
    sym (less_difference (a + n) b n)
    ∙ ap (λ (z : ℤ). z -ℤ pos n) (sym (more_difference a b n))
    ∙ +ℤ-neg_ℤ_cancel (difference a b) (pos n)

pub same_difference : (a b c d : ℕ) → a + d ≡ c + b → difference a b ≡ difference c d
same_difference a b c d e =
    sym (both_more a b d) ∙ rw (e, add_comm b d) (both_more c d b)

-- a number of at most 65,535 added to a total, or taken away
module _ (t : Total) (number : ℕ) (r : Total) where
  large_kept : number < 65536 → r.large ≡ t.large → r.large ≡ (t.large || not (leb number 65535))
  large_kept h e = e ∙ rw (le-leb number 65535 (omega arith), or-false t.large)

  more_total : r.up * 65536 + r.low + t.down * 65536 ≡ t.up * 65536 + t.low + number + r.down * 65536
      → total_of r ≡ total_of t +ℤ turned_by false (pos number)
  unfolding total_of turned_by
  more_total e =
      unfold difference in
      (same_difference (r.up * 65536 + r.low) (r.down * 65536) (t.up * 65536 + t.low + number) (t.down * 65536) e
      ∙ sym (more_difference (t.up * 65536 + t.low) (t.down * 65536) number))

  less_total : r.up * 65536 + r.low + (t.down * 65536 + number) ≡ t.up * 65536 + t.low + r.down * 65536
      → total_of r ≡ total_of t +ℤ turned_by true (pos number)
  unfolding total_of turned_by
  less_total e =
      unfold difference in
      (same_difference (r.up * 65536 + r.low) (r.down * 65536) (t.up * 65536 + t.low) (t.down * 65536 + number) e
      ∙ sym (less_difference (t.up * 65536 + t.low) (t.down * 65536) number))

  pub more_adds : number < 65536 → r.low < 65536 → r.up ≤ t.up + 1 → r.down ≡ t.down → r.large ≡ t.large
      → r.up * 65536 + r.low ≡ t.up * 65536 + t.low + number → Adds t number false r
  more_adds h low up down large total = record {
    holds = λ at p. record { low = low; up = omega (arith, p.up); down = omega (arith, p.down) };
    large = large_kept h large;
    total = λ _. more_total (omega arith);
  }

  pub less_adds : number < 65536 → r.low < 65536 → r.up ≡ t.up → r.down ≤ t.down + 1 → r.large ≡ t.large
      → r.up * 65536 + r.low + (t.down * 65536 + number) ≡ t.up * 65536 + t.low + r.down * 65536 → Adds t number true r
  less_adds h low up down large total = record {
    holds = λ at p. record { low = low; up = omega (arith, p.up); down = omega (arith, p.down) };
    large = large_kept h large;
    total = λ _. less_total total;
  }

  -- any other is not added
  pub large_adds : (negative : Bool) → 65536 ≤ number → r.up ≡ t.up → r.down ≡ t.down → r.low ≡ t.low → r.large ≡ true → Adds t number negative r
  large_adds negative h up down low large = record {
    holds = λ at p. record { low = rw low p.low; up = omega (arith, p.up); down = omega (arith, p.down) };
    large = large ∙ rw (lt-leb number 65535 (omega arith), or-true t.large);
    total = λ small. absurd (omega arith);
  }

-- an integer from 0 up, and one below 0
pub difference_up : (a b n : ℕ) → a ≡ n + b → difference a b ≡ pos n
unfolding difference
difference_up a b n e = same_difference a b n 0 (omega arith) ∙ +ℤ_idr (pos n)

pub difference_down : (a b n : ℕ) → b ≡ suc n + a → difference a b ≡ negsuc n
unfolding difference
difference_down a b n e = same_difference a b 0 (suc n) (omega arith) ∙ +ℤ_idl (negsuc n)

-- what is answered of a total in which no number was above 65,535
module _ (t : Total) (none : t.large ≡ false) where
  pub above : (n : ℕ) → t.up * 65536 + t.low ≡ n + t.down * 65536 → n ≤ 65535 → Above n ≡ found_by t
  unfolding found_by found_if signed in_range total_of difference
  above n e h = rw (none, difference_up (t.up * 65536 + t.low) (t.down * 65536) n e, le-leb n 65535 h)

  pub too_high : (n : ℕ) → t.up * 65536 + t.low ≡ n + t.down * 65536 → 65535 < n → Large ≡ found_by t
  unfolding found_by found_if signed in_range total_of difference
  too_high n e h = rw (none, difference_up (t.up * 65536 + t.low) (t.down * 65536) n e, lt-leb n 65535 h)

  pub below : (n : ℕ) → t.down * 65536 ≡ suc n + (t.up * 65536 + t.low) → n ≤ 32767 → Below (suc n) ≡ found_by t
  unfolding found_by found_if signed in_range total_of difference
  below n e h = rw (none, difference_down (t.up * 65536 + t.low) (t.down * 65536) n e, le-leb n 32767 h)

  pub too_low : (n : ℕ) → t.down * 65536 ≡ suc n + (t.up * 65536 + t.low) → 32767 < n → Large ≡ found_by t
  unfolding found_by found_if signed in_range total_of difference
  too_low n e h = rw (none, difference_down (t.up * 65536 + t.low) (t.down * 65536) n e, lt-leb n 32767 h)

pub too_large : (t : Total) → t.large ≡ true → Large ≡ found_by t
unfolding found_by found_if
too_large t e = rw e

-- Decimal bytes: adding with carry and then adjusting gives the decimal sum and its carry. The sum of two decimal bytes is seen in
-- the sum u of their high digits and the sum l of their low digits and the carry, so that 19 times 20 cases are all: computed.
-- Assumes nothing.
use Prim.Native.Nat.{ℕ, ◌+◌, ◌*◌, ◌/◌, ◌%◌, ◌<◌}
use mathlib.Core.Bool.{Bool, true, false}
use mathlib.Core.Path.{◌≡◌, refl}
use native.Mathlib.Omega.{arith}
use borrow.Author.Tests.{leb-true, leb-false}
use lib.Dec.{leb}
use Rattle.arith.specs.Width.{one_if, sum_of, carry_of}
use Rattle.arith.specs.Flags.{weight_if, flags_of, n_of, h_of, c_of}
use Rattle.arith.specs.Bytes.{is_zero, added_of}
use Rattle.arith.specs.Decimal.{adjustment_of, adjusted_of, low_wrong_of, high_wrong_of, after_addition_of, by_last, decimal_of}
use Rattle.arith.specs.Flagged.{Byte}
use Rattle.arith.proofs.Laws.{one_most, c_back, decimal_fits}
use Rattle.insn.proofs.Entries.{tabulate, agree}
use Rattle.routines.specs.Decimals.{Decimal, worth}

-- a number below 100 as a byte of two digits
abbrev pub bcd : ℕ → ℕ
bcd k = k / 10 * 16 + k % 10

pub worth_bcd : (k : ℕ) → k < 100 → worth (bcd k) ≡ k
worth_bcd k p = omega arith

pub bcd_decimal : (k : ℕ) → k < 100 → Decimal (bcd k)
bcd_decimal k p = omega arith

-- DAA of a result and its F
unfoldable pub adjusted : Byte → Byte
adjusted r = decimal_of r.value r.flags

pub adjusted_low : (r : Byte) → (adjusted r).flags % 16 ≡ 0
unfolding adjusted
adjusted_low r = (decimal_fits r.value r.flags).flags_low

-- a number below 100 as a byte of digits and its F: N and C as given, H 0
abbrev pub bcd_byte : ℕ → Bool → Bool → Byte
bcd_byte k n c = record { value = bcd k; flags = flags_of (is_zero (bcd k)) n false c }

-- ADC by the sums u and l
summed : ℕ → ℕ → Byte
summed u l =
    record {
      value = (16 * u + l) % 256;
      flags = flags_of (is_zero ((16 * u + l) % 256)) false (leb 16 l) (leb 256 (16 * u + l));
    }

-- what DAA makes of it, and what it is to make of it
abbrev found : ℕ → ℕ → Byte
found u l = adjusted (summed u l)

abbrev wanted : ℕ → ℕ → Byte
wanted u l = bcd_byte ((10 * u + l) % 100) false (leb 100 (10 * u + l))

all_sums : (u l : ℕ) → u < 19 → l < 20 → found u l ≡ wanted u l
unfolding adjusted summed sum_of weight_if flags_of n_of h_of c_of adjustment_of adjusted_of low_wrong_of high_wrong_of after_addition_of by_last decimal_of
all_sums u l p q =
    agree (found u) (wanted u) 20 (agree (λ u. tabulate (found u) 0 20) (λ u. tabulate (wanted u) 0 20) 19 refl u p) l q

carried : (t : ℕ) (c : Bool) → leb 100 t ≡ c → t < 200 → t % 100 + 100 * one_if c ≡ t
carried t true e h = omega (arith, leb-true 100 t e)
carried t false e h = omega (arith, leb-false 100 t e)

module _ (x y : ℕ) (k : Bool) (v : Decimal x) (w : Decimal y) where
  by_digits : added_of x y k ≡ summed (x / 16 + y / 16) (x % 16 + y % 16 + one_if k)
  unfolding added_of sum_of carry_of summed
  by_digits =
      let e : x + y + one_if k ≡ 16 * (x / 16 + y / 16) + (x % 16 + y % 16 + one_if k) = omega arith in
      let g : x % 256 + y % 256 + one_if k ≡ 16 * (x / 16 + y / 16) + (x % 16 + y % 16 + one_if k) = omega arith in
      rw (e, g)

  -- the decimal sum of two decimal bytes and a carry
  pub decimal_sum : adjusted (added_of x y k)
      ≡ bcd_byte ((worth x + worth y + one_if k) % 100) false (leb 100 (worth x + worth y + one_if k))
  decimal_sum =
      let u = x / 16 + y / 16 in
      let l = x % 16 + y % 16 + one_if k in
      let e : worth x + worth y + one_if k ≡ 10 * u + l = omega arith in
      rw (by_digits, e) (all_sums u l (omega arith) (omega (arith, one_most k)))

  -- the same as an equation of numbers: the digits, and 100 where the adjustment carries
  pub sum_decimal : Decimal (adjusted (added_of x y k)).value
  sum_decimal = rw decimal_sum (bcd_decimal _ (omega arith))

  pub sum_worth : worth (adjusted (added_of x y k)).value + 100 * one_if (c_of (adjusted (added_of x y k)).flags)
      ≡ worth x + worth y + one_if k
  sum_worth =
      let t = worth x + worth y + one_if k in
      rw (decimal_sum, c_back, worth_bcd (t % 100) (omega arith)) (carried t (leb 100 t) refl (omega (arith, one_most k)))

-- one more pair of digits below a sum: where z + 100 j is x + y + k and Z + P o is X + Y + j, the whole is a sum too. A difference
-- is the same equation with z and x, and Z and X, in each other's place
pub more_digits : (z x y j k Z X Y P o : ℕ) → z + 100 * j ≡ x + y + k → Z + P * o ≡ X + Y + j
    → z + 100 * Z + 100 * P * o ≡ x + 100 * X + (y + 100 * Y) + k
more_digits z x y j k Z X Y P o e g = omega arith

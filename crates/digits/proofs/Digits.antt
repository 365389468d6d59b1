-- Digits and numbers in any base: the low k digits of a number make it again modulo base to the k, and a number made of digits
-- has those digits. At base 256 these are the laws of big-endian bytes.
-- Assumes nothing.
use Prim.Native.Nat.{ℕ, zero, suc, ◌+◌, ◌*◌, ◌/◌, ◌%◌, ◌^◌, ◌<◌}
use mathlib.Core.List.{List, [], ◌∷◌, ◌++◌}
use mathlib.Core.Path.{◌≡◌, refl, sym, ap}
use native.Mathlib.Nat.{pow-suc, pow-zero, mod-one, mod-eq_of_lt, mod-lt, mul-add-div_right, mul-add-mod_self_right, mul_comm, mul_assoc, add-zero, one-le-pow}
use native.Mathlib.Omega.{arith}
use lib.Arith.{mod-mul, digits_lt, digits_div}
use lib.ListN.{length, get_or}
use lib.Pow.{pow-add}
use Rattle.digits.specs.Digits.{worth_of, digits_of}

-- every digit is below the base
pub record Below (base : ℕ) (digits : List ℕ) : Type 0 where
  pub at : (i : ℕ) → get_or digits i 0 < base

pub below_rest : {base d : ℕ} {rest : List ℕ} → Below base (d ∷ rest) → Below base rest
below_rest p = record { at = λ i. p.at (suc i) }

module _ (base : ℕ) (pos : 0 < base) where
  pub digits_length : (k n : ℕ) → length (digits_of base k n) ≡ k
  unfolding digits_of
  digits_length zero n = refl
  digits_length (suc k) n = ap suc (digits_length k n)

  -- the low k digits of n make n modulo base to the k
  pub worth_digits : (k n : ℕ) → worth_of base (digits_of base k n) ≡ n % base ^ k
  unfolding worth_of digits_of
  worth_digits zero n = sym (rw pow-zero (mod-one n))
  worth_digits (suc k) n =
      rw (digits_length k n, worth_digits k n, pow-suc, mul_comm (base ^ k) base)
      (sym (mod-mul n pos (one-le-pow k base pos)))

  -- digits make a number that they have room for
  pub worth_below : (digits : List ℕ) → Below base digits → worth_of base digits < base ^ length digits
  unfolding worth_of
  worth_below [] p = rw pow-zero (omega arith)
  worth_below (d ∷ rest) p =
      rw (pow-suc, mul_comm (base ^ length rest) base) (digits_lt (p.at 0) (worth_below rest (below_rest p)))

  -- what stands above the low k digits changes none of them
  digits_above : (k j x n : ℕ) → digits_of base k (x * base ^ (k + j) + n) ≡ digits_of base k n
  unfolding digits_of
  digits_above zero j x n = refl
  digits_above (suc k) j x n =
      let turned : suc k + j ≡ j + suc k = omega arith in
      let up : suc k + j ≡ k + suc j = omega arith in
      let shift : base ^ (suc k + j) ≡ base ^ j * base * base ^ k =
      rw (turned, pow-add base j (suc k), pow-suc, mul_comm (base ^ k) base, mul_assoc) in
      let digit : (x * base ^ (suc k + j) + n) / base ^ k % base ≡ n / base ^ k % base =
      rw (
        shift,
        ← (mul_assoc x (base ^ j * base) (base ^ k)),
        mul-add-div_right (one-le-pow k base pos),
        ← (mul_assoc x (base ^ j) base),
        mul-add-mod_self_right,
      ) in
      rw (digit, up, digits_above k (suc j) x n)

  -- a number made of digits has those digits
  pub digits_worth : (digits : List ℕ) → Below base digits
      → digits_of base (length digits) (worth_of base digits) ≡ digits
  unfolding digits_of worth_of
  digits_worth [] p = refl
  digits_worth (d ∷ rest) p =
      let below = worth_below rest (below_rest p) in
      let above = rw add-zero at (digits_above (length rest) 0 d (worth_of base rest)) in
      rw (digits_div d below, mod-eq_of_lt (p.at 0), above, digits_worth rest (below_rest p))

-- lists of digits, put together

pub below_none : {base : ℕ} → 0 < base → Below base []
below_none pos = record { at = λ i. pos }

pub below_more : {base d : ℕ} {rest : List ℕ} → d < base → Below base rest → Below base (d ∷ rest)
below_more {base} {d} {rest} p ps = record { at = each }
  where
    each : (i : ℕ) → get_or (d ∷ rest) i 0 < base
    each zero = p
    each (suc i) = ps.at i

pub below_append : {base : ℕ} (xs : List ℕ) {ys : List ℕ} → Below base xs → Below base ys → Below base (xs ++ ys)
below_append [] p q = q
below_append (x ∷ xs) p q = below_more (p.at 0) (below_append xs (below_rest p) q)

pub digits_below : {base : ℕ} → 0 < base → (k n : ℕ) → Below base (digits_of base k n)
unfolding digits_of
digits_below pos zero n = below_none pos
digits_below pos (suc k) n = below_more (mod-lt _ pos) (digits_below pos k n)

-- What H and C tell of a sum and of a difference: the one law of sums, at 8 and 4 bits of bytes and at 16 and 12 of words, and the
-- one law of differences, at 8 and 4.
-- Assumes nothing.
use Rattle.std.proofs.Common.{◌≡◌, ℕ, ◌+◌, ◌-◌, ◌*◌, ◌/◌, ◌%◌, ◌^◌, ◌<◌, ◌≤◌, Bool, sym, ap, ◌∙◌, arith}
use native.Mathlib.Nat.{mod-mod}
use Rattle.arith.specs.Width.{one_if, sum_of, difference_of, carry_of, borrow_of}
use Rattle.arith.specs.Flags.{h_of, c_of}
use Rattle.arith.specs.Bytes.{added_of, subtracted_of}
use Rattle.arith.specs.Words.{added_hl_of}
use Rattle.arith.proofs.Width.{sum_law, difference_law}
use Rattle.arith.proofs.Laws.{one_most, h_back, c_back}

-- a carry and a borrow look at the low bits alone
carry_low : (w a b c : ℕ) → carry_of w (a % 2 ^ w) (b % 2 ^ w) c ≡ carry_of w a b c
unfolding carry_of
carry_low w a b c = rw (mod-mod a (2 ^ w), mod-mod b (2 ^ w))

borrow_low : (w a b c : ℕ) → borrow_of w (a % 2 ^ w) (b % 2 ^ w) c ≡ borrow_of w a b c
unfolding borrow_of
borrow_low w a b c = rw (mod-mod a (2 ^ w), mod-mod b (2 ^ w))

-- the low four bits of a difference of bytes
low_of_low : (n : ℕ) → n % 256 % 16 ≡ n % 16
low_of_low n = omega arith

low_alone : (m n : ℕ) → (16 * m + n) % 16 ≡ n % 16
low_alone m n = omega arith

in_sixteens : (a b c : ℕ) → b < 256 → c ≤ 1
    → a + 256 - (b + c) ≡ 16 * (a / 16 + 15 - b / 16) + (a % 16 + 16 - (b % 16 + c))
in_sixteens a b c p q = omega arith

module _ (a b : ℕ) (k : Bool) where
  pub add_c : a < 256 → b < 256 → a + b + one_if k ≡ (added_of a b k).value + one_if (c_of (added_of a b k).flags) * 256
  unfolding added_of
  add_c p q = rw c_back (sum_law 8 a b (one_if k) p q (one_most k))

  low_sum : sum_of 4 (a % 16) (b % 16) (one_if k) ≡ sum_of 8 a b (one_if k) % 16
  unfolding sum_of
  low_sum = omega arith

  pub add_h : a % 16 + b % 16 + one_if k ≡ (added_of a b k).value % 16 + one_if (h_of (added_of a b k).flags) * 16
  unfolding added_of
  add_h =
      rw (h_back, ← (carry_low 4 a b (one_if k)), ← low_sum)
      (sum_law 4 (a % 16) (b % 16) (one_if k) (omega arith) (omega arith) (one_most k))

  pub subtract_c : a < 256 → b < 256 → a + one_if (c_of (subtracted_of a b k).flags) * 256 ≡ (subtracted_of a b k).value + b + one_if k
  unfolding subtracted_of
  subtract_c p q = rw c_back (difference_law 8 a b (one_if k) p q (one_most k))

  low_difference : b < 256 → difference_of 4 (a % 16) (b % 16) (one_if k) ≡ difference_of 8 a b (one_if k) % 16
  unfolding difference_of
  low_difference q = sym (low_of_low _ ∙ ap (λ (n : ℕ). n % 16) (in_sixteens a b (one_if k) q (one_most k)) ∙ low_alone _ _)

  pub subtract_h : b < 256 → a % 16 + one_if (h_of (subtracted_of a b k).flags) * 16 ≡ (subtracted_of a b k).value % 16 + b % 16 + one_if k
  unfolding subtracted_of
  subtract_h q =
      rw (h_back, ← (borrow_low 4 a b (one_if k)), ← (low_difference q))
      (difference_law 4 (a % 16) (b % 16) (one_if k) (omega arith) (omega arith) (one_most k))

module _ (hl v f : ℕ) where
  pub add_hl_c : hl < 65536 → v < 65536 → hl + v + 0 ≡ (added_hl_of hl v f).value + one_if (c_of (added_hl_of hl v f).flags) * 65536
  unfolding added_hl_of
  add_hl_c p q = rw c_back (sum_law 16 hl v 0 p q (omega arith))

  low_word : sum_of 12 (hl % 4096) (v % 4096) 0 ≡ sum_of 16 hl v 0 % 4096
  unfolding sum_of
  low_word = omega arith

  pub add_hl_h : hl % 4096 + v % 4096 + 0 ≡ (added_hl_of hl v f).value % 4096 + one_if (h_of (added_hl_of hl v f).flags) * 4096
  unfolding added_hl_of
  add_hl_h =
      rw (h_back, ← (carry_low 12 hl v 0), ← low_word)
      (sum_law 12 (hl % 4096) (v % 4096) 0 (omega arith) (omega arith) (omega arith))

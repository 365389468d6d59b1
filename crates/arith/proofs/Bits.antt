-- A bit number counts modulo 8, above 7 too. A byte is turned by the sum of its two parts.
-- Assumes nothing.
use Rattle.std.proofs.Common.{◌≡◌, ℕ, ◌+◌, ◌*◌, ◌/◌, ◌%◌, ◌<◌, arith}
use lib.Bits.{bit_or}
use Rattle.std.proofs.lemmas.Nat.{or_shifted, or_comm}
use Rattle.arith.specs.Bytes.{bit_of, reset_of, set_of, tested_of}

module _ (k : ℕ) where
  round : (k + 8) % 8 ≡ k % 8
  round = omega arith

  pub bit_round : (v : ℕ) → bit_of (k + 8) v ≡ bit_of k v
  unfolding bit_of
  bit_round v = rw round

  pub reset_round : (v : ℕ) → reset_of (k + 8) v ≡ reset_of k v
  unfolding reset_of
  reset_round v = rw round

  pub set_round : (v : ℕ) → set_of (k + 8) v ≡ set_of k v
  unfolding set_of
  set_round v = rw round

  pub tested_round : (v f : ℕ) → tested_of (k + 8) v f ≡ tested_of k v f
  unfolding tested_of
  tested_round v f = rw bit_round

module _ (v : ℕ) (below : v < 256) where
  pub turned_left : bit_or (v * 2 % 256) (v / 128) ≡ v * 2 % 256 + v / 128
  turned_left =
      let e : v * 2 % 256 ≡ v % 128 * 2 = omega arith in
      rw e (or_shifted (v % 128) 1 (v / 128) (omega arith))

  pub turned_right : bit_or (v / 2) (v * 128 % 256) ≡ v / 2 + 128 * (v % 2)
  turned_right =
      let e : v * 128 % 256 ≡ v % 2 * 128 = omega arith in
      rw (e, or_comm (v / 2) (v % 2 * 128), or_shifted (v % 2) 7 (v / 2) (omega arith)) (omega arith)

  pub turned_over : bit_or (v * 16 % 256) (v / 16) ≡ v % 16 * 16 + v / 16
  turned_over =
      let e : v * 16 % 256 ≡ v % 16 * 16 = omega arith in
      rw e (or_shifted (v % 16) 4 (v / 16) (omega arith))

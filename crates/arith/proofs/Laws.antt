-- What holds of the definitions themselves, for every input: results are bytes and words, F's low four bits are 0, the flags are
-- what F was made of, and a word is its two bytes.
-- Assumes nothing.
use Rattle.std.proofs.Common.{◌≡◌, ℕ, ◌+◌, ◌-◌, ◌*◌, ◌/◌, ◌%◌, ◌^◌, ◌<◌, ◌≤◌, Bool, true, false, eqb, ltb, lt_of_le_of_lt, mod-lt, mod-eq_of_lt, one-mul, arith, pow_pos}
use lib.Bits.{and_le_l, or_lt, xor_lt}
use lib.Pow.{pow-lt}
use Rattle.arith.specs.Width.{one_if, sum_of, difference_of}
use Rattle.arith.specs.Flags.{weight_if, flags_of, z_of, n_of, h_of, c_of}
use Rattle.arith.specs.Bytes.{added_of, subtracted_of, logic_of, compared_of, alu_of, increased_of, decreased_of, reset_of, set_of, tested_of}
use Rattle.arith.specs.Rotates.{rotated_of, rotation_of, rotation_a_of}
use Rattle.arith.specs.Decimal.{adjusted_of, after_subtraction_of, after_addition_of, by_last, decimal_of}
use Rattle.arith.specs.Words.{word_of, high_of, low_of, further, back, offset_by, offset_of, added_hl_of, added_sp_of}
use Rattle.arith.specs.Flagged.{Byte}
use Rattle.arith.specs.Flagged.{Word}
use Rattle.arith.specs.declared.Alu.{Alu}
use Rattle.arith.specs.declared.Alu.TheVariants.{Add, Adc, Sub, Sbc, And, Xor, Or, Cp}
use Rattle.arith.specs.declared.Rot.{Rot}
use Rattle.arith.specs.declared.Rot.TheVariants.{Rlc, Rrc, Rl, Rr, Sla, Sra, Swap, Srl}

-- sums and differences

pub sum_below : (w a b c : ℕ) → sum_of w a b c < 2 ^ w
unfolding sum_of
sum_below w a b c = mod-lt _ (pow_pos w)

pub difference_below : (w a b c : ℕ) → difference_of w a b c < 2 ^ w
unfolding difference_of
difference_below w a b c = mod-lt _ (pow_pos w)

-- flags: F is a sum of four bits' weights

pub one_most : (t : Bool) → one_if t ≤ 1
one_most true = omega arith
one_most false = omega arith

-- a bit that is 1 where a test holds tells it
bit_told : (f d : ℕ) (t : Bool) → f / d % 2 ≡ one_if t → eqb (f / d % 2) 1 ≡ t
bit_told f d true e = rw e
bit_told f d false e = rw e

weighed : (t : Bool) (v : ℕ) → weight_if t v ≡ one_if t * v
unfolding weight_if
weighed true v = omega arith
weighed false v = omega arith

module _ (z n h c : Bool) where
  flags_sum : flags_of z n h c ≡ one_if z * 128 + one_if n * 64 + one_if h * 32 + one_if c * 16
  unfolding flags_of
  flags_sum = simp weighed

  pub flags_below : flags_of z n h c < 256
  flags_below = omega (arith, flags_sum, one_most z, one_most n, one_most h, one_most c)

  pub flags_low : flags_of z n h c % 16 ≡ 0
  flags_low = omega (arith, flags_sum)

  pub z_back : z_of (flags_of z n h c) ≡ z
  unfolding z_of
  z_back = bit_told (flags_of z n h c) 128 z (omega (arith, flags_sum, one_most z, one_most n, one_most h, one_most c))

  pub n_back : n_of (flags_of z n h c) ≡ n
  unfolding n_of
  n_back = bit_told (flags_of z n h c) 64 n (omega (arith, flags_sum, one_most n, one_most h, one_most c))

  pub h_back : h_of (flags_of z n h c) ≡ h
  unfolding h_of
  h_back = bit_told (flags_of z n h c) 32 h (omega (arith, flags_sum, one_most h, one_most c))

  pub c_back : c_of (flags_of z n h c) ≡ c
  unfolding c_of
  c_back = bit_told (flags_of z n h c) 16 c (omega (arith, flags_sum, one_most c))

-- words

pub high_below_lem : (w : ℕ) → high_of w < 256
unfolding high_of
high_below_lem w = omega arith

pub low_below_lem : (w : ℕ) → low_of w < 256
unfolding low_of
low_below_lem w = omega arith

pub word_below : (hi lo : ℕ) → hi < 256 → lo < 256 → word_of hi lo < 65536
unfolding word_of
word_below hi lo p q = omega arith

pub word_back : (w : ℕ) → w < 65536 → word_of (high_of w) (low_of w) ≡ w
unfolding word_of high_of low_of
word_back w p = omega arith

pub high_back : (hi lo : ℕ) → hi < 256 → lo < 256 → high_of (word_of hi lo) ≡ hi
unfolding word_of high_of
high_back hi lo p q = omega arith

pub low_back : (hi lo : ℕ) → lo < 256 → low_of (word_of hi lo) ≡ lo
unfolding word_of low_of
low_back hi lo q = omega arith

pub further_below : (n w : ℕ) → further n w < 65536
unfolding further
further_below n w = sum_below 16 w n 0

pub back_below : (n w : ℕ) → back n w < 65536
unfolding back
back_below n w = difference_below 16 w n 0

pub back_further : (n w : ℕ) → n ≤ 65536 → w < 65536 → back n (further n w) ≡ w
unfolding further back sum_of difference_of
back_further n w p q = omega arith

pub further_back : (n w : ℕ) → n ≤ 65536 → w < 65536 → further n (back n w) ≡ w
unfolding further back sum_of difference_of
further_back n w p q = omega arith

by_below : (t : Bool) (e w : ℕ) → offset_by t e w < 65536
unfolding offset_by
by_below true e w = sum_below 16 w e 0
by_below false e w = difference_below 16 w (256 - e) 0

pub offset_below : (e w : ℕ) → offset_of e w < 65536
unfolding offset_of
offset_below e w = by_below (ltb e 0x80) e w

-- a byte or a word that is one, with an F that is one

pub record Fits (bound value flags : ℕ) : Type 0 where
  pub value_below : value < bound
  pub flags_below : flags < 256
  pub flags_low : flags % 16 ≡ 0

abbrev pub ByteFits : Byte → Type 0
ByteFits b = Fits 256 b.value b.flags

abbrev pub WordFits : Word → Type 0
WordFits w = Fits 65536 w.value w.flags

fits : (z n h c : Bool) {bound v : ℕ} → v < bound → Fits bound v (flags_of z n h c)
fits z n h c p = record { value_below = p; flags_below = flags_below z n h c; flags_low = flags_low z n h c }

pub alu_fits : (op : Alu) (a b f : ℕ) → a < 256 → b < 256 → ByteFits (alu_of op a b f)
unfolding alu_of added_of subtracted_of logic_of compared_of
alu_fits Add a b f p q = fits _ _ _ _ (sum_below 8 a b 0)
alu_fits Adc a b f p q = fits _ _ _ _ (sum_below 8 a b (one_if (c_of f)))
alu_fits Sub a b f p q = fits _ _ _ _ (difference_below 8 a b 0)
alu_fits Sbc a b f p q = fits _ _ _ _ (difference_below 8 a b (one_if (c_of f)))
alu_fits And a b f p q = fits _ _ _ _ (lt_of_le_of_lt (and_le_l a b) p)
alu_fits Xor a b f p q = fits _ _ _ _ (xor_lt 8 a b p q)
alu_fits Or a b f p q = fits _ _ _ _ (or_lt 8 a b p q)
alu_fits Cp a b f p q = fits _ _ _ _ p

pub increased_fits : (v f : ℕ) → ByteFits (increased_of v f)
unfolding increased_of
increased_fits v f = fits _ _ _ _ (sum_below 8 v 1 0)

pub decreased_fits : (v f : ℕ) → ByteFits (decreased_of v f)
unfolding decreased_of
decreased_fits v f = fits _ _ _ _ (difference_below 8 v 1 0)

pub rotated_below : (op : Rot) (v : ℕ) (k : Bool) → v < 256 → rotated_of op v k < 256
unfolding rotated_of
rotated_below Rlc v k p = omega arith
rotated_below Rrc v k p = omega arith
rotated_below Rl v k p = omega (arith, one_most k)
rotated_below Rr v k p = omega (arith, one_most k)
rotated_below Sla v k p = omega arith
rotated_below Sra v k p = omega arith
rotated_below Swap v k p = omega arith
rotated_below Srl v k p = omega arith

pub rotation_fits : (op : Rot) (v : ℕ) (k : Bool) → v < 256 → ByteFits (rotation_of op v k)
unfolding rotation_of
rotation_fits op v k p = fits _ _ _ _ (rotated_below op v k p)

pub rotation_a_fits : (op : Rot) (v : ℕ) (k : Bool) → v < 256 → ByteFits (rotation_a_of op v k)
unfolding rotation_a_of
rotation_a_fits op v k p = fits _ _ _ _ (rotated_below op v k p)

last_fits : (t : Bool) (a : ℕ) (h c : Bool) → ByteFits (by_last t a h c)
unfolding by_last after_subtraction_of after_addition_of adjusted_of
last_fits true a h c = fits _ _ _ _ (difference_below 8 a _ 0)
last_fits false a h c = fits _ _ _ _ (sum_below 8 a _ 0)

pub decimal_fits : (a f : ℕ) → ByteFits (decimal_of a f)
unfolding decimal_of
decimal_fits a f = last_fits (n_of f) a (h_of f) (c_of f)

pub added_hl_fits : (hl v f : ℕ) → WordFits (added_hl_of hl v f)
unfolding added_hl_of
added_hl_fits hl v f = fits _ _ _ _ (sum_below 16 hl v 0)

pub added_sp_fits : (sp e : ℕ) → WordFits (added_sp_of sp e)
unfolding added_sp_of
added_sp_fits sp e = fits _ _ _ _ (offset_below e sp)

-- single bits: the byte with one bit set, as it stands in the definitions and as the code shifts it

pub one_hot_below : (k : ℕ) → 2 ^ (k % 8) < 256
one_hot_below k = pow-lt {j = 8} (omega arith)

pub one_hot : (k : ℕ) → 1 * 2 ^ (k % 8) % 256 ≡ 2 ^ (k % 8)
one_hot k = rw one-mul (mod-eq_of_lt (one_hot_below k))

pub reset_below : (k v : ℕ) → v < 256 → reset_of k v < 256
unfolding reset_of
reset_below k v p = lt_of_le_of_lt (and_le_l v _) p

pub set_below : (k v : ℕ) → v < 256 → set_of k v < 256
unfolding set_of
set_below k v p = or_lt 8 v _ p (one_hot_below k)

pub tested_below : (k v f : ℕ) → tested_of k v f < 256
unfolding tested_of
tested_below k v f = flags_below _ _ _ _

pub tested_low : (k v f : ℕ) → tested_of k v f % 16 ≡ 0
unfolding tested_of
tested_low k v f = flags_low _ _ _ _

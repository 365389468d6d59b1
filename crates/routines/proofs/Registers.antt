-- Words and flags as the routines use them: the next place, a word in two registers, what DEC leaves in F.
-- Assumes nothing.
use Prim.Native.Nat.{ℕ, suc, ◌+◌, ◌%◌, ◌<◌}
use mathlib.Core.Path.{◌≡◌, ◌∙◌}
use native.Mathlib.Omega.{arith}
use Rattle.arith.specs.Width.{sum_of, difference_of}
use Rattle.arith.specs.Flags.{z_of, c_of}
use Rattle.arith.specs.Bytes.{is_zero, decreased_of}
use Rattle.arith.specs.Words.{word_of, high_of, low_of, further}
use Rattle.arith.proofs.Laws.{z_back, c_back, word_back, further_below}

-- the next address, short of 65,536
pub next : (w v : ℕ) → (v ≡ w + 1) × (v < 65536) → further 1 w ≡ v
unfolding further sum_of
next w v h = omega arith

-- a register pair that is one further
pub word_next : (w : ℕ) → w < 65535 → word_of (high_of (further 1 w)) (low_of (further 1 w)) ≡ w + 1
unfolding further sum_of
word_next w h = word_back (further 1 w) (further_below 1 w) ∙ omega arith

pub further_next : (n w : ℕ) → further n (w + 1) ≡ further (suc n) w
unfolding further sum_of
further_next n w = omega arith

-- DEC: Z by the result, C stays
module _ (b f : ℕ) where
  pub decreased_z : z_of (decreased_of b f).flags ≡ is_zero (decreased_of b f).value
  unfolding decreased_of
  decreased_z = z_back _ _ _ _

  pub decreased_c : c_of (decreased_of b f).flags ≡ c_of f
  unfolding decreased_of
  decreased_c = c_back _ _ _ _

pub decreased_count : (n f : ℕ) → n < 256 → (decreased_of (suc n % 256) f).value ≡ n
unfolding decreased_of difference_of
decreased_count n f h = omega arith

-- A test as the number that the code makes of it: 1 where it holds, and a weight times that number is the weight where it holds.
-- Assumes nothing.
use Rattle.std.proofs.Common.{◌≡◌, ◌+◌, ◌-◌, ◌*◌, ◌%◌, ◌<◌, ◌≤◌, ℕ, Bool, true, false, ltb, leb, le-leb, le-ltb, lt-ltb, refl, arith}
use Rattle.std.proofs.lemmas.Bool.{lt-leb}
use Rattle.std.specs.Bool.{FalseIff}
use Rattle.std.specs.Int.{from_bool}
use Rattle.arith.specs.Width.{one_if}
use Rattle.arith.specs.Flags.{weight_if}

pub one_told : (t : Bool) → one_if t ≡ from_bool t
one_told true = refl
one_told false = refl

pub weight_told : (t : Bool) (v : ℕ) → weight_if t v ≡ from_bool t * v
unfolding weight_if
weight_told true v = omega arith
weight_told false v = omega arith

-- a byte and the carry that make a sum, and a byte and the borrow that make a difference, are what they are at eight bits

module _ (v : ℕ) (below : v < 256) where
  pub carried : (n : ℕ) (c : Bool) → v + from_bool c * 256 ≡ n → (n % 256 ≡ v) × (leb 256 n ≡ c)
  carried n true e = (omega arith, le-leb _ _ (omega arith))
  carried n false e = (omega arith, lt-leb _ _ (omega arith))

  pub borrowed : (a d : ℕ) (c : Bool) → a < 256 → d ≤ 256 → v + d ≡ a + from_bool c * 256
      → ((a + 256 - d) % 256 ≡ v) × (ltb a d ≡ c)
  borrowed a d true p q e = (omega arith, lt-ltb _ _ (omega arith))
  borrowed a d false p q e = (omega arith, le-ltb _ _ (omega arith))

-- a sum that overflows its width reaches the bound
pub overflown : (m n : ℕ) (c : Bool) → FalseIff c (n < m) → leb m n ≡ c
overflown m n true e = le-leb _ _ (omega arith)
overflown m n false e = lt-leb _ _ e

-- The part of a line from where its constant begins to where it ends is the constant, as the code lends it.
-- Assumes nothing.
use Prim.Native.Nat.{ℕ, ◌+◌, ◌-◌, ◌≤◌}
use mathlib.Core.List.{List}
use mathlib.Core.Path.{◌≡◌}
use native.Mathlib.Omega.{arith}
use lib.ListN.{length, take, drop}
use Rattle.spellings.specs.Outline.{before_in, constant_in}
use Rattle.spellings.proofs.Fallen.{constant_part, constant_within}

module _ (line : List ℕ) (from to : ℕ) (begun : from ≡ length (before_in line)) (ended : to ≡ length (before_in line) + length (constant_in line)) where
  pub part_is : take (to - from) (drop from line) ≡ constant_in line
  part_is =
      let long : to - from ≡ length (constant_in line) = omega (arith, begun, ended) in
      rw (long, begun) (constant_part line)

  pub part_within : (from ≤ to) × (to ≤ length line)
  part_within = let within = constant_within line in (omega (arith, begun, ended), omega (arith, ended, within))

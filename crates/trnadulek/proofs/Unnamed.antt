-- Numbers that no arm of a match names: they are beyond those that do.
-- Assumes nothing.
use Prim.Native.Nat.{ℕ, ◌≤◌}
use mathlib.Core.List.{[]}
use mathlib.Core.Path.{◌≡◌}
use lib.ListN.{get_or-eq_default}
use Rattle.trnadulek.specs.Sizes.{sizes, size_of}
use Rattle.trnadulek.specs.Wording.{wordings, wording_of}

pub sizeless : (x : ℕ) → 6 ≤ x → size_of x ≡ 0
unfolding sizes size_of
sizeless x p = get_or-eq_default sizes 0 p

pub wordless : (x : ℕ) → 15 ≤ x → wording_of x ≡ []
unfolding wordings wording_of
wordless x p = get_or-eq_default wordings [] p

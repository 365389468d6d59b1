-- Each public promise determines its answer: as in the crate arith, of `Post`.
-- Assumes nothing.
use mathlib.Core.List.{List}
use mathlib.Core.Path.{ap}
use Prim.Native.Nat.{ℕ}
use Rattle.arrayvec.specs.ArrayVec.{ArrayVec}
use Rattle.arith.proofs.Unique.{same, OneAnswer}
use Rattle.spellings.proofs.find.Reads as find
use Rattle.spellings.proofs.bytes.Reads as bytes

pub find_unique : OneAnswer find.Post
find_unique _ _ _ _ _ _ = same

-- the vector is its bytes
abbrev code_of : List ℕ → ArrayVec ℕ
code_of items = record { items = items }

pub bytes_unique : OneAnswer bytes.Post
bytes_unique _ _ _ _ _ _ p q = ap code_of (same p q)

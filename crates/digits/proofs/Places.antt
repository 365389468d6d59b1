-- A part of a list of bytes is the bytes at its places, one after the other, and the bytes of the number that they make.
-- Assumes nothing.
use Prim.Native.Nat.{ℕ, zero, suc, ◌+◌, ◌≤◌, ◌<◌}
use mathlib.Core.List.{List, [], ◌∷◌}
use mathlib.Core.Path.{◌≡◌, refl, ap}
use native.Mathlib.Omega.{arith}
use lib.ListN.{length, get_or, take, drop}
use lib.Dec.{lit<}
use lib.Seq.{drop-cons}
use Rattle.digits.specs.Digits.{number_of, bytes_of, number_in}
use Rattle.digits.proofs.Digits.{Below, below_none, below_more, digits_worth}

-- bytes as the code holds them
abbrev pub ByteList : List ℕ → Type 0
ByteList bytes = Below 256 bytes

-- the k bytes from a place on
unfoldable pub bytes_at : ℕ → ℕ → List ℕ → List ℕ
bytes_at zero at bytes = []
bytes_at (suc k) at bytes = get_or bytes at 0 ∷ bytes_at k (suc at) bytes

pub part_bytes : (k at : ℕ) (bytes : List ℕ) → at + k ≤ length bytes → take k (drop at bytes) ≡ bytes_at k at bytes
unfolding bytes_at
part_bytes zero at bytes h = refl
part_bytes (suc k) at bytes h =
    let first : at < length bytes = omega arith in
    rw (drop-cons bytes at 0 first, part_bytes k (suc at) bytes (omega arith))

pub bytes_at_length : (k at : ℕ) (bytes : List ℕ) → length (bytes_at k at bytes) ≡ k
unfolding bytes_at
bytes_at_length zero at bytes = refl
bytes_at_length (suc k) at bytes = ap suc (bytes_at_length k (suc at) bytes)

pub bytes_at_below : (k at : ℕ) (bytes : List ℕ) → ByteList bytes → ByteList (bytes_at k at bytes)
unfolding bytes_at
bytes_at_below zero at bytes p = below_none (lit< tt)
bytes_at_below (suc k) at bytes p = below_more (p.at at) (bytes_at_below k (suc at) bytes p)

pub bytes_back_lem : (k at : ℕ) (h : List ℕ) → at + k ≤ length h → ByteList h → bytes_of k (number_in k at h) ≡ bytes_at k at h
unfolding bytes_of number_in number_of
bytes_back_lem k at h p q =
    rw (part_bytes k at h p)
    (rw (bytes_at_length k at h) at (digits_worth 256 (lit< tt) (bytes_at k at h) (bytes_at_below k at h q)))

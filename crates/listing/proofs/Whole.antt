-- Every byte of a part stands in one line: the bytes of the lines, one after the other, are the part.
-- Assumes nothing.
use Prim.Native.Nat.{ℕ, zero, suc, ◌-◌, ◌≤◌}
use mathlib.Core.List.{List, [], ◌∷◌, ◌++◌}
use mathlib.Core.Path.{◌≡◌, sym, ◌∙◌, ap}
use native.Mathlib.Omega.{arith}
use lib.ListN.{length, take, drop, take-append-drop}
use lib.Seq.{drop-nil}
use Rattle.arith.specs.Words.{further}
use Rattle.listing.specs.Lines.{Line, line_of, lines_from, lines_of, joined}
use Rattle.listing.specs.declared.Edition.{Edition}
use Rattle.listing.proofs.Order.{counted}

-- the bytes of lines
abbrev pub bytes_of : List Line → List ℕ
bytes_of lines = joined (λ (l : Line). l.bytes) lines

-- a front and what is behind it
both : (k b : ℕ) (bytes : List ℕ) → 1 ≤ k → take k (b ∷ bytes) ++ drop (k - 1) bytes ≡ b ∷ bytes
both zero b bytes h = absurd (omega arith)
both (suc k) b bytes h =
    let less : suc k - 1 ≡ k = omega arith in
    rw less (ap (λ (bs : List ℕ). b ∷ bs) (take-append-drop k bytes))

pub every_from : (e : Edition) (a few : ℕ) (bytes : List ℕ) → bytes_of (lines_from e a few bytes) ≡ drop few bytes
unfolding lines_from joined
every_from e a few [] = sym (drop-nil few)
every_from e a (suc few) (b ∷ bytes) = every_from e (further 1 a) few bytes
every_from e a zero (b ∷ bytes) =
    let line = line_of e a (b ∷ bytes) in
    let first = counted e a (b ∷ bytes) (omega arith) in
    let rest = every_from e (further 1 a) (length line.bytes - 1) bytes in
    ap (λ (bs : List ℕ). line.bytes ++ bs) rest
    ∙ ap (λ (bs : List ℕ). bs ++ drop (length line.bytes - 1) bytes) first.front
    ∙ both (length line.bytes) b bytes first.some

pub every_byte : (e : Edition) (first : ℕ) (part : List ℕ) → bytes_of (lines_of e first part) ≡ part
unfolding lines_of
every_byte e first part = every_from e first 0 part

-- The names that the code has in rows are those that the definition reads out of texts of four characters a name.
-- Assumes nothing.
use Prim.Native.Nat.{ℕ, zero, suc, ◌+◌, ◌*◌, ◌<◌}
use mathlib.Core.List.{List, [], ◌∷◌}
use mathlib.Core.Path.{◌≡◌, refl, sym, ◌∙◌, ap}
use native.Mathlib.Omega.{arith}
use lib.ListN.{get_or, take, drop}
use lib.Seq.{drop-drop}
use Rattle.listing.specs.Lines.{joined}
use Rattle.listing.specs.Forms.{letter_text, name_in}
use Rattle.listing.specs.Written.{Writes}
use Rattle.listing.specs.declared.writing.Writer.{Writer}

-- the first of them, without the points that fill them up
unfoldable pub names_of : ℕ → List ℕ → List (List ℕ)
names_of zero names = []
names_of (suc n) names = joined letter_text (take 4 names) ∷ names_of n (drop 4 names)

pub name_at : (n : ℕ) (names : List ℕ) (k : ℕ) → k < n → get_or (names_of n names) k [] ≡ name_in names k
unfolding name_in names_of
name_at zero names k h = absurd (omega (arith, h))
name_at (suc n) names zero h = refl
name_at (suc n) names (suc k) h =
    name_at n (drop 4 names) k (omega (arith, h)) ∙ ap (λ (l : List ℕ). joined letter_text (take 4 l)) (again ∙ ap (λ (i : ℕ). drop i names) (omega arith))
  where
    again : drop (k * 4) (drop 4 names) ≡ drop (4 + k * 4) names
    again = drop-drop _ _ names

pub named : (n : ℕ) (names : List ℕ) {k : ℕ} {a b : Writer} → k < n → Writes (get_or (names_of n names) k []) a b → Writes (name_in names k) a b
named n names h w = rw (name_at n names _ h) at w

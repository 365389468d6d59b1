-- Lists written one after the other are written as one list.
-- Assumes nothing.
use Prim.Native.Nat.{ℕ}
use mathlib.Core.List.{List, [], ◌∷◌, ◌++◌}
use mathlib.Core.Path.{◌≡◌, refl}
use Rattle.text.specs.Written.{pushed, written}
use Rattle.text.specs.declared.Text.{Text}

pub written_append : (xs ys : List ℕ) (t : Text) → written (xs ++ ys) t ≡ written ys (written xs t)
unfolding written
written_append [] ys t = refl
written_append (x ∷ xs) ys t = written_append xs ys (pushed x t)

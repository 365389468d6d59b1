-- Two functions that agree at each number below a bound, by antt's computing both lists of values; a table is such a list.
-- Assumes nothing.
use mathlib.Core.Path.{◌≡◌, ◌∙◌, refl, sym, ap}
use mathlib.Core.List.{List, [], ◌∷◌}
use Prim.Native.Nat.{ℕ, zero, suc, ◌+◌, ◌<◌, ◌≤◌}
use native.Mathlib.Nat.{add-zero, zero-add, add-suc, suc-add, le_of_suc-le-suc, not-suc-le-zero}
use lib.ListN.{get_or}
use mathlib.Core.Logic.{⊎_elim}
use Rattle.std.proofs.Common.{length}
use Rattle.std.proofs.lemmas.Bool.{cases_lt}
use Rattle.std.proofs.lemmas.List.{get_or_past}

-- the values of f at the n numbers from i on
abbrev pub tabulate : {A : Type 0} → (ℕ → A) → ℕ → ℕ → List A
tabulate f i zero = []
tabulate f i (suc n) = f i ∷ tabulate f (suc i) n

from : {A : Type 0} (f : ℕ → A) (d : A) (n i k : ℕ) → k < n → get_or (tabulate f i n) k d ≡ f (i + k)
from f d zero i k h = absurd (not-suc-le-zero h)
from f d (suc n) i zero h = ap f (sym (add-zero i))
from f d (suc n) i (suc k) h = from f d n (suc i) k (le_of_suc-le-suc h) ∙ ap f (suc-add i k ∙ sym (add-suc i k))

pub tabulated : {A : Type 0} (f : ℕ → A) (d : A) (n k : ℕ) → k < n → get_or (tabulate f 0 n) k d ≡ f k
tabulated f d n k h = from f d n 0 k h ∙ ap f (zero-add k)

count : {A : Type 0} (f : ℕ → A) (i n : ℕ) → length (tabulate f i n) ≡ n
count f i zero = refl
count f i (suc n) = ap suc (count f (suc i) n)

-- where a function has one value past the table, the table with that value for what lies past it is the function
pub tabulated_or : {A : Type 0} (f : ℕ → A) (d : A) (n k : ℕ) → (n ≤ k → f k ≡ d) → get_or (tabulate f 0 n) k d ≡ f k
tabulated_or f d n k past =
    ⊎_elim (λ l. tabulated f d n k l) (λ l. get_or_past (tabulate f 0 n) k d (rw (count f 0 n) l) ∙ sym (past l)) (cases_lt k n)

pub agree : {A : Type 0} (f g : ℕ → A) (n : ℕ) → tabulate f 0 n ≡ tabulate g 0 n → (k : ℕ) → k < n → f k ≡ g k
agree {A} f g n e k h =
    sym (tabulated f (f k) n k h) ∙ (ap (λ (l : List A). get_or l k (f k)) e ∙ tabulated g (f k) n k h)

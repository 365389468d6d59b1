-- The order of refusals: tests with their numbers, of which the first that holds is the answer. Document 01, "Refusal numbers".
-- Assumes nothing.
use Rattle.std.specs.Prelude.{ℕ, zero, suc, Bool, true, false, List, [], ◌∷◌}

-- a number, given when its test holds
pub record Refusal : Type 0 where
  pub number : ℕ
  pub holds : Bool

infix 70 ◌when◌
abbrev pub ◌when◌ : ℕ → Bool → Refusal
n when t = record { number = n; holds = t }

unfoldable pub number_or : Bool → ℕ → ℕ → ℕ
number_or true n later = n
number_or false n later = later

-- the number of the first that holds, and 0 where none does
unfoldable pub code_of : List Refusal → ℕ
code_of [] = 0
code_of (r ∷ rs) = number_or r.holds r.number (code_of rs)

-- what follows where nothing is refused, which is worked out only then, and what is answered where something is
unfoldable pub unless_refused : {A : Type 0} → ℕ → (Unit {0} → A) → (ℕ → A) → A
unless_refused zero next refused = next tt
unless_refused (suc n) next refused = refused (suc n)

-- opens the order of refusals in a proof
unfoldable pub order : Unit {0}
unfolding number_or code_of unless_refused
order = tt

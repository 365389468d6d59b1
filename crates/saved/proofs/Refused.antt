-- What a refusal leaves: the all-zero state, an empty part, and what was there before.
-- Assumes nothing.
use Prim.Native.Nat.{ℕ, zero, suc}
use mathlib.Core.List.{List, []}
use mathlib.Core.Logic.{◌≢◌}
use mathlib.Core.Path.{◌≡◌, refl}
use Rattle.arith.specs.Refusals.{unless_refused}
use Rattle.saved.specs.Block.{cleared_state}
use Rattle.saved.specs.Answers.{state_if, memory_if, left_by}

-- of every answer that waits on a refusal
pub refused_by_lem : {A : Type 0} (code : ℕ) (next : Unit {0} → A) (refused : ℕ → A) → code ≢ 0
    → unless_refused code next refused ≡ refused code
unfolding unless_refused
refused_by_lem zero next refused p = absurd (p refl)
refused_by_lem (suc n) next refused p = refl

module _ (code : ℕ) (p : code ≢ 0) where
  pub refused_state : (h : List ℕ) → state_if code h ≡ cleared_state
  unfolding state_if
  refused_state h = refused_by_lem code _ _ p

  pub refused_memory : (image : List ℕ) → memory_if code image ≡ []
  unfolding memory_if
  refused_memory image = refused_by_lem code _ _ p

  pub refused_left : (new old : List ℕ) → left_by code new old ≡ old
  unfolding left_by
  refused_left new old = refused_by_lem code _ _ p

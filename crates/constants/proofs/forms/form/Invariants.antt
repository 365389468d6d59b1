-- The loop's invariant: the reading has come to a state, at which the code stands, and what is left makes of it what the whole text is.
use Prim.Native.Nat.{ℕ, ◌≤◌}
use mathlib.Core.Bool.{Bool}
use mathlib.Core.List.{List}
use mathlib.Core.Path.{◌≡◌}
use lib.ListN.{drop}
use Rattle.constants.specs.Reading.{State, read_from, read_of}
use Rattle.constants.specs.Forms.{StandsAt}
use Rattle.constants.specs.declared.Stand.{Stand}
use Rattle.constants.proofs.Nesting.{Tally}
use Rattle.constants.proofs.forms.form.Given as goal

pub record Reached (text : List ℕ) (stand : Stand) (opened : ℕ) (deep : Bool) (at : ℕ) : Type 0 where
  pub state : State
  pub stands : StandsAt state stand
  pub tally : Tally state opened deep
  pub reads : read_from state (drop at text) ≡ read_of text

abbrev pub invariant-loop-c : goal.invariant-loop-c
invariant-loop-c l = record { few : l.opened ≤ l.c-index; reached : Reached l.text l.stand l.opened l.deep l.c-index }

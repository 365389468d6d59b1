-- A turn of the loops over a text: its first line is at fault, or it has its bytes, and what is left stands behind it.
-- Assumes nothing.
use Prim.Native.Nat.{ℕ, ◌-◌, ◌≤◌, ◌<◌}
use mathlib.Core.List.{List, [], ◌∷◌, ◌++◌, append_assoc}
use mathlib.Core.Path.{◌≡◌, refl, ap, ◌∙◌}
use native.Mathlib.Omega.{arith}
use borrow.Author.Tests.{lt-ltb, le-ltb}
use lib.ListN.{length}
use Rattle.arith.specs.Numbers.{number_of}
use Rattle.assembler.specs.Text.{text_of, Outcome, Refused, Done, prepended, outcome_if, line_outcome, left_outcome, outcome_from}
use Rattle.assembler.specs.Judging.{outcome_on, TakesLine, FaultsLine}
use Rattle.assembler.specs.declared.Fault as code
use Rattle.assembler.specs.declared.texts.Left.{Left}
use Rattle.assembler.proofs.First.{outcome_first}

-- what comes of what is left
abbrev pub outcome_left : Left → ℕ → Outcome
outcome_left s room = outcome_on s.text.now s.address s.line room

module _ (s : Left) (some : 0 < length s.text.now) (room : ℕ) where
  pub faulty : (f : code.Fault) → FaultsLine s f → outcome_left s room ≡ Refused (number_of f.refusal) f.line
  unfolding line_outcome
  faulty f l = outcome_first s.text.now s.address s.line room some ∙ rw (l.has, l.line)

  module _ (bytes : List ℕ) (behind : Left) (l : TakesLine s bytes behind) where
    -- where there is room, its bytes stand before those of the rest
    pub on : length bytes ≤ room → outcome_left s room ≡ prepended bytes (outcome_left behind (room - length bytes))
    unfolding line_outcome outcome_if
    on h =
        outcome_first s.text.now s.address s.line room some
        ∙ rw (l.has, le-ltb room (length bytes) h, l.text, l.address, l.line)

    pub no_room : room < length bytes → outcome_left s room ≡ Refused 10 s.line
    unfolding line_outcome outcome_if
    no_room h = outcome_first s.text.now s.address s.line room some ∙ rw (l.has, lt-ltb room (length bytes) h)

-- nothing is before the whole, and the bytes of a line stand behind those before it
pub begun : (o : Outcome) → prepended [] o ≡ o
unfolding prepended
begun (Refused n line) = refl
begun (Done bytes) = refl

pub joined : (done bytes : List ℕ) (o : Outcome) → prepended (done ++ bytes) o ≡ prepended done (prepended bytes o)
unfolding prepended
joined done bytes (Refused n line) = refl
joined done bytes (Done more) = ap Done (append_assoc done bytes more)

-- at the end nothing is left
pub ended : (s : Left) (room : ℕ) → length s.text.now ≤ 0 → outcome_left s room ≡ Done []
unfolding outcome_on outcome_from text_of left_outcome
ended s room h = go s.text.now h
  where
    go : (text : List ℕ) → length text ≤ 0 → outcome_on text s.address s.line room ≡ Done []
    go [] h = refl
    go (c ∷ cs) h = absurd (omega arith)

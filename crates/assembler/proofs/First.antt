-- The first line of a text: up to its newline, and the text behind that. So what comes of a text comes of its first line and of the text
-- behind it.
-- Assumes nothing.
use Prim.Native.Nat.{ℕ, ◌+◌, ◌-◌, ◌≤◌, ◌<◌}
use mathlib.Core.Bool.{Bool, true, false}
use mathlib.Core.List.{List, [], ◌∷◌}
use mathlib.Core.Path.{◌≡◌, refl, sym, ◌∙◌, ap}
use native.Mathlib.Omega.{arith}
use lib.Dec.{eqb}
use lib.ListN.{length, take, drop}
use lib.Seq.{drop-drop}
use Rattle.arith.specs.Words.{further}
use Rattle.digits.specs.Ascii.{newline}
use Rattle.listing.specs.Forms as texts
use Rattle.spellings.specs.Outline.{up_to, on_from}
use Rattle.spellings.proofs.Fallen.{before_cut, behind_cut}
use Rattle.assembler.specs.Lines.{Fault, verdict_of}
use Rattle.assembler.specs.Text.{before, text_if, text_of, Refused, line_outcome, left_outcome, outcome_from}
use Rattle.assembler.specs.Judging.{is_newline, head_verdict, outcome_on, behind_line}

-- the line, and what is left behind its newline
abbrev pub line_in : List ℕ → List ℕ
line_in text = up_to is_newline text

-- a text without a newline is all rest; one with a newline begins with its first line
pub data Begins (text : List ℕ) : Type 0 where
  no_newline : (text_of text).lines ≡ [] → (text_of text).rest ≡ text → line_in text ≡ text → Begins text
  with_line : length (line_in text) < length text → (text_of text).lines ≡ line_in text ∷ (text_of (behind_line text)).lines
      → (text_of text).rest ≡ (text_of (behind_line text)).rest → Begins text

-- a character before a text: a newline, or more of the first line
more_if : (t : Bool) (c : ℕ) (cs : List ℕ) → eqb c newline ≡ t → Begins cs → Begins (c ∷ cs)
unfolding up_to on_from text_of text_if before texts.text_if is_newline
more_if true c cs e b = with_line (rw e (omega arith)) (rw e refl) (rw e refl)
more_if false c cs e (no_newline l r n) = no_newline (rw (e, l) refl) (rw (e, l, r) refl) (rw (e, n) refl)
more_if false c cs e (with_line s l r) = with_line (rw e (omega (arith, s))) (rw (e, l) refl) (rw (e, l, r) refl)

pub begins : (text : List ℕ) → Begins text
unfolding text_of up_to
begins [] = no_newline refl refl refl
begins (c ∷ cs) = more_if (eqb c newline) c cs refl (begins cs)

-- its place in a text
pub line_taken : (text : List ℕ) → take (length (line_in text)) text ≡ line_in text
line_taken text = before_cut is_newline text

pub behind_dropped : (text : List ℕ) → drop (length (line_in text) + 1) text ≡ behind_line text
behind_dropped text = sym (drop-drop 1 (length (line_in text)) text) ∙ ap (drop 1) (behind_cut is_newline text)

-- the verdict of the first line, and what comes of the text
pub head_whole : (a : ℕ) (text : List ℕ) → length (line_in text) < length text → head_verdict a (text_of text).lines ≡ verdict_of a (line_in text)
head_whole a text h = go (begins text)
  where
    go : Begins text → head_verdict a (text_of text).lines ≡ verdict_of a (line_in text)
    go (no_newline l r n) = absurd (omega (arith, ap length n))
    go (with_line s l r) = unfold head_verdict in rw l refl

pub head_cut : (a : ℕ) (text : List ℕ) → length text ≤ length (line_in text) → head_verdict a (text_of text).lines ≡ Fault 12
head_cut a text h = go (begins text)
  where
    go : Begins text → head_verdict a (text_of text).lines ≡ Fault 12
    go (no_newline l r n) = unfold head_verdict in rw l refl
    go (with_line s l r) = absurd (omega (arith, s))

left_some : (line : ℕ) (text : List ℕ) → 0 < length text → left_outcome line text ≡ Refused 12 line
unfolding left_outcome
left_some line [] h = absurd (omega arith)
left_some line (c ∷ cs) h = refl

pub outcome_first : (text : List ℕ) (a line room : ℕ) → 0 < length text
    → outcome_on text a line room
    ≡ line_outcome line room (head_verdict a (text_of text).lines) (λ k. outcome_on (behind_line text) (further k a) (line + 1) (room - k))
unfolding outcome_on outcome_from head_verdict line_outcome
outcome_first text a line room some = go (begins text)
  where
    go : Begins text
        → outcome_on text a line room
        ≡ line_outcome line room (head_verdict a (text_of text).lines) (λ k. outcome_on (behind_line text) (further k a) (line + 1) (room - k))
    go (no_newline l r n) = rw (l, r) (left_some line text some)
    go (with_line s l r) = rw (l, r) refl

-- A text of lines from a first address on: the first line at fault, or the bytes of all. Document 02, M-103.
-- Assumes nothing.
use Rattle.std.specs.Prelude.{ℕ, ◌+◌, ◌-◌, Bool, true, false, List, [], ◌∷◌, ◌++◌, ◌≡◌, eqb, ltb, length, drop}
use Rattle.arith.specs.Words.{further}
use Rattle.digits.specs.Ascii.{newline}
use Rattle.assembler.specs.Lines.{Verdict, Fault, Bytes, verdict_of}

-- a text falls apart into the lines that end in a newline and what is left behind the last newline
pub record Text : Type 0 where
  pub lines : List (List ℕ)
  pub rest : List ℕ

-- a character before a text belongs to its first line, or to what is left where there is no line
unfoldable pub before : ℕ → Text → List (List ℕ) → Text
before c t [] = record { lines = []; rest = c ∷ t.rest }
before c t (l ∷ ls) = record { lines = (c ∷ l) ∷ ls; rest = t.rest }

unfoldable pub text_if : Bool → ℕ → Text → Text
text_if true c t = record { lines = [] ∷ t.lines; rest = t.rest }
text_if false c t = before c t t.lines

unfoldable pub text_of : List ℕ → Text
text_of [] = record { lines = []; rest = [] }
text_of (c ∷ cs) = text_if (eqb c newline) c (text_of cs)

-- what comes of a text: a refusal's number and the number of its line, or bytes
pub data Outcome : Type 0 where
  Refused : ℕ → ℕ → Outcome
  Done : List ℕ → Outcome

unfoldable pub prepended : List ℕ → Outcome → Outcome
prepended bytes (Refused n line) = Refused n line
prepended bytes (Done more) = Done (bytes ++ more)

unfoldable pub outcome_if : Bool → ℕ → Outcome → Outcome
outcome_if true line rest = Refused 10 line
outcome_if false line rest = rest

-- one line, with its number and the room that is left, and what comes of the lines behind it: 10 where its bytes do not all fit
unfoldable pub line_outcome : ℕ → ℕ → Verdict → (ℕ → Outcome) → Outcome
line_outcome line room (Fault n) rest = Refused n line
line_outcome line room (Bytes bytes) rest = outcome_if (ltb room (length bytes)) line (prepended bytes (rest (length bytes)))

-- a line without its newline is of no form
unfoldable pub left_outcome : ℕ → List ℕ → Outcome
left_outcome line [] = Done []
left_outcome line (c ∷ cs) = Refused 12 line

-- lines from an address on; a line's address is the first address plus the bytes before it
unfoldable pub outcome_from : List (List ℕ) → List ℕ → ℕ → ℕ → ℕ → Outcome
outcome_from [] rest a line room = left_outcome line rest
outcome_from (l ∷ ls) rest a line room =
    line_outcome line room (verdict_of a l) (λ k. outcome_from ls rest (further k a) (line + 1) (room - k))

unfoldable pub outcome_of : ℕ → List ℕ → ℕ → Outcome
outcome_of first text room = outcome_from (text_of text).lines (text_of text).rest first 1 room

-- what is answered: a refusal's number or 0, the number of the first line at fault, and the length that was written
pub record Assembled : Type 0 where
  pub code : ℕ
  pub line : ℕ
  pub length : ℕ

-- an answer, and the output with it: a refusal leaves it as it is, and what lies past the bytes stays
pub record Answer : Type 0 where
  pub assembled : Assembled
  pub out : List ℕ

unfoldable pub answer_of : Outcome → List ℕ → Answer
answer_of (Refused n line) out = record { assembled = record { code = n; line = line; length = 0 }; out = out }
answer_of (Done bytes) out =
    record { assembled = record { code = 0; line = 0; length = length bytes }; out = bytes ++ drop (length bytes) out }

unfoldable pub assemble_of : ℕ → List ℕ → List ℕ → Answer
assemble_of first text out = answer_of (outcome_of first text (length out)) out

pub record Assembles (a : Answer) (assembled : Assembled) (out : List ℕ) : Type 0 where
  pub answers : assembled ≡ a.assembled
  pub leaves : out ≡ a.out

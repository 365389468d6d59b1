-- What the code's inner contracts cite: a value in its range and as a word, the verdict of the first line of what is left of a text and
-- what is left behind it, and an answer as the code gives it.
-- Assumes nothing.
use Rattle.std.specs.Prelude.{ℕ, suc, ◌+◌, ◌-◌, ◌%◌, ◌<◌, Bool, List, [], ◌∷◌, ◌≡◌, eqb, leb, length, drop, ℤ, pos, negsuc, Result, Ok, Err}
use Rattle.arith.specs.Numbers.{number_of}
use Rattle.arith.specs.Words.{further}
use Rattle.digits.specs.Ascii.{newline}
use Rattle.listing.specs.Written.{Writes}
use Rattle.listing.specs.declared.writing.Writer.{Writer}
use Rattle.spellings.specs.Outline.{on_from}
use Rattle.spellings.specs.declared.Slot.{Slot}
use Rattle.assembler.specs.Ranges.{highest, lowest}
use Rattle.assembler.specs.Lines.{Verdict, Fault, Bytes, verdict_of}
use Rattle.assembler.specs.Text.{text_of, Outcome, Done, outcome_from, outcome_of, Assembled}
use Rattle.assembler.specs.declared.Fault as code
use Rattle.assembler.specs.declared.texts.Left.{Left}

-- a value is in the range of what stands there, by its sign
abbrev pub within : Slot → ℤ → Bool
within slot (pos n) = leb n (highest slot)
within slot (negsuc n) = leb (suc n) (lowest slot)

-- and counts modulo 65,536
unfoldable pub word_in : ℤ → ℕ
word_in (pos n) = n % 65536
word_in (negsuc n) = 65535 - n % 65536

-- what the code answers of a text
unfoldable pub told_assembly : Result ℕ code.Fault → Assembled
told_assembly (Ok n) = record { code = 0; line = 0; length = n }
told_assembly (Err f) = record { code = number_of f.refusal; line = f.line; length = 0 }

-- a text has so many bytes
pub record Fits (o : Outcome) (n : ℕ) : Type 0 where
  pub bytes : List ℕ
  pub comes : o ≡ Done bytes
  pub long : n ≡ length bytes

-- a newline ends a line
unfoldable pub is_newline : ℕ → Bool
is_newline c = eqb c newline

-- the verdict of the first of lines; where there is none, the line has no newline
unfoldable pub head_verdict : ℕ → List (List ℕ) → Verdict
head_verdict a [] = Fault 12
head_verdict a (l ∷ ls) = verdict_of a l

-- what comes of a text that is left
unfoldable pub outcome_on : List ℕ → ℕ → ℕ → ℕ → Outcome
outcome_on left a line room = outcome_from (text_of left).lines (text_of left).rest a line room

-- the text behind the first newline
abbrev pub behind_line : List ℕ → List ℕ
behind_line text = drop 1 (on_from is_newline text)

-- the first line of what is left has bytes, or it is at fault
pub record TakesLine (s : Left) (bytes : List ℕ) (behind : Left) : Type 0 where
  pub has : head_verdict s.address (text_of s.text.now).lines ≡ Bytes bytes
  pub text : behind.text.now ≡ behind_line s.text.now
  pub address : behind.address ≡ further (length bytes) s.address
  pub line : behind.line ≡ s.line + 1
  pub shorter : length behind.text.now < length s.text.now

pub record FaultsLine (s : Left) (f : code.Fault) : Type 0 where
  pub has : head_verdict s.address (text_of s.text.now).lines ≡ Fault (number_of f.refusal)
  pub line : f.line ≡ s.line

-- the bytes of a text without a fault are written
abbrev pub WritesAll : ℕ → List ℕ → Writer → Writer → Type 0
WritesAll first text old new = (room : ℕ) (bytes : List ℕ) → outcome_of first text room ≡ Done bytes → Writes bytes old new

-- A verdict and an outcome by value: what a line has as a count and three bytes, and a text as a length.
-- Assumes nothing.
use Rattle.std.specs.Prelude.{ℕ, List, [], ◌∷◌, ◌≡◌, length, take}
use Rattle.digits.specs.Digits.{byte_in}
use Rattle.listing.specs.Written.{Reaches, cursor, written}
use Rattle.assembler.specs.Lines.{Verdict, Fault, Bytes}
use Rattle.assembler.specs.Text.{Outcome, Refused, Done, outcome_of}

-- bytes by value: how many, and the first three, 0 where there are fewer
pub record Code : Type 0 where
  pub count : ℕ
  pub first : ℕ
  pub second : ℕ
  pub third : ℕ

unfoldable pub coded : List ℕ → Code
coded bytes = record { count = length bytes; first = byte_in 0 bytes; second = byte_in 1 bytes; third = byte_in 2 bytes }

-- and back
unfoldable pub bytes_in : Code → List ℕ
bytes_in c = take c.count (c.first ∷ c.second ∷ c.third ∷ [])

-- what a line is: at fault, or its bytes
pub data Judged : Type 0 where
  Faulty : ℕ → Judged
  Takes : Code → Judged

unfoldable pub judged_of : Verdict → Judged
judged_of (Fault n) = Faulty n
judged_of (Bytes bytes) = Takes (coded bytes)

-- what a text is: refused, with the line, or so many bytes
pub data Measured : Type 0 where
  AtFault : ℕ → ℕ → Measured
  Fits : ℕ → Measured

unfoldable pub measured_of : Outcome → Measured
measured_of (Refused n line) = AtFault n line
measured_of (Done bytes) = Fits (length bytes)

-- the bytes of a text without a fault, written from the front of an output on
abbrev pub WritesAll : ℕ → List ℕ → List ℕ → ℕ → List ℕ → Type 0
WritesAll first text out at left =
    (bytes : List ℕ) → outcome_of first text (length out) ≡ Done bytes → Reaches (written bytes (cursor 0 out)) at left

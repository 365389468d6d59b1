-- What is left of a part while it is gone through: the line that a reading is, the line that comes next, and all that are left; and what
-- becomes of it with a line that is put.
-- Assumes nothing.
use Rattle.std.specs.Prelude.{ℕ, ◌≤◌, List, ◌∷◌, ◌≡◌, length}
use Rattle.listing.specs.Forms.{line_by}
use Rattle.listing.specs.Lines.{Line, line_of, lines_from, joined, line_text}
use Rattle.listing.specs.declared.Reading.{Reading}
use Rattle.listing.specs.Written.{Writes}
use Rattle.listing.specs.declared.lines.Lines.{Lines}
use Rattle.listing.specs.declared.writing.Writer.{Writer}

abbrev pub line_in : Reading → Line
line_in r = line_by r.address r.bytes.now r.form.now r.operands

abbrev pub line_next : Lines → Line
line_next l = line_of l.edition l.address l.rest.now

abbrev pub lines_left : Lines → List Line
lines_left l = lines_from l.edition l.address 0 l.rest.now

abbrev pub text_left : Lines → List ℕ
text_left l = joined line_text (lines_left l)

-- the first line is put: the others are left, its text is written, and it is no longer than 26
pub record Puts (old new : Lines) (from to : Writer) : Type 0 where
  pub line : Line
  pub others : lines_left old ≡ line ∷ lines_left new
  pub writes : Writes (line_text line) from to
  pub short : length (line_text line) ≤ 26

-- the first line is so wide, and the others are left
pub record Wide (old new : Lines) (wide : ℕ) : Type 0 where
  pub line : Line
  pub others : lines_left old ≡ line ∷ lines_left new
  pub width : wide ≡ length (line_text line)

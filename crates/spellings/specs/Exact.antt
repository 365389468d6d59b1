-- Which lines have a row: exactly those that a row of the table spells, with a text in the place of its constant where it has one. A line
-- is spelled in one way.
-- Assumes nothing.
use Rattle.std.specs.Prelude.{ℕ, Bool, true, false, not, ◌&&◌, ◌≢◌, ◌≡◌}
use mathlib.Core.List.{List, [], ◌∷◌, Memᴰ}
use Rattle.spellings.specs.Outline.{begins, ends, constant_in, spelled_by, outline_of, outline_in}
use Rattle.spellings.specs.Rows.{Row, table, no_row, row_by, slot_in, slot_at}
use Rattle.spellings.specs.declared.Slot.{Slot}
use Rattle.spellings.specs.declared.Slot.TheVariants.{Bare, N8, N16, High, E8, Target, U3, Vec}

-- whether no character of a text passes a test
abbrev pub none : (ℕ → Bool) → List ℕ → Bool
none passes [] = true
none passes (c ∷ cs) = not (passes c) && none passes cs

-- a text that can stand in a constant's place: it begins as a constant does, and nothing in it ends one
abbrev pub is_constant : List ℕ → Bool
is_constant [] = false
is_constant (c ∷ cs) = begins c && none ends (c ∷ cs)

-- such a text, where there is a constant; where there is none, no text
abbrev pub Takes : Slot → List ℕ → Type 0
Takes Bare t = t ≡ []
Takes N8 t = is_constant t ≡ true
Takes N16 t = is_constant t ≡ true
Takes High t = is_constant t ≡ true
Takes E8 t = is_constant t ≡ true
Takes Target t = is_constant t ≡ true
Takes U3 t = is_constant t ≡ true
Takes Vec t = is_constant t ≡ true

-- a row of the table spells a line, with a text in the place of its constant. What is undefined has no spelling
pub record Spells (r : Row) (t line : List ℕ) : Type 0 where
  pub listed : Memᴰ r table
  pub some : outline_of r.spelling ≢ []
  pub takes : Takes (slot_in r.spelling.operands) t
  pub is : line ≡ spelled_by t r.spelling

-- a row that spells a line and has the number that the line has
pub record Spelled (line : List ℕ) : Type 0 where
  pub row : Row
  pub number : row.number ≡ row_by (outline_in line)
  pub spells : Spells row (constant_in line) line

-- where a line has a row, one of the table spells it, with the line's own constant
abbrev pub RowSpells : Type 0
RowSpells = (line : List ℕ) → row_by (outline_in line) ≢ no_row → Spelled line

-- and where one does, the line has that row, or the first with the same outline; the text is the line's constant, and may be what the
-- row's own operands have
pub record Told (r : Row) (t line : List ℕ) : Type 0 where
  pub some : row_by (outline_in line) ≢ no_row
  pub text : t ≡ constant_in line
  pub outline : outline_of r.spelling ≡ outline_in line
  pub slot : slot_at (row_by (outline_in line)) ≡ slot_in r.spelling.operands

abbrev pub SpelledHas : Type 0
SpelledHas = (r : Row) (t line : List ℕ) → Spells r t line → Told r t line

-- two rows that spell one line have one outline, and the same text in it
abbrev pub OneReading : Type 0
OneReading =
    (r r' : Row) (t t' line : List ℕ) → Spells r t line → Spells r' t' line
    → (t ≡ t') × (outline_of r.spelling ≡ outline_of r'.spelling)

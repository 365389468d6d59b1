-- How the code writes: bytes one after the other from a place of the output on, while there is room.
-- Assumes nothing.
use Rattle.std.specs.Prelude.{ℕ, ◌+◌, Bool, true, false, List, [], ◌∷◌, ◌≡◌, ltb, length, set}
use Rattle.listing.specs.declared.writing.Writer.{Writer}

-- the output, and the place that the next byte goes to
pub record Cursor : Type 0 where
  pub at : ℕ
  pub out : List ℕ

abbrev pub cursor : ℕ → List ℕ → Cursor
cursor at out = record { at = at; out = out }

-- one byte more; a full output stays as it is
unfoldable pub pushed_if : Bool → ℕ → Cursor → Cursor
pushed_if true b c = cursor (c.at + 1) (set c.out c.at b)
pushed_if false b c = c

unfoldable pub pushed : ℕ → Cursor → Cursor
pushed b c = pushed_if (ltb c.at (length c.out)) b c

unfoldable pub written : List ℕ → Cursor → Cursor
written [] c = c
written (b ∷ bs) c = written bs (pushed b c)

-- the place that a function answers, and the output that it leaves
pub record Reaches (c : Cursor) (at : ℕ) (out : List ℕ) : Type 0 where
  pub place : at ≡ c.at
  pub left : out ≡ c.out

-- where a writer stands
abbrev pub cursor_of : Writer → Cursor
cursor_of w = cursor w.at w.out.now

-- a text that is written by it; the output stays the one that it was lent, where it lies
pub record Writes (text : List ℕ) (old new : Writer) : Type 0 where
  pub reaches : Reaches (written text (cursor_of old)) new.at new.out.now
  pub same : new.out.ghost_name ≡ old.out.ghost_name
  pub lies : new.out.ref_ptr ≡ old.out.ref_ptr

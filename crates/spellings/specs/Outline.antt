-- A line of spelling falls apart: what stands before its constant, the constant, and what stands behind it. A constant begins with $, a
-- minus, a digit or a parenthesis, and ends before a comma or a bracket. With a mark in the constant's place it is the line's outline.
-- Assumes nothing.
use Rattle.std.specs.Prelude.{ℕ, Bool, ◌||◌, ◌&&◌, List, [], ◌∷◌, ◌++◌, eqb, leb}
use Rattle.digits.specs.Ascii.{ascii}
use Rattle.listing.specs.Forms.{text_if}
use Rattle.listing.specs.Spelling.{Shown, Named, Of, Spelling, around, spelling_by}

-- the characters that begin a constant, and those that end one
unfoldable pub begins : ℕ → Bool
begins c = eqb c 36 || (eqb c 40 || (eqb c 45 || (leb 48 c && leb c 57)))

unfoldable pub ends : ℕ → Bool
ends c = eqb c 44 || eqb c 93

-- a text up to the first character that passes a test, and from there on
unfoldable pub up_to : (ℕ → Bool) → List ℕ → List ℕ
up_to passes [] = []
up_to passes (c ∷ cs) = text_if (passes c) [] (c ∷ up_to passes cs)

unfoldable pub on_from : (ℕ → Bool) → List ℕ → List ℕ
on_from passes [] = []
on_from passes (c ∷ cs) = text_if (passes c) (c ∷ cs) (on_from passes cs)

-- the three parts of a line
unfoldable pub before_in : List ℕ → List ℕ
before_in line = up_to begins line

unfoldable pub constant_in : List ℕ → List ℕ
constant_in line = up_to ends (on_from begins line)

unfoldable pub behind_in : List ℕ → List ℕ
behind_in line = on_from ends (on_from begins line)

-- the mark, where there is a constant
abbrev pub mark : ℕ
mark = 36

unfoldable pub marked : List ℕ → List ℕ
marked [] = []
marked (c ∷ cs) = mark ∷ []

unfoldable pub outline_in : List ℕ → List ℕ
outline_in line = before_in line ++ (marked (constant_in line) ++ behind_in line)

-- an operand and a spelling with a text in the place of its constant; with the mark there it is the spelling's outline
unfoldable pub shown_by : List ℕ → Shown → List ℕ
shown_by t (Named name) = ascii name
shown_by t (Of k n) = around k t

unfoldable pub spelled_by : List ℕ → Spelling → List ℕ
spelled_by t s = spelling_by (shown_by t) s

unfoldable pub outline_of : Spelling → List ℕ
outline_of s = spelled_by (mark ∷ []) s

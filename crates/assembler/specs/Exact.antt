-- When a line is at fault, and by which refusal: 12 exactly where no row of the table spells it with a constant in the place of its operand,
-- then 13, then 14; and a line is of one form. Document 02, M-103.
-- Assumes nothing.
use Rattle.std.specs.Prelude.{ℕ, suc, Bool, true, false, ◌&&◌, not, ◌≢◌, ◌≡◌, ℤ, pos, negsuc, neg_ℤ}
use mathlib.Core.List.{List, [], ◌∷◌, Memᴰ}
use Rattle.std.specs.Int.Signed.{le_z}
use Rattle.arith.specs.Refusals.{Refusal, ◌when◌, code_of, unless_refused}
use Rattle.arith.specs.Words.{back, further}
use Rattle.constants.specs.Constant.{Constant, constant_text, right, value_of, nests, small}
use Rattle.constants.specs.Answer.{deepest}
use Rattle.spellings.specs.Outline.{spelled_by, outline_of, outline_in}
use Rattle.spellings.specs.Rows.{Row, table, row_by, slot_in}
use Rattle.spellings.specs.Bytes.{bytes_of}
use Rattle.spellings.specs.declared.Slot.{Slot}
use Rattle.spellings.specs.declared.Slot.TheVariants.{Bare, N8, N16, High, E8, Target, U3, Vec}
use Rattle.assembler.specs.Ranges.{highest, lowest, number_in, reached}
use Rattle.assembler.specs.Lines.{Verdict, Fault, Bytes, verdict_of}

-- what stands in the place of a row's constant: nothing, or a constant
pub data Put : Type 0 where
  Nothing : Put
  This : Constant → Put

unfoldable pub put_text : Put → List ℕ
put_text Nothing = []
put_text (This c) = constant_text c

-- where a row has a constant, one with right digits suits it; where it has none, nothing does
unfoldable pub is_bare : Slot → Bool
is_bare Bare = true
is_bare N8 = false
is_bare N16 = false
is_bare High = false
is_bare E8 = false
is_bare Target = false
is_bare U3 = false
is_bare Vec = false

abbrev pub SuitsIf : Bool → Put → Type 0
SuitsIf true Nothing = Unit {0}
SuitsIf true (This c) = ⊥
SuitsIf false Nothing = ⊥
SuitsIf false (This c) = right c ≡ true

-- a line is of a form: a row of the table spells it so
pub record OfForm (r : Row) (p : Put) (line : List ℕ) : Type 0 where
  pub listed : Memᴰ r table
  pub some : outline_of r.spelling ≢ []
  pub suits : SuitsIf (is_bare (slot_in r.spelling.operands)) p
  pub is : line ≡ spelled_by (put_text p) r.spelling

-- its value, how it nests, and whether its numbers are in range
unfoldable pub value_in : Put → ℤ
value_in Nothing = pos 0
value_in (This c) = value_of c

unfoldable pub nests_in : Put → Bool
nests_in Nothing = true
nests_in (This c) = nests c deepest

unfoldable pub small_in : Put → Bool
small_in Nothing = true
small_in (This c) = small c

-- a value from the lowest to the highest of its range, and modulo 65,536
unfoldable pub inside : Slot → ℤ → Bool
inside slot v = le_z (neg_ℤ (pos (lowest slot))) v && le_z v (pos (highest slot))

unfoldable pub mod_word : ℤ → ℕ
mod_word (pos n) = n
mod_word (negsuc n) = back (suc n) 0

unfoldable pub number_at : ℕ → Slot → Put → ℕ
number_at next slot p = number_in next slot (mod_word (value_in p))

-- the refusals of a line that is of a form, in their order: nested deeper than 16; a number above 65,535, or the value not in its range
unfoldable pub line_refusals : ℕ → Slot → Put → List Refusal
line_refusals next slot p =
    13 when not (nests_in p)
    ∷ 14 when not (small_in p && (inside slot (value_in p) && reached slot (number_at next slot p)))
    ∷ []

unfoldable pub form_verdict : ℕ → ℕ → Slot → Put → Verdict
form_verdict a row slot p =
    unless_refused (code_of (line_refusals (further 2 a) slot p)) (λ _. Bytes (bytes_of row slot (number_at (further 2 a) slot p))) Fault

-- a line that is of no form is 12, and one that is of a form is judged by it
abbrev pub Formless : Type 0
Formless = (a : ℕ) (line : List ℕ) → ((r : Row) (p : Put) → OfForm r p line → ⊥) → verdict_of a line ≡ Fault 12

abbrev pub Formed : Type 0
Formed =
    (a : ℕ) (r : Row) (p : Put) (line : List ℕ) → OfForm r p line
    → verdict_of a line ≡ form_verdict a (row_by (outline_in line)) (slot_in r.spelling.operands) p

-- so 12 is given to no line of a form
abbrev pub NotFormless : Type 0
NotFormless = (a : ℕ) (r : Row) (p : Put) (line : List ℕ) → OfForm r p line → verdict_of a line ≢ Fault 12

-- and no line is of two forms
abbrev pub OneForm : Type 0
OneForm =
    (r r' : Row) (p p' : Put) (line : List ℕ) → OfForm r p line → OfForm r' p' line
    → (p ≡ p') × (outline_of r.spelling ≡ outline_of r'.spelling)

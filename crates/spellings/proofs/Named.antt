-- What the code finds in a line: its constant's place and so its form, and in its outline the name and the operands. Where one of these
-- stands in no table there is no row.
-- Assumes nothing.
use Prim.Native.Nat.{ℕ, ◌+◌, ◌-◌, ◌<◌}
use mathlib.Core.Bool.{Bool, true, false, ◌||◌, ◌&&◌}
use mathlib.Core.List.{List, [], ◌∷◌, ◌++◌}
use mathlib.Core.Logic.{◌≢◌}
use mathlib.Core.Path.{◌≡◌, refl, sym, ◌∙◌, ap, ap₂}
use native.Mathlib.Nat.{zero-add}
use native.Mathlib.Omega.{arith}
use lib.ListN.{length, take, drop, length-append, length-drop}
use lib.Seq.{take_all}
use Rattle.std.specs.Prelude.{Option, Some, None, MatchOption, position}
use Rattle.std.specs.Option.{unwrap_or}
use Rattle.listing.specs.Forms.{number_if}
use Rattle.listing.specs.Spelling.{spellings}
use Rattle.spellings.specs.Outline.{begins, ends, up_to, on_from, mark, outline_in}
use Rattle.spellings.specs.Rows.{no_row, row_by, slot_in, spelling_at, slot_at, form_of, form_in, unless}
use Rattle.spellings.specs.Lookup.{is_space, is_comma, bare_in, name_in, operand_in, alone_row, single_row, double_row, operands_row, named_row, lookup, Stands, lookups}
use Rattle.spellings.specs.Slots.{slot_by}
use Rattle.spellings.specs.declared.Slot.{Slot}
use Rattle.spellings.specs.declared.Slot.TheVariants.{Bare}
use Rattle.spellings.specs.declared.Form.{Form as CodeForm}
use Rattle.spellings.proofs.Exact.{long_none}
use Rattle.spellings.proofs.Looked.{lookup_is}
use Rattle.spellings.proofs.Slotted.{slot_is}
use Rattle.spellings.proofs.Fallen.{cut_most, outline_parts, stands, form_is}
use Rattle.spellings.proofs.Passed.{unless_none, unless_some, stop_is, none_found, some_found}

if_same : (t : Bool) (x : ℕ) → number_if t x x ≡ x
unfolding number_if
if_same true x = refl
if_same false x = refl

and_false : (t : Bool) → (t && false) ≡ false
and_false true = refl
and_false false = refl

or_true : (t : Bool) → (t || true) ≡ true
or_true true = refl
or_true false = refl

-- where a name or an operand stands in no table
no_bare : alone_row 15 ≡ no_row
unfolding number_if lookups
no_bare = refl

single_no_name : (a : ℕ) → single_row 34 a ≡ no_row
unfolding number_if lookups
single_no_name a = refl

single_no_operand : (name : ℕ) → single_row name 24 ≡ no_row
unfolding number_if lookups
single_no_operand name = simp (and_false, if_same)

double_no_name : (a b : ℕ) → double_row 34 a b ≡ no_row
unfolding number_if lookups
double_no_name a b = simp if_same

double_no_first : (name b : ℕ) → double_row name 24 b ≡ no_row
unfolding number_if lookups
double_no_first name b = simp (and_false, if_same)

double_no_second : (name a : ℕ) → double_row name a 24 ≡ no_row
unfolding number_if lookups
double_no_second name a = simp (and_false, or_true, if_same)

no_name : (first second : List ℕ) → operands_row 34 first second ≡ no_row
unfolding operands_row
no_name first [] = single_no_name (operand_in first)
no_name first (c ∷ second) = double_no_name (operand_in first) (operand_in second)

-- what stands behind a place
behind_is : (k : ℕ) (text : List ℕ) → take (length text - k) (drop k text) ≡ drop k text
behind_is k text = take_all (length text - k) (drop k text) (omega (arith, length-drop k text))

none_at : (k : ℕ) → k ≡ no_row → None ≡ unless no_row k
none_at k e = rw e

-- a name alone
module _ (text : List ℕ) (cut : None ≡ position is_space text) where
  alone_is : row_by text ≡ alone_row (bare_in text)
  unfolding lookup named_row
  alone_is = let whole = none_found is_space text cut in sym (lookup_is text) ∙ rw (whole.1, whole.0)

  pub no_alone : None ≡ unless 15 (bare_in text) → None ≡ unless no_row (row_by text)
  no_alone h = none_at _ (alone_is ∙ ap alone_row (unless_none 15 (bare_in text) h) ∙ no_bare)

  pub alone_told : (k : ℕ) → Some k ≡ unless 15 (bare_in text) → unless no_row (alone_row k) ≡ unless no_row (row_by text)
  alone_told k h = ap (unless no_row) (ap alone_row (unless_some 15 (bare_in text) k h) ∙ sym alone_is)

-- a name with operands
abbrev row_with : ℕ → List ℕ → ℕ
row_with name operands = operands_row name (up_to is_comma operands) (on_from is_comma operands)

module _ (text : List ℕ) (n : ℕ) (cut : Some n ≡ position is_space text) where
  named_is : row_by text ≡ row_with (name_in (take n text)) (take (length text - (n + 1)) (drop (n + 1) text))
  unfolding lookup named_row
  named_is =
      let parts = some_found is_space text n cut in
      rw (behind_is (n + 1) text) (sym (lookup_is text) ∙ rw (parts.behind, ← parts.before))

  pub no_named : None ≡ unless 34 (name_in (take n text)) → None ≡ unless no_row (row_by text)
  no_named h =
      none_at _
      (named_is ∙ ap (λ name. row_with name (take (length text - (n + 1)) (drop (n + 1) text))) (unless_none 34 (name_in (take n text)) h) ∙ no_name _ _)

  pub named_told : (name : ℕ) → Some name ≡ unless 34 (name_in (take n text))
      → unless no_row (row_with name (take (length text - (n + 1)) (drop (n + 1) text))) ≡ unless no_row (row_by text)
  named_told name h =
      ap (λ name. unless no_row (row_with name (take (length text - (n + 1)) (drop (n + 1) text))))
      (unless_some 34 (name_in (take n text)) name h)
      ∙ ap (unless no_row) (sym named_is)

module _ (name : ℕ) (operands : List ℕ) where
  -- one operand
  module _ (one : None ≡ position is_comma operands) where
    single_is : row_with name operands ≡ single_row name (operand_in operands)
    unfolding operands_row
    single_is = let whole = none_found is_comma operands one in rw (whole.1, whole.0)

    pub no_single : None ≡ unless 24 (operand_in operands) → None ≡ unless no_row (row_with name operands)
    no_single h =
        none_at _ (single_is ∙ ap (single_row name) (unless_none 24 (operand_in operands) h) ∙ single_no_operand name)

    pub single_told : (a : ℕ) → Some a ≡ unless 24 (operand_in operands)
        → unless no_row (single_row name a) ≡ unless no_row (row_with name operands)
    single_told a h = ap (unless no_row) (ap (single_row name) (unless_some 24 (operand_in operands) a h) ∙ sym single_is)

  -- two operands
  module _ (m : ℕ) (two : Some m ≡ position is_comma operands) where
    abbrev first : ℕ
    first = operand_in (take m operands)

    abbrev second : ℕ
    second = operand_in (take (length operands - (m + 1)) (drop (m + 1) operands))

    double_is : row_with name operands ≡ double_row name first second
    unfolding operands_row
    double_is =
        let parts = some_found is_comma operands m two in
        rw (behind_is (m + 1) operands, parts.behind, ← parts.before)

    pub no_first : None ≡ unless 24 first → None ≡ unless no_row (row_with name operands)
    no_first h =
        none_at _ (double_is ∙ ap (λ a. double_row name a second) (unless_none 24 first h) ∙ double_no_first name second)

    pub no_second : None ≡ unless 24 second → None ≡ unless no_row (row_with name operands)
    no_second h =
        none_at _ (double_is ∙ ap (double_row name first) (unless_none 24 second h) ∙ double_no_second name first)

    pub double_told : (a b : ℕ) → Some a ≡ unless 24 first → Some b ≡ unless 24 second
        → unless no_row (double_row name a b) ≡ unless no_row (row_with name operands)
    double_told a b h k =
        ap (unless no_row) (ap₂ (double_row name) (unless_some 24 first a h) (unless_some 24 second b k) ∙ sym double_is)

-- where two searches stop a line's constant begins and ends, and so the line's form is known
module _ (line : List ℕ) (from size : ℕ) where
  pub stands_at : from ≡ unwrap_or (position begins line) (length line)
      → size ≡ unwrap_or (position ends (take (length line - from) (drop from line))) (length (take (length line - from) (drop from line)))
      → Stands line from (from + size)
  stands_at p q =
      let begin = p ∙ stop_is begins line in
      let rest = behind_is from line in
      let end : size ≡ length (up_to ends (drop from line)) =
      q ∙ stop_is ends (take (length line - from) (drop from line)) ∙ ap (λ l. length (up_to ends l)) rest in
      stands line from (from + size) (begin ∙ sym (zero-add (length (up_to begins line)))) (ap (λ n. from + n) end)
      (omega (arith, begin, end, cut_most begins line, cut_most ends (drop from line), length-drop from line))

no_slot : slot_at no_row ≡ Bare
unfolding spellings slot_in spelling_at slot_at
no_slot = refl

-- what the constant of a row may be, where there is one
pub slot_told : (row : Option ℕ) (k : ℕ) (slot : Slot) → row ≡ unless no_row k
    → MatchOption row (slot ≡ Bare) (λ r. slot ≡ slot_by r) → slot ≡ slot_at k
slot_told None k slot e h = h ∙ sym (ap slot_at (unless_none no_row k e) ∙ no_slot)
slot_told (Some r) k slot e h = h ∙ slot_is r ∙ ap slot_at (unless_some no_row k r e)

pub form_at : (line : List ℕ) (from to : ℕ) (row : Option ℕ) (slot : Slot) → Stands line from to → row ≡ unless no_row (row_by (outline_in line))
    → slot ≡ slot_at (row_by (outline_in line)) → ◌≡◌ {A = CodeForm} (record { row = row; slot = slot; from = from; to = to }) (form_in (form_of line))
form_at line from to row slot s p q =
    rw (p, q) (ap form_in (form_is line from to (row_by (outline_in line)) (slot_at (row_by (outline_in line))) s refl refl))

-- an outline with the mark is the line's, and one of more than ten characters has no row
module _ (line : List ℕ) (from to : ℕ) (s : Stands line from to) (more : from ≢ length line) where
  pub outline_marked : outline_in line ≡ take from line ++ (mark ∷ take (length line - to) (drop to line))
  outline_marked = rw (behind_is to line) (outline_parts line from to s.begin s.end more)

  pub long_told : 10 < length (take from line) + 1 + length (take (length line - to) (drop to line)) → None ≡ unless no_row (row_by (outline_in line))
  long_told h =
      none_at _
      (long_none (outline_in line) (omega (
        arith,
        ap length outline_marked,
        length-append (take from line) (mark ∷ take (length line - to) (drop to line)),
      )))

-- `judge` finds the row, reads what stands in the place of its constant, and tries its range.
use Prim.Native.Nat.{ℕ, zero, suc, ◌+◌, ◌-◌}
use borrow.Author.Tests.{eq-eqb, le-leb}
use mathlib.Core.Bool.{Bool, true, false, cond}
use mathlib.Core.List.{List}
use mathlib.Core.Path.{◌≡◌, refl, ◌∙◌, ap}
use native.Mathlib.Omega.{arith}
use mir.Syntax.{w32}
use Rattle.std.proofs.Common.{rules, SFits}
use Rattle.std.proofs.lemmas.Int.{to_z-of_z}
use Rattle.std.specs.Option.{ok_or}
use Rattle.assembler.specs.Ranges.{highest, lowest}
use lib.Dec.{eqb}
use lib.IntN.{ℤ, pos, negsuc}
use lib.ListN.{length, take, drop}
use Rattle.std.specs.Prelude.{Option, Some, None, Ok, Err}
use Rattle.std.proofs.lemmas.Result.{err_from_is_err_and}
use Rattle.arith.specs.Numbers.{number_of}
use Rattle.arith.specs.Width.{difference_of}
use Rattle.arith.specs.Words.{back}
use Rattle.arith.specs.declared.Refusal.{Refusal}
use Rattle.arith.specs.declared.Refusal.TheVariants as refusal
use Rattle.constants.specs.Answer.{Found, NoForm, Deep, Large, Above, Below, found_if, signed, answer_in}
use Rattle.spellings.specs.Outline.{outline_in, before_in, constant_in}
use Rattle.spellings.specs.Rows.{row_by, no_row, slot_at, form_of, unless, form_in}
use Rattle.spellings.specs.declared.Form.{Form}
use Rattle.spellings.specs.declared.Slot.{Slot}
use Rattle.spellings.proofs.Passed.{unless_none, unless_some}
use Rattle.assembler.specs.Lines.{Fault, standing, found_in, valued_by, verdict_by, verdict_of}
use Rattle.assembler.proofs.Parts.{part_is, part_within}
use Rattle.assembler.proofs.lines.judge.Goals as goal

-- what is answered of what stands there tells the verdict
module _ (a row : ℕ) (slot : Slot) where
  refused : (f : Found) (e : Refusal) → Err e ≡ answer_in f → verdict_by a row slot f ≡ Fault (number_of e)
  unfolding answer_in verdict_by
  refused NoForm e h = let is : e ≡ refusal.Form = cc in rw is
  refused Deep e h = let is : e ≡ refusal.Nesting = cc in rw is
  refused Large e h = let is : e ≡ refusal.Range = cc in rw is
  refused (Above n) e h = absurd (cc)
  refused (Below n) e h = absurd (cc)

  answered : (f : Found) (v : ℤ) → Ok v ≡ answer_in f → verdict_by a row slot f ≡ verdict_by a row slot (signed v)
  unfolding answer_in signed verdict_by valued_by back difference_of
  answered NoForm v h = absurd (cc)
  answered Deep v h = absurd (cc)
  answered Large v h = absurd (cc)
  answered (Above n) v h = let is : v ≡ pos n = cc in rw is
  answered (Below zero) v h =
      let is : v ≡ pos 0 = cc in
      rw (is, le-leb 0 (lowest slot) (omega arith), le-leb 0 (highest slot) (omega arith))
  answered (Below (suc n)) v h = let is : v ≡ negsuc n = cc in rw is

-- a row that there is, or not
no_such : (o : Option ℕ) (e f : Refusal) → Err e ≡ ok_or o f → (None ≡ o) × (e ≡ f)
no_such None e f h = (refl, cc)
no_such (Some x) e f h = absurd (cc)

such : (o : Option ℕ) (x : ℕ) (f : Refusal) → Ok x ≡ ok_or o f → Some x ≡ o
such None x f h = absurd (cc)
such (Some y) x f h = let is : x ≡ y = cc in ap Some is

there_is : (none k x : ℕ) → Some x ≡ unless none k → eqb k none ≡ false
there_is none k x h = go (eqb k none) h
  where
    go : (t : Bool) → ◌≡◌ {A = Option ℕ} (Some x) (cond t None (Some k)) → t ≡ false
    go true h = absurd (cc)
    go false h = refl

-- what is found of a line
module _ (a : ℕ) (line : List ℕ) (form : Form) (is : form ≡ form_in (form_of line)) where
  row_is : form.row ≡ unless no_row (row_by (outline_in line))
  unfolding form_of
  row_is = ap (λ (f : Form). f.row) is

  slot_is : form.slot ≡ slot_at (row_by (outline_in line))
  unfolding form_of
  slot_is = ap (λ (f : Form). f.slot) is

  from_is : form.from ≡ length (before_in line)
  unfolding form_of
  from_is = ap (λ (f : Form). f.from) is

  to_is : form.to ≡ length (before_in line) + length (constant_in line)
  unfolding form_of
  to_is = ap (λ (f : Form). f.to) is

  rowless : None ≡ form.row → verdict_of a line ≡ Fault 12
  unfolding verdict_of found_in found_if verdict_by
  rowless none = rw (eq-eqb (row_by (outline_in line)) 513 (unless_none no_row _ (none ∙ row_is)))

  -- where there is a row: by what stands in the place of its constant
  module _ (row : ℕ) (some : Some row ≡ form.row) where
    by_row : verdict_of a line ≡ verdict_by a row form.slot (standing form.slot (take (form.to - form.from) (drop form.from line)))
    unfolding verdict_of found_in found_if
    by_row =
        rw (there_is no_row _ row (some ∙ row_is), part_is line _ _ from_is to_is, unless_some no_row _ row (some ∙ row_is), slot_is)

    by_refusal : (e : Refusal) → Err e ≡ answer_in (standing form.slot (take (form.to - form.from) (drop form.from line)))
        → verdict_of a line ≡ Fault (number_of e)
    by_refusal e h = by_row ∙ refused a row form.slot _ e h

    by_answer : (v : ℤ) → Ok v ≡ answer_in (standing form.slot (take (form.to - form.from) (drop form.from line)))
        → verdict_of a line ≡ verdict_by a row form.slot (signed v)
    by_answer v h = by_row ∙ answered a row form.slot _ v h

pub returns-in_err-row : goal.returns-in_err-row
returns-in_err-row c =
    let p = err_from_is_err_and c.from_residual.result c.from_residual.ensures.1 in
    let none = no_such _ _ _ c.in_err-row.ensures.value in
    rw (p.1, p.2, none.1) (rowless _ _ _ c.find-form.ensures none.0)

pub slice_bounds-standing-count : goal.slice_bounds-standing-count
slice_bounds-standing-count c = let find = c.find-form.ensures in (part_within _ _ _ (from_is 0 _ _ find) (to_is 0 _ _ find)).0

pub slice_bounds-standing-start : goal.slice_bounds-standing-start
slice_bounds-standing-start c = let find = c.find-form.ensures in (part_within _ _ _ (from_is 0 _ _ find) (to_is 0 _ _ find)).0

pub slice_bounds-standing-end : goal.slice_bounds-standing-end
slice_bounds-standing-end c = let find = c.find-form.ensures in (part_within _ _ _ (from_is 0 _ _ find) (to_is 0 _ _ find)).1

pub returns-in_err-value : goal.returns-in_err-value
returns-in_err-value c =
    let p = err_from_is_err_and c.from_residual-in_err-value.result c.from_residual-in_err-value.ensures.1 in
    rw (p.1, p.2)
    (by_refusal _ _ _ c.find-form.ensures c.in_ok-row.row (such _ _ _ c.in_ok-row.ensures.value) _ c.in_err-value.ensures)

pub returns : goal.returns
returns c =
    let fits : SFits w32 c.in_ok-value.value = search rules in
    rw (by_answer c.args.address _ _ c.find-form.ensures c.in_ok-row.row (such _ _ _ c.in_ok-row.ensures.value) c.in_ok-value.value c.in_ok-value.ensures)
    (rw (to_z-of_z w32 c.in_ok-value.value fits) at c.valued.ensures)

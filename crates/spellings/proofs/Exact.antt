-- A line has a row exactly if a row of the table spells it, and it is spelled in one way.
-- Assumes nothing.
use Prim.Native.Nat.{ℕ, ◌<◌}
use mathlib.Core.Bool.{Bool, true, false}
use mathlib.Core.List.{List, [], ◌∷◌, Memᴰ}
use mathlib.Core.Logic.{◌≢◌}
use mathlib.Core.Path.{◌≡◌, refl, sym, ◌∙◌, ap}
use native.Mathlib.Omega.{arith}
use borrow.Author.Tests.{eqb-true, eqb-false}
use lib.Dec.{eqb}
use lib.ListN.{length}
use Rattle.listing.specs.Forms.{number_if}
use Rattle.spellings.specs.Outline.{constant_in, outline_of, outline_in}
use Rattle.spellings.specs.Rows.{Row, table, same, no_row, first_in, row_by, slot_at}
use Rattle.spellings.specs.Exact.{RowSpells, SpelledHas, OneReading}
use Rattle.spellings.proofs.Spelled.{spelled_constant, spelled_outline, spelled_back}
use Rattle.spellings.proofs.Table.{same_true, row_told}

-- an outline that is not empty is looked for in the table
pub row_first : (outline : List ℕ) → outline ≢ [] → row_by outline ≡ first_in table outline
unfolding row_by
row_first [] some = absurd (some refl)
row_first (c ∷ cs) some = refl

row_some : (outline : List ℕ) → row_by outline ≢ no_row → outline ≢ []
unfolding row_by
row_some [] has = absurd (has refl)
row_some (c ∷ cs) has = λ e. let z : ◌≡◌ {A = ℕ} 0 1 = cc in omega arith

-- the first row of an outline, where some row has it
pub record FirstOf (rows : List Row) (outline : List ℕ) : Type 0 where
  pub row : Row
  pub listed : Memᴰ row rows
  pub number : row.number ≡ first_in rows outline
  pub outlined : outline_of row.spelling ≡ outline

first_if : (t : Bool) (r : Row) (rs : List Row) (outline : List ℕ) → same (outline_of r.spelling) outline ≡ t
    → (first_in rs outline ≢ no_row → FirstOf rs outline) → first_in (r ∷ rs) outline ≢ no_row → FirstOf (r ∷ rs) outline
unfolding first_in number_if
first_if true r rs outline e known has =
    record { row = r; listed = Memᴰ.head refl; number = rw e; outlined = same_true (outline_of r.spelling) outline e }
first_if false r rs outline e known has =
    let f = known (rw e at has) in
    record { row = f.row; listed = Memᴰ.tail f.listed; number = rw e f.number; outlined = f.outlined }

pub first_of : (rows : List Row) (outline : List ℕ) → first_in rows outline ≢ no_row → FirstOf rows outline
unfolding first_in
first_of [] outline has = absurd (has refl)
first_of (r ∷ rs) outline has = first_if (same (outline_of r.spelling) outline) r rs outline refl (first_of rs outline) has

-- no row has an outline of more than ten characters
long_if : (outline : List ℕ) → 10 < length outline → (t : Bool) → eqb (row_by outline) no_row ≡ t → row_by outline ≡ no_row
long_if outline h true e = eqb-true (row_by outline) no_row e
long_if outline h false e =
    let some = row_some outline (eqb-false (row_by outline) no_row e) in
    let f = first_of table outline (λ n. eqb-false (row_by outline) no_row e (row_first outline some ∙ n)) in
    let short = (row_told f.row f.listed (λ n. some (sym f.outlined ∙ n))).short in
    absurd (omega (arith, rw f.outlined at short))

pub long_none : (outline : List ℕ) → 10 < length outline → row_by outline ≡ no_row
long_none outline h = long_if outline h (eqb (row_by outline) no_row) refl

-- where a line has a row, one of the table spells it, with the line's own constant
pub row_spells : RowSpells
row_spells line has =
    let some = row_some (outline_in line) has in
    let first = row_first (outline_in line) some in
    let f = first_of table (outline_in line) (λ e. has (first ∙ e)) in
    let some_row : outline_of f.row.spelling ≢ [] = λ e. some (sym f.outlined ∙ e) in
    let back = spelled_back f.row.spelling (row_told f.row f.listed some_row).well line (sym f.outlined) in
    record {
      row = f.row;
      number = f.number ∙ sym first;
      spells = record { listed = f.listed; some = some_row; takes = back.1; is = back.0 };
    }

-- and where one does, the line has a row
pub spelled_has : SpelledHas
spelled_has r t line s =
    let told = row_told r s.listed s.some in
    let outline : outline_in line ≡ outline_of r.spelling =
    ap outline_in s.is ∙ spelled_outline r.spelling told.well t s.takes in
    let first : row_by (outline_in line) ≡ first_in table (outline_of r.spelling) = ap row_by outline ∙ row_first (outline_of r.spelling) s.some in
    record {
      some = λ e. omega (arith, told.low, sym first ∙ e);
      text = sym (ap constant_in s.is ∙ spelled_constant r.spelling told.well t s.takes);
      outline = sym outline;
      slot = ap slot_at first ∙ told.slot;
    }

-- a line is spelled in one way
pub one_reading : OneReading
one_reading r r' t t' line s s' =
    let a = spelled_has r t line s in
    let b = spelled_has r' t' line s' in
    (a.text ∙ sym b.text, a.outline ∙ sym b.outline)

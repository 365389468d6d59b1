-- What antt computes of the table, row by row: the number that is found by a row's outline, which is short, that a line shows the place
-- of its constant, and what that may be.
-- Assumes nothing.
use Prim.Native.Nat.{ℕ, zero, suc, ◌+◌, ◌*◌, ◌/◌, ◌%◌, ◌≤◌, ◌<◌}
use mathlib.Core.Bool.{Bool, true, false, ◌||◌, ◌&&◌, true≢false}
use mathlib.Core.List.{List, [], ◌∷◌, ◌++◌, Memᴰ}
use mathlib.Core.Logic.{◌≢◌}
use mathlib.Core.Path.{◌≡◌, refl, sym, ◌∙◌, ap, ap₂}
use borrow.Author.Tests.{eqb-true, leb-true, ltb-true}
use lib.Dec.{eqb, leb, ltb}
use lib.ListN.{length}
use Rattle.digits.specs.Ascii.{ascii}
use Rattle.insn.specs.Grid.{grid}
use Rattle.insn.proofs.Entries.{tabulate}
use Rattle.listing.specs.Forms.{number_if}
use Rattle.listing.specs.Spelling.{spellings, data_of}
use Rattle.listing.specs.declared.Edition.TheVariants.{Old, New}
use Rattle.spellings.specs.Outline.{begins, ends, shown_by, spelled_by, outline_of}
use Rattle.spellings.specs.Rows.{Row, row_of, unprefixed, prefixed, table, same, first_in, slot_of, slot_in, spelling_at, slot_at}
use Rattle.spellings.specs.declared.Slot.{Slot}
use Rattle.spellings.specs.declared.Slot.TheVariants.{Bare, N8, N16, High, E8, Target, U3, Vec}
use Rattle.spellings.proofs.Outline.{both}
use Rattle.spellings.proofs.Spelled.{well_spelled}

-- rows that differ in a constant alone have one outline, and go by the first of them: RST, and the bits of BIT, RES and SET
abbrev pub first_row : ℕ → ℕ
first_row k =
    number_if (ltb k 256) (number_if (leb 0xC0 k && eqb (k % 8) 7) 0xC7 k) (number_if (leb 320 k && ltb k 512) (k / 64 * 64 + k % 8) k)

-- a slot by its number, and back
abbrev slot_number : Slot → ℕ
slot_number Bare = 0
slot_number N8 = 1
slot_number N16 = 2
slot_number High = 3
slot_number E8 = 4
slot_number Target = 5
slot_number U3 = 6
slot_number Vec = 7

-- what is computed of a row and of the number that is found by its outline; those without a spelling are not looked for
abbrev told : Row → ℕ → Bool
told r k =
    well_spelled r.spelling
    && (eqb k (first_row r.number)
    && (ltb k 513 && (leb (length (outline_of r.spelling)) 10 && eqb (slot_number (slot_at k)) (slot_number (slot_in r.spelling.operands)))))

tells : Row → Bool
tells r = same (outline_of r.spelling) [] || told r (first_in table (outline_of r.spelling))

unfoldable pub every : (Row → Bool) → List Row → Bool
every test [] = true
every test (r ∷ rs) = test r && every test rs

rows_new : every tells (tabulate (unprefixed New) 0 256) ≡ true
unfolding every tells grid spellings ascii number_if begins ends shown_by spelled_by outline_of unprefixed prefixed table same first_in slot_of slot_in spelling_at slot_at
rows_new = refl

rows_prefixed : every tells (tabulate prefixed 0 256) ≡ true
unfolding every tells grid spellings ascii number_if begins ends shown_by spelled_by outline_of unprefixed prefixed table same first_in slot_of slot_in spelling_at slot_at
rows_prefixed = refl

rows_old : every tells (tabulate (unprefixed Old) 0 256 ++ (row_of 512 (data_of 0) ∷ [])) ≡ true
unfolding every tells grid spellings ascii number_if begins ends shown_by spelled_by outline_of unprefixed prefixed table same first_in slot_of slot_in spelling_at slot_at
rows_old = refl

pub every_append : (test : Row → Bool) (rows rest : List Row) → every test rows ≡ true → every test rest ≡ true → every test (rows ++ rest) ≡ true
unfolding every
every_append test [] rest h k = k
every_append test (r ∷ rs) rest h k =
    let each = both (test r) (every test rs) h in
    rw each.0 (every_append test rs rest each.1 k)

pub every_at : (test : Row → Bool) {r : Row} {rows : List Row} → Memᴰ r rows → every test rows ≡ true → test r ≡ true
unfolding every
every_at test (Memᴰ.head {x = x} {xs = xs} e) h = ap test e ∙ (both (test x) (every test xs) h).0
every_at test (Memᴰ.tail {x = x} {xs = xs} m) h = every_at test m (both (test x) (every test xs) h).1

all_rows : every tells table ≡ true
unfolding table
all_rows =
    every_append tells (tabulate (unprefixed New) 0 256) _ rows_new
    (every_append tells (tabulate prefixed 0 256) (tabulate (unprefixed Old) 0 256 ++ (row_of 512 (data_of 0) ∷ [])) rows_prefixed rows_old)

-- whether two texts are the same, and that they are
pub same_true : (xs ys : List ℕ) → same xs ys ≡ true → xs ≡ ys
unfolding same
same_true [] [] h = refl
same_true [] (y ∷ ys) h = absurd (true≢false (sym h))
same_true (x ∷ xs) [] h = absurd (true≢false (sym h))
same_true (x ∷ xs) (y ∷ ys) h =
    let each = both (eqb x y) (same xs ys) h in
    ap₂ (λ (c : ℕ) (l : List ℕ). c ∷ l) (eqb-true x y each.0) (same_true xs ys each.1)

slot_of_number : ℕ → Slot
slot_of_number zero = Bare
slot_of_number (suc zero) = N8
slot_of_number (suc (suc zero)) = N16
slot_of_number (suc (suc (suc zero))) = High
slot_of_number (suc (suc (suc (suc zero)))) = E8
slot_of_number (suc (suc (suc (suc (suc zero))))) = Target
slot_of_number (suc (suc (suc (suc (suc (suc zero)))))) = U3
slot_of_number (suc (suc (suc (suc (suc (suc (suc n))))))) = Vec

slot_back : (s : Slot) → slot_of_number (slot_number s) ≡ s
unfolding slot_of_number
slot_back Bare = refl
slot_back N8 = refl
slot_back N16 = refl
slot_back High = refl
slot_back E8 = refl
slot_back Target = refl
slot_back U3 = refl
slot_back Vec = refl

same_slot : (s s' : Slot) → eqb (slot_number s) (slot_number s') ≡ true → s ≡ s'
same_slot s s' h = sym (slot_back s) ∙ ap slot_of_number (eqb-true (slot_number s) (slot_number s') h) ∙ slot_back s'

-- what holds of a row of the table that has a spelling
pub record RowTold (r : Row) : Type 0 where
  pub well : well_spelled r.spelling ≡ true
  pub first : first_in table (outline_of r.spelling) ≡ first_row r.number
  pub low : first_in table (outline_of r.spelling) < 513
  pub short : length (outline_of r.spelling) ≤ 10
  pub slot : slot_at (first_in table (outline_of r.spelling)) ≡ slot_in r.spelling.operands

module _ (r : Row) where
  told_is : (k : ℕ) → first_in table (outline_of r.spelling) ≡ k → told r k ≡ true → RowTold r
  told_is k e h =
      let a = both (well_spelled r.spelling) _ h in
      let b = both (eqb k (first_row r.number)) _ a.1 in
      let d = both (ltb k 513) _ b.1 in
      let l = both (leb (length (outline_of r.spelling)) 10) _ d.1 in
      record {
        well = a.0;
        first = e ∙ eqb-true k (first_row r.number) b.0;
        low = rw e (ltb-true k 513 d.0);
        short = leb-true (length (outline_of r.spelling)) 10 l.0;
        slot = rw e (same_slot (slot_at k) (slot_in r.spelling.operands) l.1);
      }

  told_if_lem : (t : Bool) → same (outline_of r.spelling) [] ≡ t → outline_of r.spelling ≢ []
      → (t || told r (first_in table (outline_of r.spelling))) ≡ true → RowTold r
  told_if_lem true e some h = absurd (some (same_true (outline_of r.spelling) [] e))
  told_if_lem false e some h = told_is (first_in table (outline_of r.spelling)) refl h

  pub row_told : Memᴰ r table → outline_of r.spelling ≢ [] → RowTold r
  unfolding tells
  row_told m some = told_if_lem (same (outline_of r.spelling) []) refl some (every_at tells m all_rows)

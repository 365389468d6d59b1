-- No line has more than three bytes.
-- Assumes nothing.
use Prim.Native.Nat.{ℕ, ◌+◌, ◌-◌, ◌*◌, ◌<◌, ◌≤◌}
use mathlib.Core.Bool.{Bool, true, false, ◌&&◌, and-eq-true_iff}
use mathlib.Core.List.{List, [], ◌∷◌}
use mathlib.Core.Path.{◌≡◌, refl}
use native.Mathlib.Omega.{arith}
use borrow.Author.Tests.{leb-true}
use lib.Dec.{eqb, leb, ltb}
use lib.ListN.{length, length-append}
use Rattle.arith.specs.Words.{low_of, high_of}
use Rattle.insn.specs.Grid.{grid}
use Rattle.insn.proofs.Entries.{agree}
use Rattle.listing.specs.Forms.{number_if, text_if}
use Rattle.listing.specs.Spelling.{spellings}
use Rattle.spellings.specs.Outline.{outline_in, outline_of}
use Rattle.spellings.specs.Rows.{Row, unprefixed, prefixed, table, first_in, row_by, no_row, slot_of, slot_in, spelling_at, slot_at, same}
use Rattle.spellings.specs.Bytes.{row_bytes, bytes_of}
use Rattle.spellings.specs.declared.Slot.{Slot}
use Rattle.spellings.specs.declared.Slot.TheVariants.{Bare, N8, N16, High, E8, Target, U3, Vec}
use Rattle.assembler.specs.Lines.{Verdict, Fault, Bytes, verdict_if, valued_by, verdict_by, found_in, verdict_of}
use Rattle.assembler.specs.Judging.{head_verdict}
use Rattle.constants.specs.Answer.{Found}
use Rattle.constants.specs.Answer.{NoForm, Deep, Large, Above, Below}

-- every row's number is at most 513
abbrev below : List Row → Bool
below [] = true
below (r ∷ rs) = leb r.number no_row && below rs

first_if : (t : Bool) (n m : ℕ) → n ≤ no_row → m ≤ no_row → number_if t n m ≤ no_row
unfolding number_if
first_if true n m h k = h
first_if false n m h k = k

first_below : (rs : List Row) (t : List ℕ) → below rs ≡ true → first_in rs t ≤ no_row
unfolding first_in
first_below [] t h = omega arith
first_below (r ∷ rs) t h =
    let both = (and-eq-true_iff (leb r.number no_row) (below rs)).0 h in
    first_if (same (outline_of r.spelling) t) r.number (first_in rs t) (leb-true _ _ both.0) (first_below rs t both.1)

table_below : below table ≡ true
unfolding table unprefixed prefixed
table_below = refl

row_below : (t : List ℕ) → row_by t ≤ no_row
unfolding row_by
row_below [] = omega arith
row_below (c ∷ cs) = first_below table (c ∷ cs) table_below

-- how many bytes a slot has behind the row's
abbrev pub extra : Slot → ℕ
extra Bare = 0
extra N8 = 1
extra N16 = 2
extra High = 1
extra E8 = 1
extra Target = 1
extra U3 = 0
extra Vec = 0

abbrev fits : ℕ → Bool
fits row = leb (length (row_bytes row) + extra (slot_at row)) 3

rows_fit : (row : ℕ) → row < 514 → fits row ≡ true
unfolding grid spellings row_bytes text_if slot_at slot_in slot_of spelling_at
rows_fit = agree fits (λ k. true) 514 refl

row_size : (row : ℕ) → length (row_bytes row) ≤ 2
unfolding row_bytes
row_size row = go (eqb row 0x10) (ltb row 256) (ltb row 512)
  where
    go : (s t u : Bool) → length (text_if s (0x10 ∷ 0x00 ∷ []) (text_if t (row ∷ []) (text_if u (0xCB ∷ (row - 256) ∷ []) []))) ≤ 2
    go true t u = unfold text_if in omega arith
    go false true u = unfold text_if in omega arith
    go false false true = unfold text_if in omega arith
    go false false false = unfold text_if in omega arith

sized : (row n : ℕ) (slot : Slot) → length (row_bytes row) + extra slot ≤ 3 → length (bytes_of row slot n) ≤ 3
unfolding bytes_of
sized row n Bare h = omega (arith, h)
sized row n N8 h = omega (arith, h, length-append (row_bytes row) (low_of n ∷ []))
sized row n N16 h = omega (arith, h, length-append (row_bytes row) (low_of n ∷ high_of n ∷ []))
sized row n High h = omega (arith, h, length-append (row_bytes row) (low_of n ∷ []))
sized row n E8 h = omega (arith, h, length-append (row_bytes row) (low_of n ∷ []))
sized row n Target h = omega (arith, h, length-append (row_bytes row) (low_of n ∷ []))
sized row n U3 h = omega (arith, row_size (row + 8 * n))
sized row n Vec h = omega (arith, row_size (row + n))

row_short : (t : List ℕ) (n : ℕ) → length (bytes_of (row_by t) (slot_at (row_by t)) n) ≤ 3
row_short t n =
    let row = row_below t in
    sized (row_by t) n (slot_at (row_by t)) (leb-true _ 3 (rows_fit (row_by t) (omega (arith, row))))

-- what a verdict has
abbrev Few : Verdict → Type 0
Few (Fault n) = Unit {0}
Few (Bytes bytes) = length bytes ≤ 3

few_if : (t : Bool) (bytes : List ℕ) → length bytes ≤ 3 → Few (verdict_if t bytes)
unfolding verdict_if
few_if true bytes h = h
few_if false bytes h = tt

few_by : (a row : ℕ) (slot : Slot) → ((n : ℕ) → length (bytes_of row slot n) ≤ 3) → (found : Found) → Few (verdict_by a row slot found)
unfolding verdict_by valued_by
few_by a row slot h NoForm = tt
few_by a row slot h Deep = tt
few_by a row slot h Large = tt
few_by a row slot h (Above n) = few_if _ _ (h _)
few_by a row slot h (Below n) = few_if _ _ (h _)

few : (a : ℕ) (line : List ℕ) → Few (verdict_of a line)
unfolding verdict_of
few a line = few_by a _ _ (row_short (outline_in line)) (found_in line)

few_head : (a : ℕ) (lines : List (List ℕ)) → Few (head_verdict a lines)
unfolding head_verdict
few_head a [] = tt
few_head a (l ∷ ls) = few a l

pub verdict_short : (a : ℕ) (lines : List (List ℕ)) (bytes : List ℕ) → head_verdict a lines ≡ Bytes bytes → length bytes ≤ 3
verdict_short a lines bytes e = rw e at (few_head a lines)

-- The table of spellings read backwards, over both editions: the row that a line's outline has, and what its constant may be.
-- Assumes nothing.
use Rattle.std.specs.Prelude.{ℕ, ◌+◌, ◌-◌, Bool, true, false, cond, ◌&&◌, List, [], ◌∷◌, ◌++◌, Option, Some, None, eqb, ltb, length}
use Rattle.insn.proofs.Entries.{tabulate}
use Rattle.listing.specs.Forms.{number_if}
use Rattle.listing.specs.Spelling.{Kind, n8, n16, at_n16, at_high, e8, sp_plus_e8, target, u3, vec, Shown, Named, Of, Spelling, alone, changed_if, spelling_in, data_of}
use Rattle.listing.specs.declared.Edition.{Edition}
use Rattle.listing.specs.declared.Edition.TheVariants.{Old, New}
use Rattle.spellings.specs.Outline.{outline_of, outline_in, before_in, constant_in}
use Rattle.spellings.specs.declared.Slot.{Slot}
use Rattle.spellings.specs.declared.Slot.TheVariants.{Bare, N8, N16, High, E8, Target, U3, Vec}
use Rattle.spellings.specs.declared.Form.{Form as CodeForm}

-- a row: below 256 an opcode, below 512 one behind $CB, and 512 is data; the byte and the word after it are 0 here
pub record Row : Type 0 where
  pub number : ℕ
  pub spelling : Spelling

abbrev pub row_of : ℕ → Spelling → Row
row_of k s = record { number = k; spelling = s }

-- $CB itself has no spelling
unfoldable pub unprefixed : Edition → ℕ → Row
unprefixed e op = row_of op (changed_if (eqb op 0xCB) (alone "") (spelling_in e op 0 0))

unfoldable pub prefixed : ℕ → Row
prefixed n = row_of (256 + n) (spelling_in New 0xCB n 0)

-- the table of both editions, and data
unfoldable pub table : List Row
table =
    tabulate (unprefixed New) 0 256 ++ (tabulate prefixed 0 256 ++ (tabulate (unprefixed Old) 0 256 ++ (row_of 512 (data_of 0) ∷ [])))

-- whether two texts are the same
unfoldable pub same : List ℕ → List ℕ → Bool
same [] [] = true
same [] (y ∷ ys) = false
same (x ∷ xs) [] = false
same (x ∷ xs) (y ∷ ys) = eqb x y && same xs ys

-- the number of the first row that has an outline, where it has any; 513 is none. Rows that differ in a constant alone have one outline
-- and go by the first of them: RST, and the bits of BIT, RES and SET. What is undefined has an empty spelling, and no line has that
abbrev pub no_row : ℕ
no_row = 513

unfoldable pub first_in : List Row → List ℕ → ℕ
first_in [] outline = no_row
first_in (r ∷ rs) outline = number_if (same (outline_of r.spelling) outline) r.number (first_in rs outline)

unfoldable pub row_by : List ℕ → ℕ
row_by [] = no_row
row_by (c ∷ cs) = first_in table (c ∷ cs)

-- what a constant may be: there is none; n8; n16, also between brackets; LDH's address; e8; JR's target; u3; vec
unfoldable pub slot_of : Kind → Slot
slot_of n8 = N8
slot_of n16 = N16
slot_of at_n16 = N16
slot_of at_high = High
slot_of e8 = E8
slot_of sp_plus_e8 = E8
slot_of target = Target
slot_of u3 = U3
slot_of vec = Vec

unfoldable pub slot_in : List Shown → Slot
slot_in [] = Bare
slot_in (Named t ∷ xs) = slot_in xs
slot_in (Of k n ∷ xs) = slot_of k

-- the spelling of a row in edition 2, and its slot
unfoldable pub spelling_at : ℕ → Spelling
spelling_at row =
    changed_if (ltb row 256) (spelling_in New row 0 0)
    (changed_if (ltb row 512) (spelling_in New 0xCB (row - 256) 0) (changed_if (eqb row 512) (data_of 0) (alone "")))

unfoldable pub slot_at : ℕ → Slot
slot_at row = slot_in (spelling_at row).operands

-- what a line is: its row, its slot, and where its constant begins and ends
pub record Form : Type 0 where
  pub row : ℕ
  pub slot : Slot
  pub from : ℕ
  pub to : ℕ

unfoldable pub form_of : List ℕ → Form
form_of line =
    record {
      row = row_by (outline_in line);
      slot = slot_at (row_by (outline_in line));
      from = length (before_in line);
      to = length (before_in line) + length (constant_in line);
    }

-- how the code has it: a number, unless it is the one that says that there is none
abbrev pub unless : ℕ → ℕ → Option ℕ
unless none k = cond (eqb k none) None (Some k)

abbrev pub form_in : Form → CodeForm
form_in f = record { row = unless no_row f.row; slot = f.slot; from = f.from; to = f.to }

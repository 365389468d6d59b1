-- A line has at most as many bytes as characters, its newline counted; so as many bytes of room as a text has characters are enough.
-- Assumes nothing.
use Prim.Native.Nat.{ℕ, ◌+◌, ◌-◌, ◌≤◌}
use mathlib.Core.Bool.{Bool, true, false, ◌||◌}
use mathlib.Core.List.{List, [], ◌∷◌, ◌++◌}
use mathlib.Core.Logic.{◌≢◌}
use mathlib.Core.Path.{◌≡◌, refl, sym, ◌∙◌, ap}
use native.Mathlib.Omega.{arith}
use borrow.Author.Tests.{leb-true, eq-eqb, eqb-true, eqb-false}
use lib.Dec.{eqb, leb}
use lib.ListN.{length, length-append}
use Rattle.arith.specs.Words.{further}
use Rattle.digits.specs.Ascii.{ascii, newline}
use Rattle.insn.specs.Grid.{grid}
use Rattle.constants.specs.Answer.{found_if}
use Rattle.constants.specs.Answer.{Found}
use Rattle.constants.specs.Answer.{NoForm, Deep, Large, Above, Below}
use Rattle.listing.specs.Spelling.{spellings}
use Rattle.spellings.specs.Outline.{before_in, constant_in, behind_in, marked, outline_in, shown_by, spelled_by, outline_of}
use Rattle.spellings.specs.Rows.{unprefixed, prefixed, table, row_by, no_row, same}
use Rattle.spellings.specs.declared.Slot.{Slot}
use Rattle.spellings.proofs.Outline.{parts_join}
use Rattle.assembler.specs.Lines.{Fault, Bytes, found_in, verdict_if, valued_by, verdict_by, verdict_of}
use Rattle.assembler.specs.Text.{Text, before, text_if, text_of}
use Rattle.assembler.specs.Judging.{head_verdict}
use Rattle.assembler.specs.Faults.{GoodLines, no_line, a_line, FaultIn, own, no_room, FaultBehind, in_line, in_rest, Enough}
use Rattle.assembler.proofs.Back.{all_have, row_has}
use Rattle.assembler.proofs.Faults.{refuses}
use Rattle.assembler.proofs.Short.{verdict_short}

-- every outline has two characters at least; what is undefined has none
abbrev long : List ℕ → Bool
long t = same t [] || leb 2 (length t)

table_long : all_have long table ≡ true
unfolding grid spellings ascii shown_by spelled_by outline_of unprefixed prefixed table same
table_long = refl

long_some : (t : List ℕ) → row_by t ≢ no_row → long t ≡ true → 2 ≤ length t
unfolding row_by same
long_some [] some h = absurd (some refl)
long_some (c ∷ cs) some h = leb-true 2 (length (c ∷ cs)) h

-- a line is as long as its outline at least
marked_length : (t : List ℕ) → length (marked t) ≤ length t
unfolding marked
marked_length [] = omega arith
marked_length (c ∷ cs) = omega arith

outline_length : (line : List ℕ) → length (outline_in line) ≤ length line
unfolding outline_in
outline_length line =
    let whole = sym (ap length (parts_join line)) in
    let outer = length-append (before_in line) (constant_in line ++ behind_in line) in
    let inner = length-append (constant_in line) (behind_in line) in
    let outer' = length-append (before_in line) (marked (constant_in line) ++ behind_in line) in
    let inner' = length-append (marked (constant_in line)) (behind_in line) in
    omega (arith, whole, outer, inner, outer', inner', marked_length (constant_in line))

fault_bytes : {n : ℕ} {bytes : List ℕ} → Fault n ≡ Bytes bytes → ⊥
fault_bytes e = let z : ◌≡◌ {A = ℕ} 0 1 = cc in omega arith

rowless : (a : ℕ) (line : List ℕ) → row_by (outline_in line) ≡ no_row → verdict_of a line ≡ Fault 12
unfolding verdict_of found_in found_if verdict_by
rowless a line e = rw (eq-eqb (row_by (outline_in line)) no_row e) refl

line_room : (a : ℕ) (line bytes : List ℕ) → verdict_of a line ≡ Bytes bytes → length bytes ≤ length line + 1
line_room a line bytes v = go (eqb (row_by (outline_in line)) no_row) refl
  where
    go : (t : Bool) → eqb (row_by (outline_in line)) no_row ≡ t → length bytes ≤ length line + 1
    go true e = absurd (fault_bytes (sym (rowless a line (eqb-true _ _ e)) ∙ v))
    go false e =
        let some = eqb-false _ _ e in
        let two = long_some (outline_in line) some (row_has long (outline_in line) table_long some) in
        let few = verdict_short a (line ∷ []) bytes (unfold head_verdict in v) in
        omega (arith, two, few, outline_length line)

-- the characters of lines, each with its newline, and of a text
abbrev size_of : List (List ℕ) → ℕ
size_of [] = 0
size_of (l ∷ ls) = length l + 1 + size_of ls

size_more : (c : ℕ) (t : Text) (ls : List (List ℕ)) → t.lines ≡ ls
    → size_of (before c t ls).lines + length (before c t ls).rest ≡ 1 + (size_of t.lines + length t.rest)
unfolding before
size_more c t [] e = rw e (omega arith)
size_more c t (l ∷ ls) e = rw e (omega arith)

size_if : (b : Bool) (c : ℕ) (t : Text) → size_of (text_if b c t).lines + length (text_if b c t).rest ≡ 1 + (size_of t.lines + length t.rest)
unfolding text_if
size_if true c t = omega arith
size_if false c t = size_more c t t.lines refl

text_size : (text : List ℕ) → size_of (text_of text).lines + length (text_of text).rest ≡ length text
unfolding text_of
text_size [] = refl
text_size (c ∷ cs) = let rest = text_size cs in size_if (eqb c newline) c (text_of cs) ∙ (omega (arith, rest))

size_append : (xs ys : List (List ℕ)) → size_of (xs ++ ys) ≡ size_of xs + size_of ys
size_append [] ys = omega arith
size_append (x ∷ xs) ys = let rest = size_append xs ys in omega (arith, rest)

good_size : (ls : List (List ℕ)) (a : ℕ) (bytes : List ℕ) → GoodLines ls a bytes → length bytes ≤ size_of ls
good_size [] a bytes no_line = omega arith
good_size (l ∷ ls) a bytes (a_line {bytes = b} {more = more} v g) =
    let here = line_room a l b v in
    let rest = good_size ls (further (length b) a) more g in
    let both = length-append b more in
    omega (arith, here, rest, both)

-- a line's own faults are 12, 13 and 14
own_if : (t : Bool) (bytes : List ℕ) → verdict_if t bytes ≢ Fault 10
unfolding verdict_if
own_if true bytes e = fault_bytes (sym e)
own_if false bytes e = let z : ◌≡◌ {A = ℕ} 14 10 = cc in omega arith

own_by : (a row : ℕ) (slot : Slot) (found : Found) → verdict_by a row slot found ≢ Fault 10
unfolding verdict_by valued_by
own_by a row slot NoForm e = let z : ◌≡◌ {A = ℕ} 12 10 = cc in omega arith
own_by a row slot Deep e = let z : ◌≡◌ {A = ℕ} 13 10 = cc in omega arith
own_by a row slot Large e = let z : ◌≡◌ {A = ℕ} 14 10 = cc in omega arith
own_by a row slot (Above n) e = own_if _ _ e
own_by a row slot (Below n) e = own_if _ _ e

own_not : (a : ℕ) (line : List ℕ) → verdict_of a line ≢ Fault 10
unfolding verdict_of
own_not a line = own_by a _ _ (found_in line)

-- with so much room no line is refused for it
in_room : (l : List ℕ) (a room n : ℕ) → length l + 1 ≤ room → FaultIn l a room n → n ≢ 10
in_room l a room n h (own v) e = own_not a l (v ∙ ap Fault e)
in_room l a room n h (no_room {bytes} v short) e = let most = line_room a l bytes v in omega (arith, h, short, most)

behind_room : (lines : List (List ℕ)) (rest : List ℕ) (a room n : ℕ) → size_of lines ≤ room → FaultBehind lines rest a room n → n ≢ 10
behind_room lines rest a room n h (in_line {l} {more} e f) z =
    let size = ap size_of e in in_room l a room n (omega (arith, h, size)) f z
behind_room lines rest a room n h (in_rest e r) z = omega (arith, z)

pub enough : Enough
enough first text room n line small fits e =
    let f = refuses first text room n line small e in
    let size = text_size text in
    let parts = ap size_of f.lines ∙ size_append f.above f.behind in
    let above = good_size f.above first f.bytes f.good in
    behind_room f.behind (text_of text).rest _ (room - length f.bytes) n (omega (arith, size, parts, above, fits)) f.fault

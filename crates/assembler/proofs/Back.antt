-- A line of a listing, assembled at its address, gives its bytes back; so a whole listing's spellings, assembled from its first address, give
-- back the part.
-- Assumes nothing.
use Prim.Native.Nat.{ℕ, zero, suc, ◌+◌, ◌-◌, ◌%◌, ◌<◌, ◌≤◌}
use mathlib.Core.Bool.{Bool, true, false, ◌&&◌, not}
use mathlib.Core.List.{List, [], ◌∷◌, ◌++◌, map, append_assoc}
use mathlib.Core.Logic.{◌≢◌}
use mathlib.Core.Path.{◌≡◌, refl, sym, ◌∙◌, ap}
use native.Mathlib.Nat.{mod-lt, le_refl}
use native.Mathlib.Omega.{arith}
use borrow.Author.Tests.{ne_eqb, le-ltb, leb-true, ltb-true, not-true}
use lib.Dec.{eqb, leb, ltb, lit<}
use lib.ListN.{length, get_or, drop, length-drop, take-append-drop}
use Rattle.arith.specs.Words.{word_of, further, offset_of}
use Rattle.arith.proofs.Laws.{further_below, word_below}
use Rattle.digits.specs.Ascii.{ascii, newline}
use Rattle.digits.specs.Digits.{byte_in, digits_of}
use Rattle.digits.specs.Numerals.{glyph_of, hex_text, width_of, decimal_text}
use Rattle.digits.proofs.Places.{ByteList}
use Rattle.insn.specs.Grid.{grid, decode_of}
use Rattle.insn.specs.Shapes.{is_undefined}
use Rattle.insn.proofs.Entries.{agree}
use Rattle.constants.specs.Answer.{found_if, found_of}
use Rattle.listing.specs.Spelling.{Kind, n8, n16, at_n16, at_high, e8, sp_plus_e8, target, u3, vec, Shown, Named, Of, hex, signed_if, signed_text, spellings, spelling_in, data_of, spelling_text}
use Rattle.listing.specs.Spelling as listing
use Rattle.listing.specs.Forms.{number_if}
use Rattle.listing.specs.Lines.{Line, insn_in, spelled_in, size_in, is_data, line_if, line_of, lines_from, lines_of, joined}
use Rattle.listing.specs.declared.Edition.{Edition}
use Rattle.listing.specs.declared.Edition.TheVariants.{Old, New}
use Rattle.listing.proofs.Opcodes.{each_opcode}
use Rattle.listing.proofs.Order.{or_left, counted, line_first}
use Rattle.spellings.specs.Outline.{before_in, constant_in, behind_in, marked, outline_in, shown_by, spelled_by, outline_of}
use Rattle.spellings.specs.Rows.{Row, unprefixed, prefixed, table, first_in, row_by, no_row, same, slot_of, slot_at}
use Rattle.spellings.specs.Bytes.{bytes_of}
use Rattle.spellings.specs.Exact.{none}
use Rattle.spellings.proofs.Outline.{both, parts_join}
use Rattle.spellings.proofs.Table.{first_row, same_true}
use Rattle.spellings.proofs.Recovered.{held_slot, held_number, held_text, FitsIn, held, row_at, size, insn_bytes, next_is, recovered, recovered_data}
use Rattle.spellings.proofs.Determined.{read_back, insn_back, data_back, line_back, below_drop}
use Rattle.assembler.specs.Ranges.{highest, number_in, reached}
use Rattle.assembler.specs.Lines.{Bytes, standing, found_in, verdict_if, valued_by, verdict_by, verdict_of}
use Rattle.assembler.specs.Text.{before, text_if, text_of, Done, prepended, outcome_if, line_outcome, left_outcome, outcome_from, outcome_of, answer_of, assemble_of}
use Rattle.assembler.specs.Judging.{is_newline, outcome_on}
use Rattle.assembler.specs.Back.{spelled_line, spelled_lines, GivesBack}
use Rattle.assembler.proofs.Listed.{Ranged, constant_taken}

-- no character of two texts, and of one and another
pub none_append : (passes : ℕ → Bool) (xs ys : List ℕ) → none passes xs ≡ true → none passes ys ≡ true → none passes (xs ++ ys) ≡ true
none_append passes [] ys h k = k
none_append passes (x ∷ xs) ys h k =
    let each = both (not (passes x)) (none passes xs) h in
    rw (each.0, none_append passes xs ys each.1 k) refl

none_parts : (passes : ℕ → Bool) (xs ys : List ℕ) → none passes (xs ++ ys) ≡ true → (none passes xs ≡ true) × (none passes ys ≡ true)
none_parts passes [] ys h = (refl, h)
none_parts passes (x ∷ xs) ys h =
    let each = both (not (passes x)) (none passes (xs ++ ys)) h in
    let rest = none_parts passes xs ys each.1 in
    (rw (each.0, rest.0) refl, rest.1)

-- what every outline of the table has, the outline of a line that has a row has too
abbrev pub all_have : (List ℕ → Bool) → List Row → Bool
all_have test [] = true
all_have test (r ∷ rs) = test (outline_of r.spelling) && all_have test rs

module _ (test : List ℕ → Bool) (outline : List ℕ) where
  first_if : (t : Bool) (r : Row) (rs : List Row) → same (outline_of r.spelling) outline ≡ t → test (outline_of r.spelling) ≡ true
      → (first_in rs outline ≢ no_row → test outline ≡ true) → number_if t r.number (first_in rs outline) ≢ no_row → test outline ≡ true
  unfolding number_if
  first_if true r rs s here rest some = rw (same_true _ outline s) at here
  first_if false r rs s here rest some = rest some

  first_has : (rs : List Row) → all_have test rs ≡ true → first_in rs outline ≢ no_row → test outline ≡ true
  unfolding first_in
  first_has [] h some = absurd (some refl)
  first_has (r ∷ rs) h some =
      let each = both (test (outline_of r.spelling)) (all_have test rs) h in
      first_if (same (outline_of r.spelling) outline) r rs refl each.0 (first_has rs each.1) some

pub row_has : (test : List ℕ → Bool) (outline : List ℕ) → all_have test table ≡ true → row_by outline ≢ no_row → test outline ≡ true
unfolding row_by
row_has test [] h some = absurd (some refl)
row_has test (c ∷ cs) h some = first_has test (c ∷ cs) table h some

abbrev clear : List ℕ → Bool
clear line = none is_newline line

table_clear : all_have clear table ≡ true
unfolding grid spellings ascii shown_by spelled_by outline_of unprefixed prefixed table is_newline
table_clear = refl

row_clear : (line : List ℕ) → row_by (outline_in line) ≢ no_row → clear (constant_in line) ≡ true → clear line ≡ true
unfolding outline_in
row_clear line some h =
    let outer = none_parts is_newline (before_in line) (marked (constant_in line) ++ behind_in line) (row_has clear (outline_in line) table_clear some) in
    let inner = none_parts is_newline (marked (constant_in line)) (behind_in line) outer.1 in
    rw (parts_join line) at (none_append is_newline (before_in line) (constant_in line ++ behind_in line) outer.0 (none_append is_newline (constant_in line) (behind_in line) h inner.1))

-- nor has a constant of a listing
glyph_clear : (d : ℕ) → is_newline (glyph_of d) ≡ false
unfolding glyph_of ascii is_newline
glyph_clear d = agree (λ k. is_newline (get_or (ascii "0123456789ABCDEF") k 0)) (λ k. false) 16 refl (d % 16) (mod-lt d (lit< tt))

glyphs_clear : (digits : List ℕ) → clear (map glyph_of digits) ≡ true
glyphs_clear [] = refl
glyphs_clear (d ∷ rest) = rw (glyph_clear d, glyphs_clear rest)

hex_clear : (k n : ℕ) → clear (hex k n) ≡ true
unfolding hex hex_text ascii is_newline
hex_clear k n = glyphs_clear (digits_of 16 k n)

signed_clear : (t : Bool) (n : ℕ) → clear (signed_if t n) ≡ true
unfolding signed_if ascii is_newline
signed_clear true n = hex_clear 2 n
signed_clear false n = hex_clear 2 (256 - n)

constant_clear : (next : ℕ) (k : Kind) (n : ℕ) → clear (listing.constant_text next k n) ≡ true
unfolding listing.constant_text signed_text decimal_text
constant_clear next n8 n = hex_clear 2 n
constant_clear next n16 n = hex_clear 4 n
constant_clear next at_n16 n = hex_clear 4 n
constant_clear next at_high n = hex_clear 4 (word_of 0xFF n)
constant_clear next e8 n = signed_clear (ltb n 0x80) n
constant_clear next sp_plus_e8 n = signed_clear (ltb n 0x80) n
constant_clear next target n = hex_clear 4 (offset_of n next)
constant_clear next u3 n = glyphs_clear (digits_of 10 (width_of 9 n) n)
constant_clear next vec n = hex_clear 2 n

held_clear : (next : ℕ) (x : Shown) → clear (held_text next x) ≡ true
held_clear next (Named t) = refl
held_clear next (Of k n) = constant_clear next k n

-- what a line of a listing is here
record Back (a : ℕ) (line bytes : List ℕ) : Type 0 where
  verdict : verdict_of a line ≡ Bytes bytes
  whole : clear line ≡ true

-- the constant of an instruction is in its range
abbrev vec_right : Shown → Bool
vec_right (Named t) = true
vec_right (Of n8 n) = true
vec_right (Of n16 n) = true
vec_right (Of at_n16 n) = true
vec_right (Of at_high n) = true
vec_right (Of e8 n) = true
vec_right (Of sp_plus_e8 n) = true
vec_right (Of target n) = true
vec_right (Of u3 n) = true
vec_right (Of vec n) = leb n 56 && eqb (n % 8) 0

vec_right_lem : (e : Edition) (op n w : ℕ) → op < 256 → n < 256 → vec_right (held e op n w) ≡ true
unfolding grid spellings ascii
vec_right_lem Old = each_opcode (λ op n w. vec_right (held Old op n w)) (λ op n w. true) true (λ n w. refl) (λ w. refl)
vec_right_lem New = each_opcode (λ op n w. vec_right (held New op n w)) (λ op n w. true) true (λ n w. refl) (λ w. refl)

abbrev HeldRanged : Shown → Type 0
HeldRanged (Named t) = Unit {0}
HeldRanged (Of k n) = Ranged k n

ranged : (x : Shown) → FitsIn x → vec_right x ≡ true → HeldRanged x
ranged (Named t) h v = tt
ranged (Of n8 n) h v = h
ranged (Of n16 n) h v = h
ranged (Of at_n16 n) h v = h
ranged (Of at_high n) h v = h
ranged (Of e8 n) h v = h
ranged (Of sp_plus_e8 n) h v = h
ranged (Of target n) h v = h
ranged (Of u3 n) h v = h
ranged (Of vec n) h v = let each = both (leb n 56) (eqb (n % 8) 0) v in (leb-true n 56 each.0, each.1)

-- a line with its newline, before a text
line_text_lem : (line text : List ℕ) → clear line ≡ true
    → text_of (line ++ (newline ∷ text)) ≡ record { lines = line ∷ (text_of text).lines; rest = (text_of text).rest }
unfolding text_of text_if before is_newline
line_text_lem [] text h = refl
line_text_lem (c ∷ cs) text h =
    let each = both (not (is_newline c)) (clear cs) h in
    rw (not-true (is_newline c) each.0, line_text_lem cs text each.1) refl

nothing_left : (e : Edition) (a line room : ℕ) → outcome_on (spelled_lines (lines_from e a 0 [])) a line room ≡ Done []
unfolding spelled_lines joined lines_from outcome_on outcome_from text_of left_outcome
nothing_left e a line room = refl

line_on : (l : Line) (ls : List Line) (a line room : ℕ) → Back a l.spelling l.bytes → length l.bytes ≤ room
    → outcome_on (spelled_lines (l ∷ ls)) a line room
    ≡ prepended l.bytes (outcome_on (spelled_lines ls) (further (length l.bytes) a) (line + 1) (room - length l.bytes))
unfolding spelled_lines spelled_line joined outcome_on outcome_from line_outcome outcome_if
line_on l ls a line room b fits =
    rw (
      append_assoc l.spelling (newline ∷ []) (spelled_lines ls),
      line_text_lem l.spelling (spelled_lines ls) b.whole,
      b.verdict,
      le-ltb room (length l.bytes) fits,
    )
    refl

-- the first line of a listing, and those behind it
line_step : (e : Edition) (a : ℕ) (bytes : List ℕ) → 0 < length bytes → a < 65536 → Back a (line_of e a bytes).spelling (line_of e a bytes).bytes
    → (line room : ℕ) → length bytes ≤ room
    → outcome_on (spelled_lines (lines_from e (further (length (line_of e a bytes).bytes) a) 0 (drop (length (line_of e a bytes).bytes) bytes)))
    (further (length (line_of e a bytes).bytes) a) (line + 1) (room - length (line_of e a bytes).bytes)
    ≡ Done (drop (length (line_of e a bytes).bytes) bytes)
    → outcome_on (spelled_lines (lines_from e a 0 bytes)) a line room ≡ Done bytes
unfolding prepended
line_step e a bytes some small b line room fits rest =
    let size = counted e a bytes some in
    ap (λ (ls : List Line). outcome_on (spelled_lines ls) a line room) (line_first e a bytes small some)
    ∙ line_on (line_of e a bytes) _ a line room b (omega (arith, size.fits))
    ∙ ap (prepended (line_of e a bytes).bytes) rest
    ∙ ap (λ (front : List ℕ). Done (front ++ drop (length (line_of e a bytes).bytes) bytes)) size.front
    ∙ ap Done (take-append-drop (length (line_of e a bytes).bytes) bytes)

-- a row's number is no other's
first_row_below : (k : ℕ) → k < 512 → first_row k < 512
unfolding number_if
first_row_below k h = ltb-true (first_row k) 512 (agree (λ j. ltb (first_row j) 512) (λ j. true) 512 refl k h)

row_at_below : (t : Bool) (op n : ℕ) → op < 256 → n < 256 → number_if t (256 + n) op < 512
unfolding number_if
row_at_below true op n h hn = omega arith
row_at_below false op n h hn = omega arith

row_some : (row k : ℕ) → row ≡ k → k < 513 → row ≢ no_row
row_some row k e h n = omega (arith, e, h, n)

stands_found : (k : Kind) (t : List ℕ) → standing (slot_of k) t ≡ found_of t
unfolding standing slot_of
stands_found n8 t = refl
stands_found n16 t = refl
stands_found at_n16 t = refl
stands_found at_high t = refl
stands_found e8 t = refl
stands_found sp_plus_e8 t = refl
stands_found target t = refl
stands_found u3 t = refl
stands_found vec t = refl

-- a line that has a row, by what stands in the place of its constant
pub verdict_by_lem : (a : ℕ) (line : List ℕ) → row_by (outline_in line) ≢ no_row
    → verdict_of a line
    ≡ verdict_by a (row_by (outline_in line)) (slot_at (row_by (outline_in line))) (standing (slot_at (row_by (outline_in line))) (constant_in line))
unfolding verdict_of found_in found_if
verdict_by_lem a line some = rw (ne_eqb (row_by (outline_in line)) no_row some) refl

held_taken : (a row : ℕ) (x : Shown) → HeldRanged x
    → verdict_by a row (held_slot x) (standing (held_slot x) (held_text (further 2 a) x)) ≡ Bytes (bytes_of row (held_slot x) (held_number x))
unfolding standing verdict_by valued_by highest number_in reached verdict_if
held_taken a row (Named t) h = refl
held_taken a row (Of k n) h = rw (stands_found k (listing.constant_text (further 2 a) k n)) (constant_taken a row k n h)

-- an instruction
module _ (e : Edition) (a op n w : ℕ) (h : op < 256) (hn : n < 256) (hw : w < 65536) (d : is_undefined (decode_of op n w) ≡ false) where
  abbrev line : List ℕ
  line = spelling_text (further (size op n w) a) (spelling_in e op n w)

  some : row_by (outline_in line) ≢ no_row
  some =
      let low = first_row_below (row_at op n) (row_at_below (eqb op 0xCB) op n h hn) in
      row_some _ _ (recovered e (further (size op n w) a) op n w h hn hw d).row (omega (arith, low))

  insn_verdict : verdict_of a line ≡ Bytes (insn_bytes (size op n w) op n w)
  insn_verdict =
      let r = recovered e (further (size op n w) a) op n w h hn hw d in
      verdict_by_lem a line some
      ∙ (rw (r.text, r.row, r.slot, next_is e a op n w h hn)
      (held_taken a _ (held e op n w) (ranged (held e op n w) r.fits (vec_right_lem e op n w h hn))))
      ∙ ap Bytes r.bytes

  insn_whole : Back a line (read_back a line)
  insn_whole =
      let r = recovered e (further (size op n w) a) op n w h hn hw d in
      record {
        verdict = insn_verdict ∙ sym (ap Bytes (insn_back e a op n w h hn hw d));
        whole = row_clear line some (rw r.text (held_clear (further (size op n w) a) (held e op n w)));
      }

-- a byte of data
data_whole : (a next b : ℕ) → b < 256 → Back a (spelling_text next (data_of b)) (read_back a (spelling_text next (data_of b)))
unfolding listing.constant_text slot_of
data_whole a next b h =
    let r = recovered_data next b h in
    let line = spelling_text next (data_of b) in
    let some = row_some _ 512 r.row (omega arith) in
    record {
      verdict =
          verdict_by_lem a line some
          ∙ (rw (r.text, r.row, r.slot) (held_taken a 512 (Of n8 b) h))
          ∙ ap Bytes (r.bytes ∙ sym (data_back a next b h));
      whole = row_clear line some (rw r.text (hex_clear 2 b));
    }

-- a line of a listing
module _ (e : Edition) (a : ℕ) (bytes : List ℕ) (some : 0 < length bytes) (p : ByteList bytes) where
  line_if_lem : (t : Bool) → is_data bytes ≡ t → Back a (line_if t e a bytes).spelling (read_back a (line_if t e a bytes).spelling)
  unfolding line_if spelled_in size_in insn_in is_data byte_in
  line_if_lem true d = data_whole a (further 1 a) (byte_in 0 bytes) (p.at 0)
  line_if_lem false d =
      insn_whole e a (byte_in 0 bytes) (byte_in 1 bytes) (word_of (byte_in 2 bytes) (byte_in 1 bytes)) (p.at 0) (p.at 1)
      (word_below _ _ (p.at 2) (p.at 1)) (or_left (is_undefined (insn_in bytes)) _ d)

  line_whole : Back a (line_of e a bytes).spelling (line_of e a bytes).bytes
  unfolding line_of
  line_whole = rw (line_back e a bytes some p) at (line_if_lem (is_data bytes) refl)

-- the lines of a listing, one after the other, by what is known of fewer bytes
abbrev BackFrom : ℕ → Type 0
BackFrom most =
    (e : Edition) (a : ℕ) (bytes : List ℕ) → length bytes ≤ most → a < 65536 → ByteList bytes → (line room : ℕ) → length bytes ≤ room
    → outcome_on (spelled_lines (lines_from e a 0 bytes)) a line room ≡ Done bytes

back_none : BackFrom 0
back_none e a [] few small p line room fits = nothing_left e a line room
back_none e a (b ∷ bytes) few small p line room fits = absurd (omega arith)

back_more : (most : ℕ) → BackFrom most → BackFrom (suc most)
back_more most known e a [] few small p line room fits = nothing_left e a line room
back_more most known e a (b ∷ bytes) few small p line room fits =
    let k = length (line_of e a (b ∷ bytes)).bytes in
    let size = counted e a (b ∷ bytes) (omega arith) in
    let left = length-drop k (b ∷ bytes) in
    let rest = known e (further k a) (drop k (b ∷ bytes)) (omega (arith, left, size.some)) (further_below k a) (below_drop k (b ∷ bytes) p) (line + 1)
    (room - k) (omega (arith, left, size.fits)) in
    line_step e a (b ∷ bytes) (omega arith) small (line_whole e a (b ∷ bytes) (omega arith) p) line room fits rest

back_from : (most : ℕ) → BackFrom most
back_from zero = back_none
back_from (suc most) = back_more most (back_from most)

back_whole : (e : Edition) (first : ℕ) (part : List ℕ) (room : ℕ) → first < 65536 → ByteList part → length part ≤ room
    → outcome_of first (spelled_lines (lines_of e first part)) room ≡ Done part
unfolding outcome_of outcome_on lines_of
back_whole e first part room small p fits = back_from (length part) e first part (le_refl (length part)) small p 1 room fits

pub gives_back : GivesBack
unfolding assemble_of answer_of
gives_back e first part out small p fits = rw (back_whole e first part (length out) small p fits) refl

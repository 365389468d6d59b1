-- The table read backwards, over both editions: the spelling of an instruction shows its constant and its row, and these give its bytes.
-- antt computes it for every opcode, whatever follows.
-- Assumes nothing.
use Prim.Native.Nat.{ℕ, zero, suc, ◌+◌, ◌%◌, ◌<◌}
use mathlib.Core.Bool.{Bool, true, false, not, ◌&&◌, true≢false}
use mathlib.Core.List.Memᴰ
use mathlib.Core.List.{List, [], ◌∷◌, ◌++◌, Memᴰ}
use mathlib.Core.Logic.{◌≢◌}
use mathlib.Core.Path.{◌≡◌, refl, sym, ◌∙◌, ap}
use native.Mathlib.Nat.{add-zero, zero-add, mod-eq_of_lt}
use native.Mathlib.Omega.{arith}
use borrow.Author.Tests.{not-true}
use lib.Dec.{eqb}
use Rattle.arith.specs.Words.{low_of, high_of, further}
use Rattle.digits.specs.Ascii.{ascii}
use Rattle.insn.specs.Grid.{grid, decode_of}
use Rattle.insn.specs.Shapes.{shapes, shape_of, is_undefined}
use Rattle.insn.proofs.Entries.{tabulate}
use Rattle.listing.specs.Spelling.{Kind, n8, n16, at_n16, at_high, e8, sp_plus_e8, target, u3, vec, Shown, Named, Of, Spelling, spellings, spelling_in, data_of, constant_text, shown_text, comma_text, operands_text, spelling_by, spelling_text}
use Rattle.listing.specs.Forms.{number_if, text_if}
use Rattle.listing.specs.declared.Edition.{Edition}
use Rattle.listing.specs.declared.Edition.TheVariants.{Old, New}
use Rattle.listing.proofs.Opcodes.{each_opcode}
use Rattle.spellings.specs.Outline.{begins, ends, constant_in, outline_in, shown_by, spelled_by, outline_of}
use Rattle.spellings.specs.Rows.{Row, unprefixed, prefixed, table, same, first_in, row_by, slot_of, slot_in, spelling_at, slot_at}
use Rattle.spellings.specs.Bytes.{row_bytes, bytes_of}
use Rattle.spellings.specs.Exact.{is_constant, Takes}
use Rattle.spellings.specs.declared.Slot.{Slot}
use Rattle.spellings.specs.declared.Slot.TheVariants.{Bare, N8}
use Rattle.spellings.proofs.Outline.{both}
use Rattle.spellings.proofs.Spelled.{all_names, one_constant, well_spelled, spelled_constant, spelled_outline}
use Rattle.spellings.proofs.Table.{first_row, row_told}
use Rattle.spellings.proofs.Exact.{row_first}
use Rattle.spellings.proofs.Constants.{Fits, constant_is}

-- the constant of operands; a name where there is none
abbrev pub constant_of : List Shown → Shown
constant_of [] = Named ""
constant_of (Named t ∷ xs) = constant_of xs
constant_of (Of k n ∷ xs) = Of k n

-- what it may be, its number, its text where the next instruction stands at next, and its range
abbrev pub held_slot : Shown → Slot
held_slot (Named t) = Bare
held_slot (Of k n) = slot_of k

abbrev pub held_number : Shown → ℕ
held_number (Named t) = 0
held_number (Of k n) = n

abbrev pub held_text : ℕ → Shown → List ℕ
held_text next (Named t) = []
held_text next (Of k n) = constant_text next k n

abbrev pub FitsIn : Shown → Type 0
FitsIn (Named t) = Unit {0}
FitsIn (Of k n) = Fits k n

slot_in_lem : (xs : List Shown) → slot_in xs ≡ held_slot (constant_of xs)
unfolding slot_in
slot_in_lem [] = refl
slot_in_lem (Named t ∷ xs) = slot_in_lem xs
slot_in_lem (Of k n ∷ xs) = refl

takes_constant : (k : Kind) (t : List ℕ) → is_constant t ≡ true → Takes (slot_of k) t
unfolding slot_of
takes_constant n8 t h = h
takes_constant n16 t h = h
takes_constant at_n16 t h = h
takes_constant at_high t h = h
takes_constant e8 t h = h
takes_constant sp_plus_e8 t h = h
takes_constant target t h = h
takes_constant u3 t h = h
takes_constant vec t h = h

held_takes : (next : ℕ) (x : Shown) → FitsIn x → Takes (held_slot x) (held_text next x)
held_takes next (Named t) h = refl
held_takes next (Of k n) h = takes_constant k (constant_text next k n) (constant_is next k n h)

-- a spelling is the one with its constant's own text in the place of it
module _ (next : ℕ) where
  names_shown : (t : List ℕ) (xs : List Shown) → all_names xs ≡ true → comma_text (shown_text next) xs ≡ comma_text (shown_by t) xs
  unfolding comma_text shown_text shown_by
  names_shown t [] h = refl
  names_shown t (Named x ∷ xs) h = rw (names_shown t xs h)
  names_shown t (Of k n ∷ xs) h = absurd (true≢false (sym h))

  abbrev Shows : List ℕ → List Shown → Type 0
  Shows t xs = comma_text (shown_text next) xs ≡ comma_text (shown_by t) xs

  lead_shown : (x : Shown) (xs : List Shown) → one_constant (x ∷ xs) ≡ true → (one_constant xs ≡ true → Shows (held_text next (constant_of xs)) xs)
      → shown_text next x ++ comma_text (shown_text next) xs ≡ shown_by (held_text next (constant_of (x ∷ xs))) x ++ comma_text (shown_by (held_text next (constant_of (x ∷ xs)))) xs
  unfolding shown_text shown_by
  lead_shown (Named x) xs h known = rw (known h)
  lead_shown (Of k n) xs h known = rw (names_shown (constant_text next k n) xs h)

  comma_shown : (xs : List Shown) → one_constant xs ≡ true → Shows (held_text next (constant_of xs)) xs
  unfolding comma_text
  comma_shown [] h = refl
  comma_shown (x ∷ xs) h = rw (lead_shown x xs h (comma_shown xs))

  operands_shown : (xs : List Shown) → one_constant xs ≡ true → operands_text (shown_text next) xs ≡ operands_text (shown_by (held_text next (constant_of xs))) xs
  unfolding operands_text
  operands_shown [] h = refl
  operands_shown (x ∷ xs) h = rw (lead_shown x xs h (comma_shown xs))

  spelling_shown : (s : Spelling) → one_constant s.operands ≡ true → spelling_text next s ≡ spelled_by (held_text next (constant_of s.operands)) s
  unfolding spelling_text spelled_by spelling_by
  spelling_shown s h = rw (operands_shown s.operands h)

  -- so its line shows the constant and has its outline
  module _ (s : Spelling) (w : well_spelled s ≡ true) (fits : FitsIn (constant_of s.operands)) where
    takes : Takes (slot_in s.operands) (held_text next (constant_of s.operands))
    takes = rw (slot_in_lem s.operands) (held_takes next (constant_of s.operands) fits)

    shown : spelling_text next s ≡ spelled_by (held_text next (constant_of s.operands)) s
    shown = spelling_shown s (both (one_constant s.operands) _ w).0

    shown_constant : constant_in (spelling_text next s) ≡ held_text next (constant_of s.operands)
    shown_constant = rw shown (spelled_constant s w (held_text next (constant_of s.operands)) takes)

    shown_outline : outline_in (spelling_text next s) ≡ outline_of s
    shown_outline = rw shown (spelled_outline s w (held_text next (constant_of s.operands)) takes)

-- the row of an opcode before a byte, in an edition
abbrev pub row_at : ℕ → ℕ → ℕ
row_at op n = number_if (eqb op 0xCB) (256 + n) op

abbrev row_if : Bool → Row → Row → Row
row_if true r other = r
row_if false r other = other

abbrev row_for : Edition → ℕ → ℕ → Row
row_for e op n = row_if (eqb op 0xCB) (prefixed n) (unprefixed e op)

row_number : (t : Bool) (e : Edition) (op n : ℕ) → (row_if t (prefixed n) (unprefixed e op)).number ≡ number_if t (256 + n) op
unfolding number_if prefixed unprefixed
row_number true e op n = refl
row_number false e op n = refl

-- it is in the table
listed_at : (f : ℕ → Row) (n i k : ℕ) → k < n → Memᴰ (f (i + k)) (tabulate f i n)
listed_at f zero i k h = absurd (omega arith)
listed_at f (suc n) i zero h = Memᴰ.head (ap f (add-zero i))
listed_at f (suc n) i (suc k) h =
    let up : i + suc k ≡ suc i + k = omega arith in
    rw up (Memᴰ.tail (listed_at f n (suc i) k (omega arith)))

listed_from : (f : ℕ → Row) (n k : ℕ) → k < n → Memᴰ (f k) (tabulate f 0 n)
listed_from f n k h = rw (zero-add k) at (listed_at f n 0 k h)

listed : (t : Bool) (e : Edition) (op n : ℕ) → op < 256 → n < 256 → Memᴰ (row_if t (prefixed n) (unprefixed e op)) table
unfolding table
listed true e op n h hn =
    Memᴰ.append_right (tabulate (unprefixed New) 0 256) (Memᴰ.append_left _ (listed_from prefixed 256 n hn))
listed false New op n h hn = Memᴰ.append_left _ (listed_from (unprefixed New) 256 op h)
listed false Old op n h hn =
    Memᴰ.append_right (tabulate (unprefixed New) 0 256)
    (Memᴰ.append_right (tabulate prefixed 0 256) (Memᴰ.append_left _ (listed_from (unprefixed Old) 256 op h)))

-- as many bytes of an instruction as it has; STOP has $00 behind it
abbrev pub insn_bytes : ℕ → ℕ → ℕ → ℕ → List ℕ
insn_bytes size op n w =
    text_if (eqb size 1) (op ∷ [])
    (text_if (eqb size 2) (op ∷ number_if (eqb op 0x10) 0x00 n ∷ []) (op ∷ low_of w ∷ high_of w ∷ []))

-- the numbers of constants: the byte behind the opcode, the word, or a part of the opcode
abbrev number_by : ℕ → ℕ → Kind → ℕ → ℕ
number_by n w n8 m = n
number_by n w n16 m = w
number_by n w at_n16 m = w
number_by n w at_high m = n
number_by n w e8 m = n
number_by n w sp_plus_e8 m = n
number_by n w target m = n
number_by n w u3 m = m % 8
number_by n w vec m = m % 256

abbrev held_by : ℕ → ℕ → Shown → Shown
held_by n w (Named t) = Named t
held_by n w (Of k m) = Of k (number_by n w k m)

-- what is computed of an opcode: its outline, that a line shows the place of its constant, what that is and may be, and its bytes
abbrev pub held : Edition → ℕ → ℕ → ℕ → Shown
held e op n w = constant_of (spelling_in e op n w).operands

abbrev pub size : ℕ → ℕ → ℕ → ℕ
size op n w = (shape_of (decode_of op n w)).bytes

record Told : Type 0 where
  outline : List ℕ
  apart : Bool
  slot : Slot
  constant : Shown
  bytes : List ℕ

abbrev nothing : Told
nothing = record { outline = []; apart = true; slot = Bare; constant = Named ""; bytes = [] }

abbrev told_if : Bool → Told → Told
told_if true x = nothing
told_if false x = x

module _ (e : Edition) (op n w : ℕ) where
  abbrev spelling : Spelling
  spelling = spelling_in e op n w

  abbrev undefined : Bool
  undefined = is_undefined (decode_of op n w)

  abbrev row : ℕ
  row = first_row (row_at op n)

  abbrev computed : Told
  computed =
      record {
        outline = outline_of spelling;
        apart = well_spelled spelling && not (same (outline_of spelling) []);
        slot = slot_at row;
        constant = held e op n w;
        bytes = bytes_of row (held_slot (held e op n w)) (held_number (held e op n w));
      }

  abbrev wanted : Told
  wanted =
      record {
        outline = outline_of (row_for e op n).spelling;
        apart = true;
        slot = held_slot (held e op n w);
        constant = held_by n w (held e op n w);
        bytes = insn_bytes (size op n w) op (low_of n) w;
      }

  abbrev one : Told
  one = told_if undefined computed

  abbrev other : Told
  other = told_if undefined wanted

told : (e : Edition) (op n w : ℕ) → op < 256 → n < 256 → one e op n w ≡ other e op n w
unfolding grid shapes spellings ascii number_if text_if low_of high_of row_bytes bytes_of slot_of spelling_at slot_in slot_at unprefixed prefixed shown_by spelled_by outline_of same begins ends
told Old = each_opcode (one Old) (other Old) nothing (λ n w. refl) (λ w. refl)
told New = each_opcode (one New) (other New) nothing (λ n w. refl) (λ w. refl)

-- only the target of JR looks at the address of the next instruction, and JR has two bytes
abbrev text_at : Edition → ℕ → ℕ → ℕ → ℕ → List ℕ
text_at e next op n w = held_text next (held e op n w)

abbrev text_behind : Edition → ℕ → ℕ → ℕ → ℕ → List ℕ
text_behind e a op n w = text_at e (further (size op n w) a) op n w

pub next_is : (e : Edition) (a op n w : ℕ) → op < 256 → n < 256
    → held_text (further (size op n w) a) (held e op n w) ≡ held_text (further 2 a) (held e op n w)
unfolding grid shapes spellings ascii
next_is Old a = each_opcode (text_behind Old a) (text_at Old (further 2 a)) [] (λ n w. refl) (λ w. refl)
next_is New a = each_opcode (text_behind New a) (text_at New (further 2 a)) [] (λ n w. refl) (λ w. refl)

-- every constant is in its range
number_fits : (n w : ℕ) → n < 256 → w < 65536 → (k : Kind) (m : ℕ) → Fits k (number_by n w k m)
number_fits n w h hw n8 m = h
number_fits n w h hw n16 m = hw
number_fits n w h hw at_n16 m = hw
number_fits n w h hw at_high m = h
number_fits n w h hw e8 m = h
number_fits n w h hw sp_plus_e8 m = h
number_fits n w h hw target m = h
number_fits n w h hw u3 m = omega arith
number_fits n w h hw vec m = omega arith

held_fits : (n w : ℕ) → n < 256 → w < 65536 → (x : Shown) → FitsIn (held_by n w x)
held_fits n w h hw (Named t) = tt
held_fits n w h hw (Of k m) = number_fits n w h hw k m

-- what holds of the spelling of a defined opcode before a byte and a word, where the next instruction stands at next
pub record Recovered (e : Edition) (next op n w : ℕ) : Type 0 where
  pub text : constant_in (spelling_text next (spelling_in e op n w)) ≡ held_text next (held e op n w)
  pub row : row_by (outline_in (spelling_text next (spelling_in e op n w))) ≡ first_row (row_at op n)
  pub slot : slot_at (first_row (row_at op n)) ≡ held_slot (held e op n w)
  pub fits : FitsIn (held e op n w)
  pub bytes : bytes_of (first_row (row_at op n)) (held_slot (held e op n w)) (held_number (held e op n w)) ≡ insn_bytes (size op n w) op n w

module _ (e : Edition) (next op n w : ℕ) (h : op < 256) (hn : n < 256) (hw : w < 65536) (d : is_undefined (decode_of op n w) ≡ false) where
  all : computed e op n w ≡ wanted e op n w
  all = rw d at (told e op n w h hn)

  apart : (well_spelled (spelling_in e op n w) && not (same (outline_of (spelling_in e op n w)) [])) ≡ true
  apart = ap (λ (t : Told). t.apart) all

  outline : outline_of (spelling_in e op n w) ≡ outline_of (row_for e op n).spelling
  outline = ap (λ (t : Told). t.outline) all

  some : outline_of (spelling_in e op n w) ≢ []
  unfolding same
  some empty =
      let unlike = not-true (same (outline_of (spelling_in e op n w)) []) (both (well_spelled (spelling_in e op n w)) _ apart).1 in
      true≢false (rw empty at unlike)

  row_is : row_by (outline_of (spelling_in e op n w)) ≡ first_row (row_at op n)
  row_is =
      let some_row : outline_of (row_for e op n).spelling ≢ [] = λ empty. some (outline ∙ empty) in
      ap row_by outline
      ∙ row_first (outline_of (row_for e op n).spelling) some_row
      ∙ (row_told (row_for e op n) (listed (eqb op 0xCB) e op n h hn) some_row).first
      ∙ ap first_row (row_number (eqb op 0xCB) e op n)

  pub recovered : Recovered e next op n w
  unfolding low_of
  recovered =
      let well = (both (well_spelled (spelling_in e op n w)) _ apart).0 in
      let fits : FitsIn (held e op n w) = rw (ap (λ (t : Told). t.constant) all) (held_fits n w hn hw (held e op n w)) in
      record {
        text = shown_constant next (spelling_in e op n w) well fits;
        row = ap row_by (shown_outline next (spelling_in e op n w) well fits) ∙ row_is;
        slot = ap (λ (t : Told). t.slot) all;
        fits = fits;
        bytes = ap (λ (t : Told). t.bytes) all ∙ ap (λ b. insn_bytes (size op n w) op b w) (mod-eq_of_lt hn);
      }

-- and of a byte of data
pub record RecoveredData (next b : ℕ) : Type 0 where
  pub text : constant_in (spelling_text next (data_of b)) ≡ constant_text next n8 b
  pub row : row_by (outline_in (spelling_text next (data_of b))) ≡ 512
  pub slot : slot_at 512 ≡ N8
  pub bytes : bytes_of 512 N8 b ≡ b ∷ []

data_well : (b : ℕ) → well_spelled (data_of b) ≡ true
unfolding spellings ascii begins ends
data_well b = refl

data_row : (b : ℕ) → row_by (outline_of (data_of b)) ≡ 512
unfolding grid spellings ascii number_if shown_by spelled_by outline_of unprefixed prefixed table same first_in row_by
data_row b = refl

data_slot : slot_at 512 ≡ N8
unfolding spellings slot_of slot_in spelling_at slot_at
data_slot = refl

data_bytes : (b : ℕ) → b < 256 → bytes_of 512 N8 b ≡ b ∷ []
unfolding bytes_of row_bytes text_if low_of
data_bytes b h = ap (λ n. n ∷ []) (mod-eq_of_lt h)

pub recovered_data : (next b : ℕ) → b < 256 → RecoveredData next b
recovered_data next b h =
    record {
      text = shown_constant next (data_of b) (data_well b) h;
      row = ap row_by (shown_outline next (data_of b) (data_well b) h) ∙ data_row b;
      slot = data_slot;
      bytes = data_bytes b h;
    }

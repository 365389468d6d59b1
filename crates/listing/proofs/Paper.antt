-- The definition spells all 512 rows as the instruction reference does, in both editions, and these differ in eight rows.
-- Assumes nothing.
use Prim.Native.Nat.{ℕ, suc, ◌-◌, ◌<◌}
use Prim.Native.String.{String}
use mathlib.Core.Bool.{Bool, true, false, ◌||◌}
use mathlib.Core.List.{List, [], ◌∷◌, map}
use mathlib.Core.Path.{◌≡◌, refl}
use lib.Dec.{eqb, ltb}
use Rattle.arith.specs.Width.{sum_of, difference_of}
use Rattle.arith.specs.Words.{word_of, offset_by, offset_of}
use Rattle.digits.specs.Ascii.{ascii}
use Rattle.digits.specs.Digits.{digits_of}
use Rattle.digits.specs.Numerals.{glyph_of, hex_text, width_if, width_of, decimal_text}
use Rattle.insn.specs.Grid.{grid}
use Rattle.insn.proofs.Entries.{tabulate}
use Rattle.listing.specs.Spelling.{Spelling, alone, spellings, changed_if, spelling_in, spelling_text}
use Rattle.listing.specs.Forms.{text_if}
use Rattle.listing.specs.Paper.{typed, typed_low, typed_high, Retyped, typed_old}
use Rattle.listing.specs.declared.Edition.{Edition}
use Rattle.listing.specs.declared.Edition.TheVariants.{Old, New}
use Rattle.listing.proofs.Opcodes.{each_opcode}

-- the spelling of a row in an edition, with the byte n and the word w after it; row $CB has none
abbrev unprefixed_or : Bool → Edition → ℕ → ℕ → ℕ → Spelling
unprefixed_or true e n w k = alone ""
unprefixed_or false e n w k = spelling_in e k n w

abbrev either_or : Bool → Edition → ℕ → ℕ → ℕ → Spelling
either_or true e n w k = unprefixed_or (eqb k 0xCB) e n w k
either_or false e n w k = spelling_in e 0xCB (k - 256) w

-- its text at $0150; only JR looks at the address, and has two bytes
abbrev row_spelled : Edition → ℕ → ℕ → ℕ → List ℕ
row_spelled e n w k = spelling_text 0x0152 (either_or (ltb k 256) e n w k)

pub paper_spellings : tabulate (row_spelled New 0x34 0x1234) 0 512 ≡ map ascii typed
unfolding sum_of difference_of word_of offset_by offset_of ascii digits_of glyph_of hex_text width_if width_of decimal_text grid spellings typed
paper_spellings = refl

pub paper_negative : (tabulate (row_spelled New 0xFB 0xFFFB) 0 64 ≡ map ascii typed_low) × (tabulate (row_spelled New 0xFB 0xFFFB) 0xC0 64 ≡ map ascii typed_high)
unfolding sum_of difference_of word_of offset_by offset_of ascii digits_of glyph_of hex_text width_if width_of decimal_text grid spellings typed_low typed_high
paper_negative = (refl, refl)

-- edition 1 is the same table with the rows that were typed for it in their places
abbrev text_at : List Retyped → ℕ → List ℕ → List ℕ
text_at [] k t = t
text_at (r ∷ rs) k t = text_if (eqb k r.row) (ascii r.text) (text_at rs k t)

abbrev retyped : List Retyped → ℕ → List String → List (List ℕ)
retyped rows k [] = []
retyped rows k (t ∷ ts) = text_at rows k (ascii t) ∷ retyped rows (suc k) ts

pub paper_old : tabulate (row_spelled Old 0x34 0x1234) 0 512 ≡ retyped typed_old 0 typed
unfolding sum_of difference_of word_of offset_by offset_of ascii digits_of glyph_of hex_text width_if width_of decimal_text grid spellings typed typed_old text_if
paper_old = refl

-- and it differs in these rows and nowhere else, whatever follows the opcode
abbrev is_old : List Retyped → ℕ → Bool
is_old [] op = false
is_old (r ∷ rs) op = eqb op r.row || is_old rs op

abbrev unless_old : ℕ → Spelling → Spelling
unless_old op s = changed_if (is_old typed_old op) (alone "") s

spelled_alike : (op n w : ℕ) → op < 256 → n < 256 → unless_old op (spelling_in Old op n w) ≡ unless_old op (spelling_in New op n w)
unfolding grid spellings typed_old
spelled_alike =
    each_opcode (λ op n w. unless_old op (spelling_in Old op n w)) (λ op n w. unless_old op (spelling_in New op n w)) (alone "")
    (λ n w. refl) (λ w. refl)

pub same_elsewhere : (op n w : ℕ) → op < 256 → n < 256 → is_old typed_old op ≡ false → spelling_in Old op n w ≡ spelling_in New op n w
unfolding changed_if
same_elsewhere op n w h hn e = rw e at (spelled_alike op n w h hn)

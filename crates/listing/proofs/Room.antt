-- A listing has at most 19 characters for each byte listed, which is the room that a host makes for it.
-- Assumes nothing.
use Prim.Native.Nat.{ℕ, zero, suc, ◌-◌, ◌*◌, ◌≤◌}
use mathlib.Core.List.{List, [], ◌∷◌}
use mathlib.Core.Path.{◌≡◌, refl}
use native.Mathlib.Omega.{arith}
use lib.ListN.{length, length-append}
use Rattle.arith.specs.Width.{sum_of}
use Rattle.arith.specs.Words.{word_of, further}
use Rattle.digits.specs.Ascii.{ascii}
use Rattle.digits.specs.Digits.{digits_of, byte_in}
use Rattle.digits.specs.Numerals.{glyph_of, hex_text}
use Rattle.digits.proofs.Digits.{below_rest}
use Rattle.digits.proofs.Places.{ByteList}
use Rattle.insn.specs.Grid.{grid}
use Rattle.insn.specs.Shapes.{shapes}
use Rattle.listing.specs.Spelling.{spellings}
use Rattle.listing.specs.Lines.{lines, line_of, lines_from, lines_of, joined, line_text, listing_of, most_listed}
use Rattle.listing.specs.declared.Edition.{Edition}
use Rattle.listing.specs.declared.Edition.TheVariants.{Old, New}
use Rattle.listing.proofs.Short.{line_short}
use Rattle.listing.proofs.Whole.{bytes_of, every_byte}

most_from : (e : Edition) (a few : ℕ) (bytes : List ℕ) → ByteList bytes
    → length (joined line_text (lines_from e a few bytes)) ≤ most_listed * length (bytes_of (lines_from e a few bytes))
unfolding lines_from joined byte_in
most_from e a few [] p = omega arith
most_from e a (suc few) (b ∷ bytes) p = most_from e (further 1 a) few bytes (below_rest p)
most_from e a zero (b ∷ bytes) p =
    let line = line_of e a (b ∷ bytes) in
    let others = lines_from e (further 1 a) (length line.bytes - 1) bytes in
    let rest = most_from e (further 1 a) (length line.bytes - 1) bytes (below_rest p) in
    let here = (line_short e a (b ∷ bytes) (omega arith) (p.at 0) (p.at 1)).1 in
    let text = length-append (line_text line) (joined line_text others) in
    let size = length-append line.bytes (bytes_of others) in
    omega (arith, rest, here, text, size)

pub listing_most : (e : Edition) (first : ℕ) (part : List ℕ) → ByteList part → length (listing_of e first part) ≤ most_listed * length part
unfolding listing_of lines_of
listing_most e first part p = rw (every_byte e first part) at (most_from e first 0 part p)

-- and fewer would not do, in either: LD [HLI],A and LDI [HL],A are one byte
pub listing_tight : (e : Edition) → length (listing_of e 0 (0x22 ∷ [])) ≡ most_listed
unfolding further sum_of word_of ascii digits_of byte_in glyph_of hex_text grid shapes spellings lines
listing_tight Old = refl
listing_tight New = refl

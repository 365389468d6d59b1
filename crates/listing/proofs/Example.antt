-- The request's own example, M-101 in document 02, computed on the definition: bytes 20 F8 D3 from $0150.
-- Assumes nothing.
use mathlib.Core.List.{[], ◌∷◌, ◌++◌}
use mathlib.Core.Path.{◌≡◌, refl}
use Rattle.arith.specs.Width.{sum_of, difference_of}
use Rattle.arith.specs.Words.{word_of, further, offset_by, offset_of}
use Rattle.digits.specs.Ascii.{ascii, newline}
use Rattle.digits.specs.Digits.{digits_of, byte_in}
use Rattle.digits.specs.Numerals.{glyph_of, hex_text}
use Rattle.insn.specs.Grid.{grid}
use Rattle.insn.specs.Shapes.{shapes}
use Rattle.listing.specs.Spelling.{spellings}
use Rattle.listing.specs.Lines.{lines, listing_of}
use Rattle.listing.specs.declared.Edition.TheVariants.{New}

pub m_101 : listing_of New 0x0150 (0x20 ∷ 0xF8 ∷ 0xD3 ∷ [])
    ≡ ascii "0150 20F8 JR NZ,$014A" ++ (newline ∷ ascii "0152 D3 DB $D3" ++ (newline ∷ []))
unfolding sum_of difference_of word_of further offset_by offset_of ascii digits_of byte_in glyph_of hex_text grid shapes spellings lines
m_101 = refl

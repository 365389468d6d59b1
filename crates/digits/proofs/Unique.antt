-- Each public promise determines its answer: as in the crate arith, of `Post`.
-- Assumes nothing.
use Rattle.arith.proofs.Unique.{same, OneAnswer}
use Rattle.digits.proofs.numbers.number.Reads as number
use Rattle.digits.proofs.glyphs.glyph.Reads as glyph

pub number_unique : OneAnswer number.Post
number_unique _ _ _ _ _ _ = same

pub glyph_unique : OneAnswer glyph.Post
glyph_unique _ _ _ _ _ _ = same

-- `byte` writes the high digit, then the low one.
use native.Mathlib.Nat.{div-one}
use Rattle.digits.specs.Digits.{digits_of}
use Rattle.digits.specs.Numerals.{hex_text}
use Rattle.listing.proofs.Writers.{after}
use Rattle.listing.proofs.writing.Writer.byte.Goals as goal

pub returns : goal.returns
unfolding hex_text digits_of
returns c = rw div-one (after (rw c.glyph.ensures at c.push.ensures) (rw c.glyph-2.ensures at c.push-2.ensures))

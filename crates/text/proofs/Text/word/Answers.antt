-- `word` meets its contract.
use Rattle.text.specs.Answer.{word_then}
use native.Mathlib.Nat.{div-one}
use Rattle.digits.specs.Digits.{digits_of}
use Rattle.digits.specs.Numerals.{hex_text}
use Rattle.text.specs.Written.{written}
use Rattle.text.proofs.Text.word.Goals as goal

pub returns : goal.returns
unfolding word_then hex_text digits_of written
returns c =
    simp (
      c.push-5.ensures,
      c.push-4.ensures,
      c.glyph-4.ensures,
      c.push-3.ensures,
      c.glyph-3.ensures,
      c.push-2.ensures,
      c.glyph-2.ensures,
      c.push.ensures,
      c.glyph.ensures,
      div-one,
    )

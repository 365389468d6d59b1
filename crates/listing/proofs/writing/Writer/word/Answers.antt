-- `word` writes the high byte, then the low one.
use Prim.Native.Nat.{ℕ, ◌/◌, ◌%◌, ◌^◌}
use mathlib.Core.List.{[], ◌∷◌, ◌++◌}
use mathlib.Core.Path.{◌≡◌}
use native.Mathlib.Omega.{arith}
use Rattle.arith.specs.Words.{high_of, low_of}
use Rattle.digits.specs.Digits.{digits_of}
use Rattle.digits.specs.Numerals.{glyph_of, hex_text}
use Rattle.listing.proofs.Writers.{after}
use Rattle.listing.proofs.writing.Writer.word.Goals as goal

-- a word's digits are those of its bytes
word_digits : (v : ℕ) → hex_text 4 v ≡ hex_text 2 (high_of v) ++ hex_text 2 (low_of v)
unfolding hex_text digits_of high_of low_of
word_digits v =
    let a : v / 16 ^ 3 % 16 ≡ v / 256 % 256 / 16 ^ 1 % 16 = omega arith in
    let b : v / 16 ^ 2 % 16 ≡ v / 256 % 256 / 16 ^ 0 % 16 = omega arith in
    let c : v / 16 ^ 1 % 16 ≡ v % 256 / 16 ^ 1 % 16 = omega arith in
    let d : v / 16 ^ 0 % 16 ≡ v % 256 / 16 ^ 0 % 16 = omega arith in
    λ i. glyph_of (a i) ∷ glyph_of (b i) ∷ glyph_of (c i) ∷ glyph_of (d i) ∷ []

pub returns : goal.returns
returns c = rw (word_digits _) (after (rw c.high.ensures at c.byte.ensures) (rw c.low.ensures at c.byte-2.ensures))

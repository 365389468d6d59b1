-- The line that bytes begin with has at most 26 characters, and at most 19 for each of its bytes.
-- Assumes nothing.
use Prim.Native.Nat.{ℕ, ◌+◌, ◌*◌, ◌≤◌, ◌<◌}
use mathlib.Core.Bool.{Bool, true, false}
use mathlib.Core.List.{List, [], ◌∷◌}
use mathlib.Core.Path.{◌≡◌, refl}
use native.Mathlib.Omega.{arith}
use lib.ListN.{length, length-append}
use lib.Seq.{length-take-le}
use Rattle.arith.specs.Words.{word_of, further}
use Rattle.digits.specs.Ascii.{ascii}
use Rattle.digits.specs.Digits.{digits_of, byte_in}
use Rattle.digits.specs.Numerals.{hex_text}
use Rattle.insn.specs.Shapes.{is_undefined}
use Rattle.listing.specs.Spelling.{spellings, data_of, spelling_text}
use Rattle.listing.specs.Lines.{Line, insn_in, spelled_in, size_in, is_data, line_if, line_of, joined, bytes_text, line_text, most_listed}
use Rattle.listing.specs.declared.Edition.{Edition}
use Rattle.listing.proofs.Bounds.{insn_most}
use Rattle.listing.proofs.Order.{or_left, whole}

bytes_length : (bytes : List ℕ) → length (joined (hex_text 2) bytes) ≡ 2 * length bytes
unfolding joined hex_text digits_of
bytes_length [] = refl
bytes_length (b ∷ bytes) = omega (arith, bytes_length bytes)

line_length_lem : (l : Line) → length (line_text l) ≡ 7 + 2 * length l.bytes + length l.spelling
unfolding line_text bytes_text hex_text digits_of
line_length_lem l = simp (length-append) (omega (arith, bytes_length l.bytes))

data_length : (next b : ℕ) → length (spelling_text next (data_of b)) ≡ 6
unfolding spellings ascii hex_text digits_of
data_length next b = refl

abbrev Short : Line → Type 0
Short l = (length (line_text l) ≤ 26) × (length (line_text l) ≤ most_listed * length l.bytes)

module _ (e : Edition) (a : ℕ) (bytes : List ℕ) (some : 0 < length bytes) (first : byte_in 0 bytes < 256) (second : byte_in 1 bytes < 256) where
  abbrev insn_length : ℕ
  insn_length = 7 + 2 * size_in bytes + length (line_if false e a bytes).spelling

  insn_length_lem : is_data bytes ≡ false → (insn_length ≤ 26) × (insn_length ≤ most_listed * size_in bytes)
  unfolding line_if size_in spelled_in insn_in is_data
  insn_length_lem d =
      insn_most e (byte_in 0 bytes) (byte_in 1 bytes) (word_of (byte_in 2 bytes) (byte_in 1 bytes)) (further (size_in bytes) a) first second
      (or_left (is_undefined (insn_in bytes)) _ d)

  short_if : (t : Bool) → is_data bytes ≡ t → Short (line_if t e a bytes)
  unfolding line_if
  short_if true d =
      let text = line_length_lem (line_if true e a bytes) in
      let size = length-take-le 1 bytes some in
      let spelled = data_length (further 1 a) (byte_in 0 bytes) in
      (omega (arith, text, size, spelled), omega (arith, text, size, spelled))
  short_if false d =
      let text = line_length_lem (line_if false e a bytes) in
      let size = length-take-le (size_in bytes) bytes (whole bytes d) in
      let spelled = insn_length_lem d in
      (omega (arith, text, size, spelled.0), omega (arith, text, size, spelled.1))

  pub line_short : Short (line_of e a bytes)
  unfolding line_of
  line_short = short_if (is_data bytes) refl

-- The lines of a part of any length, from its first address on: an instruction or a byte of data each, and every byte once.
-- Document 02, M-101 and M-102.
-- Assumes nothing.
use Rattle.std.specs.Prelude.{ℕ, zero, suc, ◌-◌, Bool, true, false, ◌||◌, ◌&&◌, not, List, [], ◌∷◌, ◌++◌, eqb, ltb, length, take}
use Rattle.arith.specs.Words.{word_of, further}
use Rattle.digits.specs.Ascii.{space, newline}
use Rattle.digits.specs.Digits.{byte_in}
use Rattle.digits.specs.Numerals.{hex_text}
use Rattle.insn.specs.Grid.{decode_of}
use Rattle.insn.specs.Shapes.{shape_of, is_undefined}
use Rattle.insn.specs.declared.Insn.{Insn}
use Rattle.listing.specs.Spelling.{Spelling, spelling_in, data_of, spelling_text}
use Rattle.listing.specs.declared.Edition.{Edition}

-- a line: its address, its bytes and its spelling
pub record Line : Type 0 where
  pub address : ℕ
  pub bytes : List ℕ
  pub spelling : List ℕ

-- the instruction that the bytes begin with; what lies past the end counts as 0
unfoldable pub insn_in : List ℕ → Insn
insn_in bytes = decode_of (byte_in 0 bytes) (byte_in 1 bytes) (word_of (byte_in 2 bytes) (byte_in 1 bytes))

-- what an edition spells it
unfoldable pub spelled_in : Edition → List ℕ → Spelling
spelled_in e bytes = spelling_in e (byte_in 0 bytes) (byte_in 1 bytes) (word_of (byte_in 2 bytes) (byte_in 1 bytes))

-- how many bytes it has
unfoldable pub size_in : List ℕ → ℕ
size_in bytes = (shape_of (insn_in bytes)).bytes

-- data: an undefined byte, the first byte of an instruction cut by the end, and a $10 not followed by $00
unfoldable pub is_data : List ℕ → Bool
is_data bytes =
    is_undefined (insn_in bytes)
    || (ltb (length bytes) (size_in bytes) || (eqb (byte_in 0 bytes) 0x10 && not (eqb (byte_in 1 bytes) 0x00)))

-- the line that the bytes begin with
unfoldable pub line_if : Bool → Edition → ℕ → List ℕ → Line
line_if true e a bytes =
    record { address = a; bytes = take 1 bytes; spelling = spelling_text (further 1 a) (data_of (byte_in 0 bytes)) }
line_if false e a bytes =
    record {
      address = a;
      bytes = take (size_in bytes) bytes;
      spelling = spelling_text (further (size_in bytes) a) (spelled_in e bytes);
    }

unfoldable pub line_of : Edition → ℕ → List ℕ → Line
line_of e a bytes = line_if (is_data bytes) e a bytes

-- the lines of bytes of which the first stands at a, and the first few still belong to the line before; reading goes on behind it
unfoldable pub lines_from : Edition → ℕ → ℕ → List ℕ → List Line
lines_from e a few [] = []
lines_from e a (suc few) (b ∷ bytes) = lines_from e (further 1 a) few bytes
lines_from e a zero (b ∷ bytes) =
    line_of e a (b ∷ bytes) ∷ lines_from e (further 1 a) (length (line_of e a (b ∷ bytes)).bytes - 1) bytes

unfoldable pub lines_of : Edition → ℕ → List ℕ → List Line
lines_of e first part = lines_from e first 0 part

-- the texts of each, one after the other
unfoldable pub joined : {A : Type 0} → (A → List ℕ) → List A → List ℕ
joined text [] = []
joined text (x ∷ xs) = text x ++ joined text xs

-- the text of a line: four digits of the address, a space, the bytes, a space, the spelling and a newline
unfoldable pub bytes_text : List ℕ → List ℕ
bytes_text bytes = joined (hex_text 2) bytes

unfoldable pub line_text : Line → List ℕ
line_text l =
    hex_text 4 l.address ++ (space ∷ (bytes_text l.bytes ++ (space ∷ (l.spelling ++ (newline ∷ [])))))

-- the listing
unfoldable pub listing_of : Edition → ℕ → List ℕ → List ℕ
listing_of e first part = joined line_text (lines_of e first part)

-- the most characters for each byte listed (the law `listing_most`), by which a host makes room
abbrev pub most_listed : ℕ
most_listed = 19

-- opens the lines in a proof
unfoldable pub lines : Unit {0}
unfolding insn_in spelled_in size_in is_data line_if line_of lines_from lines_of joined bytes_text line_text listing_of
lines = tt

-- A whole listing's spellings, assembled from its first address, give its bytes back. Document 02, M-103: in either edition, for every part
-- and every first address.
-- Assumes nothing.
use Rattle.std.specs.Prelude.{ℕ, ◌≤◌, ◌<◌, List, [], ◌∷◌, ◌++◌, ◌≡◌, length, drop}
use Rattle.digits.specs.Ascii.{newline}
use Rattle.digits.proofs.Places.{ByteList}
use Rattle.listing.specs.Lines.{Line, lines_of, joined}
use Rattle.listing.specs.declared.Edition.{Edition}
use Rattle.assembler.specs.Text.{Answer, assemble_of}

-- the spellings of lines, each with its newline
unfoldable pub spelled_line : Line → List ℕ
spelled_line l = l.spelling ++ (newline ∷ [])

unfoldable pub spelled_lines : List Line → List ℕ
spelled_lines lines = joined spelled_line lines

-- an answer that is done, with bytes at the front of an output
abbrev pub done_with : List ℕ → List ℕ → Answer
done_with bytes out =
    record { assembled = record { code = 0; line = 0; length = length bytes }; out = bytes ++ drop (length bytes) out }

abbrev pub GivesBack : Type 0
GivesBack =
    (e : Edition) (first : ℕ) (part out : List ℕ) → first < 65536 → ByteList part → length part ≤ length out
    → assemble_of first (spelled_lines (lines_of e first part)) out ≡ done_with part out

-- A line's address and spelling determine its bytes. Document 02, M-102: once over both editions, also where one line is of the old
-- edition and the other of the new.
-- Assumes nothing.
use Rattle.std.specs.Prelude.{ℕ, ◌<◌, List, map, ◌≡◌, length}
use Rattle.digits.proofs.Places.{ByteList}
use Rattle.listing.specs.Lines.{Line, line_of, lines_of}
use Rattle.listing.specs.declared.Edition.{Edition}

-- a line that a listing of an edition can have: the first of some bytes
pub record LineIn (e : Edition) (l : Line) : Type 0 where
  pub bytes : List ℕ
  pub some : 0 < length bytes
  pub each : ByteList bytes
  pub is : l ≡ line_of e l.address bytes

-- lines at one address and with one spelling have the same bytes
abbrev pub LineDetermined : Type 0
LineDetermined =
    (e e' : Edition) (l l' : Line) → LineIn e l → LineIn e' l' → l.address ≡ l'.address → l.spelling ≡ l'.spelling
    → l.bytes ≡ l'.bytes

-- the spellings of lines
abbrev pub spellings_of : List Line → List (List ℕ)
spellings_of lines = map (λ (l : Line). l.spelling) lines

-- parts with the same first address and the same spellings are the same bytes
abbrev pub PartDetermined : Type 0
PartDetermined =
    (e e' : Edition) (first : ℕ) (part part' : List ℕ) → first < 65536 → ByteList part → ByteList part'
    → spellings_of (lines_of e first part) ≡ spellings_of (lines_of e' first part') → part ≡ part'

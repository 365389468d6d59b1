-- Which line a refusal names, and when a text is done: the first line at fault, all those above it having bytes for which there is room.
-- Document 02, M-103.
-- Assumes nothing.
use Rattle.std.specs.Prelude.{ℕ, ◌+◌, ◌-◌, ◌≤◌, ◌<◌, List, [], ◌∷◌, ◌++◌, ◌≢◌, ◌≡◌, length}
use Rattle.arith.specs.Words.{further}
use Rattle.assembler.specs.Lines.{Fault, Bytes, verdict_of}
use Rattle.assembler.specs.Text.{text_of, Refused, Done, outcome_of}

-- lines from an address on that are not at fault, and the bytes of all
pub data GoodLines : List (List ℕ) → ℕ → List ℕ → Type 0 where
  no_line : {a : ℕ} → GoodLines [] a []
  a_line : {l : List ℕ} {ls : List (List ℕ)} {a : ℕ} {bytes more : List ℕ} → verdict_of a l ≡ Bytes bytes
      → GoodLines ls (further (length bytes) a) more → GoodLines (l ∷ ls) a (bytes ++ more)

-- a line that is at fault at an address with so much room: by its own refusal, or by 10 where its bytes do not all fit
pub data FaultIn (l : List ℕ) (a room : ℕ) : ℕ → Type 0 where
  own : {n : ℕ} → verdict_of a l ≡ Fault n → FaultIn l a room n
  no_room : {bytes : List ℕ} → verdict_of a l ≡ Bytes bytes → room < length bytes → FaultIn l a room 10

-- what is at fault behind lines: the next one, or, behind the last, a line without its newline
pub data FaultBehind (lines : List (List ℕ)) (rest : List ℕ) (a room : ℕ) : ℕ → Type 0 where
  in_line : {l : List ℕ} {more : List (List ℕ)} {n : ℕ} → lines ≡ l ∷ more → FaultIn l a room n → FaultBehind lines rest a room n
  in_rest : {c : ℕ} {cs : List ℕ} → lines ≡ [] → rest ≡ c ∷ cs → FaultBehind lines rest a room 12

-- the first fault of a text: the lines above it, their bytes, and what is at fault behind them
pub record FirstFault (first : ℕ) (text : List ℕ) (room n line : ℕ) : Type 0 where
  pub above : List (List ℕ)
  pub behind : List (List ℕ)
  pub bytes : List ℕ
  pub lines : (text_of text).lines ≡ above ++ behind
  pub good : GoodLines above first bytes
  pub fits : length bytes ≤ room
  pub number : line ≡ length above + 1
  pub fault : FaultBehind behind (text_of text).rest (further (length bytes) first) (room - length bytes) n

-- a refusal is that of the first fault, and the first fault is refused
abbrev pub Refuses : Type 0
Refuses =
    (first : ℕ) (text : List ℕ) (room n line : ℕ) → first < 65536 → outcome_of first text room ≡ Refused n line → FirstFault first text room n line

abbrev pub IsRefused : Type 0
IsRefused =
    (first : ℕ) (text : List ℕ) (room n line : ℕ) → first < 65536 → FirstFault first text room n line → outcome_of first text room ≡ Refused n line

-- a text is done exactly where every line has bytes, nothing is left behind the last newline, and there is room for all
pub record AllGood (first : ℕ) (text : List ℕ) (room : ℕ) (bytes : List ℕ) : Type 0 where
  pub good : GoodLines (text_of text).lines first bytes
  pub ended : (text_of text).rest ≡ []
  pub fits : length bytes ≤ room

abbrev pub Completes : Type 0
Completes = (first : ℕ) (text : List ℕ) (room : ℕ) (bytes : List ℕ) → outcome_of first text room ≡ Done bytes → AllGood first text room bytes

abbrev pub IsDone : Type 0
IsDone = (first : ℕ) (text : List ℕ) (room : ℕ) (bytes : List ℕ) → AllGood first text room bytes → outcome_of first text room ≡ Done bytes

-- room of as many bytes as the text has characters is always enough: then no line is refused with 10
abbrev pub Enough : Type 0
Enough =
    (first : ℕ) (text : List ℕ) (room n line : ℕ) → first < 65536 → length text ≤ room → outcome_of first text room ≡ Refused n line → n ≢ 10

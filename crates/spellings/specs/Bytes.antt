-- The bytes of a row and a number. Document 01, "The opcode grid".
-- Assumes nothing.
use Rattle.std.specs.Prelude.{ℕ, ◌+◌, ◌-◌, ◌*◌, List, [], ◌∷◌, ◌++◌, eqb, ltb}
use Rattle.arith.specs.Words.{low_of, high_of}
use Rattle.listing.specs.Forms.{text_if}
use Rattle.spellings.specs.declared.Slot.{Slot}
use Rattle.spellings.specs.declared.Slot.TheVariants.{Bare, N8, N16, High, E8, Target, U3, Vec}

-- the bytes of a row: the prefix too, and STOP's second byte; data has none of its own
unfoldable pub row_bytes : ℕ → List ℕ
row_bytes row =
    text_if (eqb row 0x10) (0x10 ∷ 0x00 ∷ [])
    (text_if (ltb row 256) (row ∷ []) (text_if (ltb row 512) (0xCB ∷ (row - 256) ∷ []) []))

-- a constant stands behind them, low byte first, or in the opcode
unfoldable pub bytes_of : ℕ → Slot → ℕ → List ℕ
bytes_of row Bare n = row_bytes row
bytes_of row N8 n = row_bytes row ++ (low_of n ∷ [])
bytes_of row N16 n = row_bytes row ++ (low_of n ∷ high_of n ∷ [])
bytes_of row High n = row_bytes row ++ (low_of n ∷ [])
bytes_of row E8 n = row_bytes row ++ (low_of n ∷ [])
bytes_of row Target n = row_bytes row ++ (low_of n ∷ [])
bytes_of row U3 n = row_bytes (row + 8 * n)
bytes_of row Vec n = row_bytes (row + n)

-- the row that the opcode of a row and a number has
unfoldable pub counted : ℕ → Slot → ℕ → ℕ
counted row Bare n = row
counted row N8 n = row
counted row N16 n = row
counted row High n = row
counted row E8 n = row
counted row Target n = row
counted row U3 n = row + 8 * n
counted row Vec n = row + n

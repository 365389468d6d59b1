-- Document 01, "The table of 512 rows": rows 0 to 255 unprefixed, 256 to 511 for the byte after $CB. Undefined rows, row $CB
-- and any row number above 511 give 0 and 0.
-- Assumes nothing.
use Rattle.std.specs.Prelude.{ℕ, ◌-◌, Bool, true, false, eqb, ltb}
use Rattle.insn.specs.Grid.{decode_of, prefixed_of}
use Rattle.insn.specs.Shapes.{shape_of}
use Rattle.insn.specs.declared.Insn.{Insn}
use Rattle.insn.specs.declared.Insn.TheVariants.{Undefined}

-- a row below 256 that is not the prefix
unfoldable pub unprefixed_row : Bool → ℕ → Insn
unprefixed_row true k = Undefined
unprefixed_row false k = decode_of k 0 0

-- a row from 256 up
unfoldable pub prefixed_row : Bool → ℕ → Insn
prefixed_row true k = prefixed_of (k - 256)
prefixed_row false k = Undefined

unfoldable pub either_row : Bool → ℕ → Insn
either_row true k = unprefixed_row (eqb k 0xCB) k
either_row false k = prefixed_row (ltb k 512) k

unfoldable pub row_of : ℕ → Insn
row_of k = either_row (ltb k 256) k

unfoldable pub length_of : ℕ → ℕ
length_of k = (shape_of (row_of k)).bytes

unfoldable pub untaken_of : ℕ → ℕ
untaken_of k = (shape_of (row_of k)).cycles

-- opens the table in a proof
unfoldable pub rows : Unit {0}
unfolding unprefixed_row prefixed_row either_row row_of length_of untaken_of
rows = tt

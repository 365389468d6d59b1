-- A byte or a word with the F that comes with it.
-- Assumes nothing.
use Rattle.std.specs.Prelude.{ℕ}
use Rattle.arith.specs.declared.Flagged.{Flagged}

abbrev pub Byte : Type 0
Byte = Flagged ℕ

abbrev pub Word : Type 0
Word = Flagged ℕ

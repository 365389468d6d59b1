-- `insn::table::length` meets its contract: antt computes the definition at each of the table's 512 entries.
-- Assumes nothing.
use mathlib.Core.Path.{◌∙◌}
use Rattle.insn.specs.Table.{rows, length_of}
use Rattle.insn.proofs.Entries.{tabulated_or}
use Rattle.insn.proofs.Told.{entries}
use Rattle.insn.proofs.Laws.{length_above}
use Rattle.insn.proofs.table.length.Goals as goal

pub returns : goal.returns
unfolding entries rows
returns c = c.entry.ensures ∙ tabulated_or length_of 0 512 c.args.row (length_above c.args.row)

-- `insn::table::untaken_cycles` meets its contract: antt computes the definition at each of the table's 512 entries.
-- Assumes nothing.
use mathlib.Core.Path.{◌∙◌}
use Rattle.insn.specs.Table.{rows, untaken_of}
use Rattle.insn.proofs.Entries.{tabulated_or}
use Rattle.insn.proofs.Told.{entries}
use Rattle.insn.proofs.Laws.{untaken_above}
use Rattle.insn.proofs.table.untaken_cycles.Goals as goal

pub returns : goal.returns
unfolding entries rows
returns c = c.entry.ensures ∙ tabulated_or untaken_of 0 512 c.args.row (untaken_above c.args.row)

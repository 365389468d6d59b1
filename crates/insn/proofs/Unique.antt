-- Each public promise determines its answer: as in the crate arith, of `Post`.
-- Assumes nothing.
use Rattle.arith.proofs.Unique.{same, OneAnswer}
use Rattle.insn.proofs.decode.decode.Reads as decode
use Rattle.insn.proofs.places.OperandFromPlace.from.Reads as operand
use Rattle.insn.proofs.table.length.Reads as length
use Rattle.insn.proofs.table.untaken_cycles.Reads as untaken-cycles

pub decode_unique : OneAnswer decode.Post
decode_unique _ _ _ _ _ _ = same

pub length_unique : OneAnswer length.Post
length_unique _ _ _ _ _ _ = same

pub untaken_cycles_unique : OneAnswer untaken-cycles.Post
untaken_cycles_unique _ _ _ _ _ _ = same

pub operand_unique : OneAnswer operand.Post
operand_unique _ _ _ _ _ _ = same

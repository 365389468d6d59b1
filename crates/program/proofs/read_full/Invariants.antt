-- `read_full` has put no more bytes than the buffer has room for.
use Rattle.std.proofs.Common.{◌≤◌, length}
use Rattle.program.proofs.read_full.Given as goal

abbrev pub invariant-loop : goal.invariant-loop
invariant-loop l = l.done ≤ length l.buf

-- `leave` leaves the block of the state, and 14 zeros, which are the block of the all-zero state.
use mathlib.Core.Path.{refl, sym}
use Rattle.trnadulek.specs.Block.{block_loaded}
use Rattle.trnadulek.proofs.Unchanged.{zeros}
use Rattle.trnadulek.proofs.leave.Goals as goal

pub returns-in-Ok : goal.returns-in-Ok
unfolding block_loaded
returns-in-Ok c = rw c.in-Ok.is (record { answers = refl; leaves = c.bytes_of.ensures })

pub returns-in-Err : goal.returns-in-Err
unfolding block_loaded
returns-in-Err c = rw c.in-Err.is (record { answers = c.from.ensures; leaves = sym zeros })

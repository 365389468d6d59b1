-- `is_set` reads each flag by the very term that defines it: on bytes alone another term would do, as that of must-fail/z_of_two_bits,
-- and each of the wrong edits of one flag is refused at its own arm.
use Rattle.arith.specs.Flags.{z_of, n_of, h_of, c_of, flag_of}
use Rattle.arith.proofs.Flag.is_set.Goals as goal

pub returns-in-Z : goal.returns-in-Z
unfolding flag_of z_of
returns-in-Z c = rw c.in-Z.is

pub returns-in-N : goal.returns-in-N
unfolding flag_of n_of
returns-in-N c = rw c.in-N.is

pub returns-in-H : goal.returns-in-H
unfolding flag_of h_of
returns-in-H c = rw c.in-H.is

pub returns-in-C : goal.returns-in-C
unfolding flag_of c_of
returns-in-C c = rw c.in-C.is

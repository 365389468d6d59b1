-- `trnadulek_size` answers the size of each number.
use mathlib.Core.Path.{sym}
use native.Mathlib.Omega.{arith}
use Rattle.trnadulek.specs.Sizes.{sizes, size_of}
use Rattle.trnadulek.proofs.Unnamed.{sizeless}
use Rattle.trnadulek.proofs.trnadulek_size.Goals as goal

pub returns-in-0 : goal.returns-in-0
unfolding sizes size_of
returns-in-0 c = rw c.in-0.is

pub returns-in-1 : goal.returns-in-1
unfolding sizes size_of
returns-in-1 c = rw c.in-1.is

pub returns-in-2 : goal.returns-in-2
unfolding sizes size_of
returns-in-2 c = rw c.in-2.is

pub returns-in-3 : goal.returns-in-3
unfolding sizes size_of
returns-in-3 c = rw c.in-3.is

pub returns-in-4 : goal.returns-in-4
unfolding sizes size_of
returns-in-4 c = rw c.in-4.is

pub returns-in-5 : goal.returns-in-5
unfolding sizes size_of
returns-in-5 c = rw c.in-5.is

pub returns-in_default : goal.returns-in_default
unfolding sizes size_of
returns-in_default c = sym (sizeless c.args.which (omega arith))

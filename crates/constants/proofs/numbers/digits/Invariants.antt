-- The loop's invariant: what the digits that are taken are worth.
use Prim.Native.Nat.{◌≤◌}
use mathlib.Core.Path.{◌≡◌}
use lib.ListN.{take}
use Rattle.constants.specs.Constant.{worth}
use Rattle.constants.proofs.numbers.digits.Given as goal

abbrev pub invariant-loop-c : goal.invariant-loop-c
invariant-loop-c l = record { few : l.value ≤ 65535; is : l.value ≡ worth l.fn.base (take l.c-index l.digits) }

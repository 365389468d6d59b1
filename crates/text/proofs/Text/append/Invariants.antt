-- The loop's invariant: what is left of the slice, written to the text so far, gives the whole.
use Rattle.std.proofs.Common.{◌≡◌, drop}
use Rattle.text.specs.Written.{written}
use Rattle.text.proofs.Text.append.Given as goal

abbrev pub invariant-loop-b : goal.invariant-loop-b
invariant-loop-b l = written (drop l.b-index l.s) l.self ≡ written l.s l.initial.self

-- `add` is the sum at eight bits; its carry is the whole sum's, by the law over the width.
use Rattle.std.proofs.Common.{arith}
use Rattle.arith.specs.Width.{one_if, sum_of}
use Rattle.arith.specs.Bytes.{added_of}
use Rattle.arith.proofs.Width.{carry_whole}
use Rattle.arith.proofs.Truths.{one_told, carried}
use Rattle.arith.proofs.bytes.add.Goals as goal

pub returns : goal.returns
unfolding added_of sum_of
returns c =
    let a = c.args in
    let s = c.carrying_add-value in
    let t = carried s.result.0 (omega arith) _ s.result.1 s.ensures in
    rw (c.pack.ensures, c.half_carry-h.ensures, carry_whole 8 a.a a.b (one_if a.k) (omega arith) (omega arith), one_told, t.0, t.1)

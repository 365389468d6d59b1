-- `subtract` is the difference at eight bits; its borrow is that of whole numbers, by the law over the width.
use Rattle.std.proofs.Common.{◌+◌, arith}
use Rattle.std.specs.Int.{from_bool}
use Rattle.arith.specs.Width.{one_if, difference_of}
use Rattle.arith.specs.Bytes.{subtracted_of}
use Rattle.arith.proofs.Width.{borrow_whole}
use Rattle.arith.proofs.Laws.{one_most}
use Rattle.arith.proofs.Truths.{one_told, borrowed}
use Rattle.arith.proofs.bytes.subtract.Goals as goal

pub returns : goal.returns
unfolding subtracted_of difference_of
returns c =
    let a = c.args in
    let s = c.borrowing_sub-value in
    let most = rw (one_told a.k) at (one_most a.k) in
    let t = borrowed s.result.0 (omega arith) a.a (a.b + from_bool a.k) s.result.1 (omega arith) (omega (arith, most)) (omega arith) in
    rw (c.pack.ensures, c.half_borrow-h.ensures, borrow_whole 8 a.a a.b (one_if a.k) (omega arith) (omega arith), one_told, t.0, t.1)

-- `half_borrow` is the borrow at four bits: bit 4 of the operands and of their difference at eight, by the law over the width.
use Rattle.std.proofs.Common.{◌≡◌, ◌+◌, ◌-◌, ◌%◌, arith}
use Rattle.std.specs.Int.{from_bool}
use Rattle.arith.specs.Width.{difference_of}
use Rattle.arith.proofs.Width.{borrow_bit}
use Rattle.arith.proofs.Laws.{one_most}
use Rattle.arith.proofs.Truths.{one_told}
use Rattle.arith.proofs.bytes.half_borrow.Goals as goal

pub returns : goal.returns
unfolding difference_of
returns c =
    let a = c.args in
    let k = from_bool a.k in
    let most = rw (one_told a.k) at (one_most a.k) in
    let difference : ((a.a + (256 - a.b)) % 256 + (256 - c.from.result)) % 256 ≡ (a.a + 256 - (a.b + k)) % 256 =
    omega (arith, c.from.ensures, most) in
    rw (difference, one_told a.k) (borrow_bit 4 8 a.a a.b k (omega arith) (omega arith) (omega arith) most)

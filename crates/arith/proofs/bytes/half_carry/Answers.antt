-- `half_carry` is the carry at four bits: bit 4 of the operands and of their sum at eight, by the law over the width.
use Rattle.std.proofs.Common.{◌≡◌, ◌+◌, ◌%◌, arith}
use Rattle.std.specs.Int.{from_bool}
use Rattle.arith.specs.Width.{sum_of}
use Rattle.arith.proofs.Width.{carry_bit}
use Rattle.arith.proofs.Laws.{one_most}
use Rattle.arith.proofs.Truths.{one_told}
use Rattle.arith.proofs.bytes.half_carry.Goals as goal

pub returns : goal.returns
unfolding sum_of
returns c =
    let a = c.args in
    let k = from_bool a.k in
    let sum : ((a.a + a.b) % 256 + c.from.result) % 256 ≡ (a.a + a.b + k) % 256 = omega (arith, c.from.ensures) in
    let most = rw (one_told a.k) at (one_most a.k) in
    rw (sum, one_told a.k) (carry_bit 4 8 a.a a.b k (omega arith) (omega arith) (omega arith) most)

-- `add_hl` is the sum at sixteen bits; its carry is the whole sum's, by the law over the width.
use Rattle.std.proofs.Common.{◌+◌, add-zero, arith}
use Rattle.arith.specs.Flags.{flag_of}
use Rattle.arith.specs.Width.{sum_of, carry_of}
use Rattle.arith.specs.Words.{added_hl_of}
use Rattle.arith.proofs.Truths.{overflown}
use Rattle.arith.proofs.Width.{carry_whole}
use Rattle.arith.proofs.words.add_hl.Goals as goal

pub returns : goal.returns
unfolding flag_of added_hl_of sum_of carry_of
returns c =
    let a = c.args in
    let s = c.overflowing_add-value in
    rw (c.pack.ensures, c.is_set.ensures, s.ensures.value, carry_whole 16 a.hl a.v 0 (omega arith) (omega arith))
    (simp (add-zero, overflown 65536 (a.hl + a.v) s.result.1 s.ensures.overflow))

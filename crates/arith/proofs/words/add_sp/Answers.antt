-- `add_sp` takes its flags from the low bytes.
use Rattle.std.proofs.Common.{add-zero, mod-eq_of_lt, arith}
use Rattle.arith.specs.Width.{carry_of}
use Rattle.arith.specs.Words.{added_sp_of}
use Rattle.arith.proofs.words.add_sp.Goals as goal

pub returns : goal.returns
unfolding added_sp_of carry_of
returns c =
    let a = c.args in
    rw (c.pack.ensures, c.offset.ensures, c.from.ensures, c.from-low.ensures, mod-eq_of_lt {n = a.e} {m = 256} (omega arith)) (simp add-zero)

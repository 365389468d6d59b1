-- `mark` writes what a character stands for.
use native.Mathlib.Omega.{arith}
use Prim.Native.Nat.{ℕ}
use borrow.Author.Tests.{ne_eqb}
use mathlib.Core.Logic.{◌≢◌}
use mathlib.Core.Path.{◌≡◌}
use Rattle.listing.specs.Forms.{text_if, named_text, mark_text}
use Rattle.listing.specs.declared.Operands.{Operands}
use Rattle.listing.proofs.Operands.mark.Goals as goal

-- any other is a name or itself
other : (o : Operands) (m : ℕ) → m ≢ 46 → m ≢ 98 → m ≢ 101 → m ≢ 104 → m ≢ 106 → m ≢ 118 → m ≢ 119
    → mark_text o m ≡ named_text o.edition o.op m
unfolding mark_text text_if
other o m point b e h j v w =
    rw (
      ne_eqb m 46 point,
      ne_eqb m 98 b,
      ne_eqb m 101 e,
      ne_eqb m 104 h,
      ne_eqb m 106 j,
      ne_eqb m 118 v,
      ne_eqb m 119 w,
    )

pub returns-in_default : goal.returns-in_default
returns-in_default c =
    rw
    (other _ c.args.m (omega arith) (omega arith) (omega arith)
    (omega arith) (omega arith) (omega arith) (omega arith))
    c.named.ensures

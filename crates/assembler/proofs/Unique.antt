-- The public promise determines the answer and what is left in the output: as in the crate arith, of `Post`.
-- Assumes nothing.
use Prim.Native.Nat.{ℕ}
use mathlib.Core.Path.{◌≡◌, sym, ap}
use Rattle.std.proofs.Common.{Result, Ok, Err}
use Rattle.arith.proofs.Numbers.{number_once, number_some}
use Rattle.arith.proofs.Unique.{same, OneOutcome}
use Rattle.assembler.specs.Text.{Assembled}
use Rattle.assembler.specs.Judging.{told_assembly}
use Rattle.assembler.specs.declared.Fault as code
use Rattle.assembler.proofs.assemble.Reads as assemble

-- what is told determines the answer: a refusal's number is not 0, and no two have the same
told_once : (r s : Result ℕ code.Fault) → told_assembly r ≡ told_assembly s → r ≡ s
unfolding told_assembly
told_once (Ok n) (Ok m) e = ap (λ (a : Assembled). Ok a.length) e
told_once (Ok n) (Err f) e = absurd (number_some f.refusal (sym (ap (λ (a : Assembled). a.code) e)))
told_once (Err f) (Ok n) e = absurd (number_some f.refusal (ap (λ (a : Assembled). a.code) e))
told_once (Err f) (Err g) e =
    let refusal = number_once f.refusal g.refusal (ap (λ (a : Assembled). a.code) e) in
    let line = ap (λ (a : Assembled). a.line) e in
    λ i. Err (record { refusal = refusal i; line = line i })

pub assemble_unique : OneOutcome assemble.Post (λ κs e. e.1.1.0.now)
assemble_unique _ _ x y _ _ p q = (told_once x y (same p.answers q.answers), same p.leaves q.leaves)

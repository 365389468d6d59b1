-- `ran` prints the number alone where a refusal is bare, and else the line.
use Prim.Native.Nat.{ℕ}
use mathlib.Core.Bool.{true, false}
use mathlib.Core.Path.{◌≡◌, sym, ap, ◌∙◌}
use Rattle.std.specs.Prelude.{Option}
use Rattle.arith.specs.Numbers.{number_of}
use Rattle.arith.specs.declared.Refusal.{Refusal}
use Rattle.machine.specs.Run.{Ran}
use Rattle.machine.specs.Told.{number_if, told_run}
use Rattle.text.specs.Answer.{refusal_line, run_line, is_bare, line_if, printed, ran_text}
use Rattle.text.proofs.answer.ran.Goals as goal
use Rattle.text.proofs.answer.ran.Goals.{in_default-via-in-Some+else-is_bare, in_default-via-in_default}

bare : (w : Ran) → is_bare w.code ≡ true → printed (refusal_line w.code) ≡ ran_text w
unfolding line_if ran_text
bare w e = rw e

whole : (w : Ran) → is_bare w.code ≡ false → printed (run_line w) ≡ ran_text w
unfolding line_if ran_text
whole w e = rw e

pub returns-in-Some : goal.returns-in-Some
returns-in-Some c =
    let code : number_if c.args.r.refusal ≡ number_of c.in-Some.refused = ap number_if c.in-Some.is in
    let is = ap is_bare code ∙ sym c.is_bare.ensures ∙ c.if-is_bare.true in
    c.refusal.ensures ∙ ap (λ (n : ℕ). printed (refusal_line n)) (sym code) ∙ bare (told_run c.args.r) is

pub returns-in_default : goal.returns-in_default
unfolding is_bare
returns-in_default c =
    let is : is_bare (number_if c.args.r.refusal) ≡ false =
    elim c.in_default.branch [
      | in_default-via-in-Some+else-is_bare w ↦
          ap (λ (o : Option Refusal). is_bare (number_if o)) w.in-Some.is ∙ sym w.is_bare.ensures ∙ w.if-is_bare.false
      | in_default-via-in_default w ↦ ap (λ (o : Option Refusal). is_bare (number_if o)) w.in_default.is
    ]
    in
    c.line.ensures ∙ whole (told_run c.args.r) is

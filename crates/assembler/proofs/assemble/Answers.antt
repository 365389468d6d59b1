-- `assemble` measures the text, and writes its bytes where nothing is at fault.
use Prim.Native.Nat.{ℕ}
use mathlib.Core.List.{List}
use mathlib.Core.Path.{◌≡◌, refl, ◌∙◌, ap}
use lib.ListN.{length}
use Rattle.std.proofs.Common.{rules, Ok, Err}
use Rattle.std.proofs.lemmas.Result.{err_from_is_err_and}
use Rattle.arith.specs.Numbers.{number_of}
use Rattle.listing.specs.Written.{cursor, cursor_of}
use Rattle.listing.specs.declared.writing.Writer.{Writer}
use Rattle.listing.proofs.Writers.{fresh}
use Rattle.assembler.specs.Text.{Refused, outcome_of, answer_of, assemble_of, Assembles}
use Rattle.assembler.specs.Judging.{told_assembly, Fits, WritesAll}
use Rattle.assembler.specs.declared.Fault as code
use Rattle.assembler.proofs.Outcomes.{done_fits}
use Rattle.assembler.proofs.assemble.Goals as goal

module _ (first : ℕ) (text out : List ℕ) where
  refused : (f : code.Fault) → outcome_of first text (length out) ≡ Refused (number_of f.refusal) f.line
      → Assembles (assemble_of first text out) (told_assembly (Err f)) out
  unfolding assemble_of answer_of told_assembly
  refused f e = rw e (record { answers = refl; leaves = refl })

  done : (n : ℕ) (a b : Writer) {left : List ℕ} → Fits (outcome_of first text (length out)) n → cursor_of a ≡ cursor 0 out
      → WritesAll first text a b → left ≡ b.out.now → Assembles (assemble_of first text out) (told_assembly (Ok n)) left
  unfolding assemble_of answer_of told_assembly
  done n a b {left} f starts w is =
      let whole = (fresh f.bytes out starts (w (length out) f.bytes f.comes) (done_fits first text (length out) f.bytes f.comes)).1 in
      rw f.comes (record { answers = ap (λ k. record { code = 0; line = 0; length = k }) f.long; leaves = is ∙ whole })

pub returns-in_err-length : goal.returns-in_err-length
returns-in_err-length c =
    let p = err_from_is_err_and c.from_residual.result c.from_residual.ensures.1 in
    rw (p.1, p.2) (refused _ _ _ _ c.in_err-length.ensures)

pub returns : goal.returns
returns c = done _ _ _ _ _ _ c.in_ok-length.ensures refl c.write.ensures.written (search rules)

-- `trnadulek_assemble` hands on what the assembler answers.
use mathlib.Core.Path.{◌∙◌, ap}
use Rattle.assembler.specs.Text.{Assembled}
use Rattle.assembler.specs.Judging.{told_assembly}
use Rattle.trnadulek.proofs.trnadulek_assemble.Goals as goal

pub returns-in-Ok : goal.returns-in-Ok
unfolding told_assembly
returns-in-Ok c =
    let done = rw c.in-Ok.is at c.assemble.ensures in
    record {
      answers = ap (λ (a : Assembled). a.code) done.answers;
      leaves_out = done.leaves;
      leaves_line = ap (λ (a : Assembled). a.line) done.answers;
      leaves_length = ap (λ (a : Assembled). a.length) done.answers;
    }

pub returns-in-Err : goal.returns-in-Err
unfolding told_assembly
returns-in-Err c =
    let done = rw c.in-Err.is at c.assemble.ensures in
    record {
      answers = c.from.ensures ∙ ap (λ (a : Assembled). a.code) done.answers;
      leaves_out = done.leaves;
      leaves_line = ap (λ (a : Assembled). a.line) done.answers;
      leaves_length = ap (λ (a : Assembled). a.length) done.answers;
    }

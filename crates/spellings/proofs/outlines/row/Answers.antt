-- `row` puts the outline together where there is a constant, and looks it up.
use mathlib.Core.Path.{sym, ◌∙◌, ap}
use Rattle.spellings.specs.Rows.{no_row, row_by, unless}
use Rattle.spellings.proofs.Fallen.{outline_whole}
use Rattle.spellings.proofs.Named.{outline_marked, long_told}
use Rattle.spellings.proofs.outlines.row.Goals as goal

pub returns-then-from-line : goal.returns-then-from-line
returns-then-from-line c =
    c.outlined.ensures
    ∙ ap (λ outline. unless no_row (row_by outline)) (sym (outline_whole c.args.line.now c.args.from c.args.to c.requires.begin c.requires.end c.if-from-line.true))

pub returns-in_err-marked : goal.returns-in_err-marked
returns-in_err-marked c = c.from_residual.ensures ∙ long_told c.args.line.now _ _ c.requires c.if-from-line.false c.in_err-marked.ensures.none

pub returns : goal.returns
returns c =
    c.outlined-2.ensures
    ∙ ap (λ outline. unless no_row (row_by outline))
    (c.deref.ensures.0 ∙ c.in_ok-marked.ensures.some ∙ sym (outline_marked c.args.line.now _ _ c.requires c.if-from-line.false))

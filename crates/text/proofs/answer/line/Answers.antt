-- `line` meets its contract.
use Rattle.text.specs.Answer.{run_line, printed}
use Rattle.text.specs.Written.{written}
use Rattle.text.proofs.Texts.{written_append}
use Rattle.text.proofs.answer.line.Goals as goal

pub returns : goal.returns
unfolding run_line printed written
returns c =
    simp (
      c.push.ensures,
      c.from-3.ensures,
      c.decimal.ensures,
      c.mode_code.ensures,
      c.number-4.ensures,
      c.from-2.ensures,
      c.ime_code.ensures,
      c.registers.ensures,
      c.number-3.ensures,
      c.number-2.ensures,
      c.number.ensures,
      c.from.ensures,
      c.code.ensures,
      c.header.ensures,
      written_append,
    )

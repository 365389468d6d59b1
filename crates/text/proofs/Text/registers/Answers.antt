-- `registers` meets its contract.
use Rattle.text.specs.Answer.{registers_line}
use Rattle.text.proofs.Texts.{written_append}
use Rattle.text.proofs.Text.registers.Goals as goal

pub returns : goal.returns
unfolding registers_line
returns c =
    simp (
      c.word-10.ensures,
      c.word-9.ensures,
      c.word-8.ensures,
      c.word-7.ensures,
      c.word-6.ensures,
      c.word-5.ensures,
      c.word-4.ensures,
      c.word-3.ensures,
      c.word-2.ensures,
      c.word.ensures,
      written_append,
    )

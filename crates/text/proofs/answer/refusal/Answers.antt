-- `refusal` meets its contract.
use Rattle.text.specs.Answer.{refusal_line, printed}
use Rattle.text.specs.Written.{written}
use Rattle.text.proofs.Texts.{written_append}
use Rattle.text.proofs.answer.refusal.Goals as goal

pub returns : goal.returns
unfolding refusal_line printed written
returns c = simp (c.push.ensures, c.decimal.ensures, c.header.ensures, c.from.ensures, c.from-2.ensures, written_append)

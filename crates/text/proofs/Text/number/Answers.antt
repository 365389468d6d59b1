-- `number` meets its contract.
use Rattle.text.specs.Answer.{number_then}
use Rattle.text.specs.Written.{written}
use Rattle.text.proofs.Texts.{written_append}
use Rattle.text.proofs.Text.number.Goals as goal

pub returns : goal.returns
unfolding number_then written
returns c = simp (c.push.ensures, c.decimal.ensures, written_append)

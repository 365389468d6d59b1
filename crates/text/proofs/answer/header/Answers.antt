-- `header` meets its contract.
use Rattle.digits.specs.Ascii.{ascii}
use Rattle.text.specs.Answer.{header}
use Rattle.text.proofs.answer.header.Goals as goal

pub returns : goal.returns
unfolding ascii header
returns c = rw (c.append.ensures, c.new.ensures)

-- `read` refuses a block whose codes stand for nothing.
use Rattle.saved.proofs.block.read.Goals as goal

pub returns-then-has_codes : goal.returns-then-has_codes
returns-then-has_codes c = rw (← c.has_codes.ensures, c.if-has_codes.true, c.state_of.ensures)

pub returns-else-has_codes : goal.returns-else-has_codes
returns-else-has_codes c = rw (← c.has_codes.ensures, c.if-has_codes.false)

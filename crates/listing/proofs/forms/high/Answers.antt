-- `high` writes LDH, or LDIO.
use Rattle.digits.specs.Ascii.{ascii}
use Rattle.listing.specs.Forms.{high_text}
use Rattle.listing.proofs.Writers.{after}
use Rattle.listing.proofs.forms.high.Goals as goal

pub returns-in-Old : goal.returns-in-Old
unfolding high_text ascii
returns-in-Old c = rw c.in-Old.is (after (after c.ld.ensures c.push.ensures) c.push-in-Old.ensures)

pub returns-in-New : goal.returns-in-New
unfolding high_text ascii
returns-in-New c = rw c.in-New.is (after c.ld.ensures c.push-in-New.ensures)

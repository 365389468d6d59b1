-- `ld` writes its two letters.
use Rattle.digits.specs.Ascii.{ascii}
use Rattle.listing.proofs.Writers.{after}
use Rattle.listing.proofs.forms.ld.Goals as goal

pub returns : goal.returns
unfolding ascii
returns c = after c.push.ensures c.push-2.ensures

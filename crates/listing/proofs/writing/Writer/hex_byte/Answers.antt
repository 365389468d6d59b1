-- `hex_byte` writes $ and the digits.
use Rattle.digits.specs.Ascii.{ascii}
use Rattle.listing.specs.Spelling.{hex}
use Rattle.listing.proofs.Writers.{after}
use Rattle.listing.proofs.writing.Writer.hex_byte.Goals as goal

pub returns : goal.returns
unfolding hex ascii
returns c = after c.push.ensures c.byte.ensures

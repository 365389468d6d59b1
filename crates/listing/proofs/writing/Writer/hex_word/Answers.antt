-- `hex_word` writes $ and the digits.
use Rattle.digits.specs.Ascii.{ascii}
use Rattle.listing.specs.Spelling.{hex}
use Rattle.listing.proofs.Writers.{after}
use Rattle.listing.proofs.writing.Writer.hex_word.Goals as goal

pub returns : goal.returns
unfolding hex ascii
returns c = after c.push.ensures c.word.ensures

-- `load` writes LD, and how HL moves in the old edition.
use Rattle.listing.specs.Forms.{load_text}
use Rattle.listing.proofs.Writers.{after}
use Rattle.listing.proofs.forms.load.Goals as goal

pub returns-in-Old : goal.returns-in-Old
unfolding load_text
returns-in-Old c = rw c.in-Old.is (after c.ld.ensures c.step.ensures)

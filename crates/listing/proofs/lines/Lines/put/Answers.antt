-- `put` writes the line that comes next, which there is.
use Rattle.listing.proofs.Left.{some_left}
use Rattle.listing.proofs.lines.Lines.put.Goals as goal

pub returns-in_default : goal.returns-in_default
returns-in_default c = absurd (some_left _ _ _ c.requires c.in_default.ensures.steps.0)

-- `width` puts the line where there is room for any.
use mathlib.Core.Path.{refl}
use Rattle.listing.proofs.Writers.{fresh}
use Rattle.listing.proofs.lines.Lines.width.Goals as goal

pub returns : goal.returns
returns c =
    let put = c.put.ensures in
    record { line = put.line; others = put.others; width = (fresh _ _ refl put.writes put.short).0 }

-- `form` reads eight characters of the table.
use Rattle.listing.specs.Forms.{form_in}
use Rattle.listing.proofs.Texts.{span}
use Rattle.listing.proofs.table.Table.form.Goals as goal

pub returns : goal.returns
unfolding form_in
returns c = rw (span _ 8, c.from-from.ensures)

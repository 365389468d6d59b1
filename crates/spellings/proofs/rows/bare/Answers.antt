-- `bare` looks among the texts that the entries are.
use mathlib.Core.Path.{◌∙◌}
use Rattle.digits.specs.Ascii.{ascii}
use Rattle.listing.specs.Forms.{text_if}
use Rattle.spellings.specs.Outline.{up_to}
use Rattle.spellings.specs.Lookup.{letters_of, bares, bare_in}
use Rattle.spellings.proofs.Passed.{place_found}
use Rattle.spellings.proofs.rows.bare.Goals as goal

pub returns : goal.returns
unfolding ascii text_if up_to letters_of bares bare_in
returns c = c.place.ensures ∙ place_found c.args.text.now 15 bares

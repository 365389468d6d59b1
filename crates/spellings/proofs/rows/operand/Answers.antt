-- `operand` looks among the texts that the entries are.
use mathlib.Core.Path.{◌∙◌}
use Rattle.digits.specs.Ascii.{ascii}
use Rattle.listing.specs.Forms.{text_if}
use Rattle.spellings.specs.Outline.{up_to}
use Rattle.spellings.specs.Lookup.{letters_of, operands, operand_in}
use Rattle.spellings.proofs.Passed.{place_found}
use Rattle.spellings.proofs.rows.operand.Goals as goal

pub returns : goal.returns
unfolding ascii text_if up_to letters_of operands operand_in
returns c = c.place.ensures ∙ place_found c.args.text.now 24 operands

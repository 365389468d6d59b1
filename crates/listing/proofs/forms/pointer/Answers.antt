-- `pointer` writes a pair, and how HL moves in the new edition.
use Rattle.digits.specs.Ascii.{ascii}
use Rattle.listing.specs.Lines.{joined}
use Rattle.listing.specs.Forms.{text_if, letter_text, pointer_text}
use Rattle.listing.proofs.Names.{names_of, named}
use Rattle.listing.proofs.Writers.{after}
use Rattle.listing.proofs.forms.pointer.Goals as goal

pub returns-in-Old : goal.returns-in-Old
unfolding pointer_text ascii joined letter_text text_if names_of
returns-in-Old c = rw c.in-Old.is (named 4 (ascii "BC..DE..HL..HL..") c.requires c.name.ensures)

pub returns-in-New : goal.returns-in-New
unfolding pointer_text ascii joined letter_text text_if names_of
returns-in-New c = rw c.in-New.is (after (named 4 (ascii "BC..DE..HL..HL..") c.requires c.name.ensures) c.step.ensures)

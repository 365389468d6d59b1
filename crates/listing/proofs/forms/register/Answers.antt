-- `register` writes one of the eight places.
use Rattle.digits.specs.Ascii.{ascii}
use Rattle.listing.specs.Lines.{joined}
use Rattle.listing.specs.Forms.{text_if, letter_text, register_text}
use Rattle.listing.proofs.Names.{names_of, named}
use Rattle.listing.proofs.forms.register.Goals as goal

pub returns : goal.returns
unfolding register_text ascii joined letter_text text_if names_of
returns c = named 8 (ascii "B...C...D...E...H...L...[HL]A...") c.requires c.name.ensures

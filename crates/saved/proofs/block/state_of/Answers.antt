-- `state_of` reads each field at its place.
use Rattle.digits.specs.Digits.{byte_in}
use Rattle.saved.specs.Block.{flags_in, ime_code_in, mode_code_in, held_in}
use Rattle.saved.proofs.block.state_of.Goals as goal

pub returns : goal.returns
unfolding held_in byte_in flags_in ime_code_in mode_code_in
returns c = rw (c.ime_at.ensures, c.mode_at.ensures, c.word.ensures, c.word-2.ensures)

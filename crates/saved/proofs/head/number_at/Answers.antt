-- `number_at` is the number of the four bytes from a place on.
use native.Mathlib.Numerals.{towards_suc}
use Rattle.digits.specs.Digits.{number_in}
use Rattle.digits.proofs.Places.{bytes_at, part_bytes}
use Rattle.saved.proofs.head.number_at.Goals as goal

pub returns : goal.returns
unfolding number_in bytes_at
returns c =
    rw (c.number.ensures, part_bytes 4 c.args.at c.args.bytes.now c.requires) (simp towards_suc)

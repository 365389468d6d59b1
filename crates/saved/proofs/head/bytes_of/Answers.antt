-- `bytes_of` puts the block between the version and the two lengths.
use Rattle.digits.specs.Digits.{bytes_of, digits_of}
use Rattle.saved.specs.Block.{block_of}
use Rattle.saved.specs.Head.{head_of}
use Rattle.saved.proofs.head.bytes_of.Goals as goal

pub returns : goal.returns
unfolding head_of block_of bytes_of digits_of
returns c =
    rw (
      c.copy_from_slice.ensures.after,
      c.to_be_bytes.ensures,
      c.copy_from_slice-2.ensures.after,
      c.bytes_of.ensures,
      c.copy_from_slice-3.ensures.after,
      c.to_be_bytes-2.ensures,
    )

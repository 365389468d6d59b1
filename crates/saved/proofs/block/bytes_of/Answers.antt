-- `bytes_of` writes each field at its place.
use Rattle.arith.specs.Words.{high_of, low_of}
use Rattle.saved.specs.Block.{block_of}
use Rattle.saved.proofs.block.bytes_of.Goals as goal

pub returns : goal.returns
unfolding block_of high_of low_of
returns c =
    simp (
      c.to_be_bytes.ensures,
      c.to_be_bytes-2.ensures,
      c.mode_code-mode_code.ensures,
      c.ime_code-ime_code.ensures,
    )

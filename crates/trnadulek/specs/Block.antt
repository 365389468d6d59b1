-- Loading and saving through a state block: what is answered, and what is left in the block, the head or the image.
-- Document 01, "Saved state" and "Refusal numbers".
-- Assumes nothing.
use Rattle.std.specs.Prelude.{ℕ, Bool, true, false, List}
use Rattle.machine.specs.Memory.{Memory}
use Rattle.machine.specs.Answers.{With, keeping}
use Rattle.saved.specs.Block.{block_of, held_in, has_codes}
use Rattle.saved.specs.Answers.{Loaded, load_head_of, open_of, save_head_of, save_image_of}

-- a load answers its number and leaves the state in the block: the all-zero state where it is refused
unfoldable pub block_loaded : Loaded → With ℕ
block_loaded l = record { out = l.code; mem = block_of l.cpu }

unfoldable pub load_block_of : List ℕ → With ℕ
load_block_of head = block_loaded (load_head_of head)

unfoldable pub open_block_of : List ℕ → With ℕ
open_block_of image = block_loaded (open_of image).out

-- a save looks at the two codes first: 9, and then what the save of the state refuses
unfoldable pub saved_if : Bool → With ℕ → List ℕ → With ℕ
saved_if true saved old = saved
saved_if false saved old = keeping 9 old

unfoldable pub save_block_of : List ℕ → List ℕ → With ℕ
save_block_of b head = saved_if (has_codes b) (save_head_of (held_in b) head) head

unfoldable pub save_block_image_of : List ℕ → Memory → List ℕ → With ℕ
save_block_image_of b memory image = saved_if (has_codes b) (save_image_of (held_in b) memory image) image

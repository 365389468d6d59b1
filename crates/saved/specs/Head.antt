-- A head and an image, byte by byte, and the block and the memory in them. Document 01, "Saved state".
-- Assumes nothing.
use Rattle.std.specs.Prelude.{ℕ, ◌+◌, List, ◌∷◌, ◌++◌, take, drop}
use Rattle.machine.specs.Memory.{Memory, memory_size}
use Rattle.machine.specs.declared.Cpu.{Cpu}
use Rattle.digits.specs.Digits.{bytes_of, byte_in, number_in}
use Rattle.saved.specs.Block.{block_size, block_of, held_in}

-- the version, and the sizes of a head and of an image, which is a head and the memory
abbrev pub version : ℕ
version = 1

abbrev pub head_size : ℕ
head_size = 23

abbrev pub image_size : ℕ
image_size = head_size + memory_size

-- version 1; the block's length in four bytes; the block; the memory's length in four bytes
unfoldable pub head_of : Cpu → List ℕ
head_of s = version ∷ (bytes_of 4 block_size ++ (block_of s ++ bytes_of 4 memory_size))

-- the memory follows
unfoldable pub image_of : Cpu → Memory → List ℕ
image_of s m = head_of s ++ m

-- the parts of a head, by their places
unfoldable pub version_in : List ℕ → ℕ
version_in h = byte_in 0 h

unfoldable pub block_size_in : List ℕ → ℕ
block_size_in h = number_in 4 1 h

unfoldable pub block_in : List ℕ → List ℕ
block_in h = take block_size (drop 5 h)

unfoldable pub memory_size_in : List ℕ → ℕ
memory_size_in h = number_in 4 19 h

-- the state of a head
unfoldable pub state_in : List ℕ → Cpu
state_in h = held_in (block_in h)

-- the memory of an image: from the head to the end
unfoldable pub memory_in : List ℕ → Memory
memory_in image = drop head_size image

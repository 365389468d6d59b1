-- The refusals of loading and saving, in their order. What is not refused has the number 0, and that is what valid means.
-- Document 01, "Refusal numbers".
-- Assumes nothing.
use Rattle.std.specs.Prelude.{ℕ, ◌%◌, not, ◌&&◌, List, [], ◌∷◌, ◌≡◌, eqb, length}
use Rattle.arith.specs.Refusals.{Refusal, ◌when◌, code_of}
use Rattle.machine.specs.Memory.{Memory, memory_size}
use Rattle.machine.specs.declared.Cpu.{Cpu}
use Rattle.saved.specs.Block.{block_size, flags_in, has_codes}
use Rattle.saved.specs.Head.{version, head_size, image_size, version_in, block_size_in, block_in, memory_size_in}

-- not refused
abbrev pub Accepted : ℕ → Type 0
Accepted code = code ≡ 0

-- of an F
unfoldable pub flags_refusals : ℕ → List Refusal
flags_refusals f = 2 when not (eqb (f % 16) 0) ∷ []

-- of what a head of the right length holds
unfoldable pub content_refusals : List ℕ → List Refusal
content_refusals h =
    7 when not (eqb (version_in h) version)
    ∷ 8 when not (eqb (block_size_in h) block_size && eqb (memory_size_in h) memory_size)
    ∷ 9 when not (has_codes (block_in h))
    ∷ flags_refusals (flags_in (block_in h))

-- loading a head or an image that is to have so many bytes. Order: 6, 7, 8, 9, 2
unfoldable pub load_refusals : ℕ → List ℕ → List Refusal
load_refusals size h = 6 when not (eqb (length h) size) ∷ content_refusals h

unfoldable pub load_code : ℕ → List ℕ → ℕ
load_code size h = code_of (load_refusals size h)

-- saving a head. Order: 6, 2
unfoldable pub save_head_refusals : Cpu → List ℕ → List Refusal
save_head_refusals s h = 6 when not (eqb (length h) head_size) ∷ flags_refusals s.f

unfoldable pub save_head_code : Cpu → List ℕ → ℕ
save_head_code s h = code_of (save_head_refusals s h)

-- saving an image. Order: 6, 1, 2
unfoldable pub save_image_refusals : Cpu → Memory → List ℕ → List Refusal
save_image_refusals s m image =
    6 when not (eqb (length image) image_size)
    ∷ 1 when not (eqb (length m) memory_size)
    ∷ flags_refusals s.f

unfoldable pub save_image_code : Cpu → Memory → List ℕ → ℕ
save_image_code s m image = code_of (save_image_refusals s m image)

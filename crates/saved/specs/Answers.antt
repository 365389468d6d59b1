-- What loading and saving answer, and what a save leaves in the slice that it was lent. Document 01, "Saved state" and
-- "Refusal numbers".
-- Assumes nothing.
use Rattle.std.specs.Prelude.{ℕ, ◌+◌, Bool, true, false, List, [], ◌≡◌, Result, Ok, Err}
use Rattle.std.specs.Borrow.{Bor}
use Rattle.arith.specs.Numbers.{number_of}
use Rattle.arith.specs.Refusals.{unless_refused}
use Rattle.arith.specs.declared.Refusal.{Refusal}
use Rattle.machine.specs.Memory.{Memory}
use Rattle.machine.specs.Answers.{With}
use Rattle.machine.specs.declared.Cpu.{Cpu}
use Rattle.saved.specs.Block.{has_codes, held_in, cleared_state}
use Rattle.saved.specs.Head.{head_size, image_size, head_of, image_of, state_in, memory_in}
use Rattle.saved.specs.Refusals.{load_code, save_head_code, save_image_code}

-- what a load answers: its number, and the state, which is all zero where the number is not 0
pub record Loaded : Type 0 where
  pub code : ℕ
  pub cpu : Cpu

-- the same of the answer as the code has it: a state or a refusal
abbrev pub told_load : Result Cpu Refusal → Loaded
told_load (Ok s) = record { code = 0; cpu = s }
told_load (Err r) = record { code = number_of r; cpu = cleared_state }

-- a state where nothing is refused, and the all-zero state where something is
unfoldable pub state_if : ℕ → List ℕ → Cpu
state_if code h = unless_refused code (λ _. state_in h) (λ _. cleared_state)

-- the memory where nothing is refused, and an empty part where something is
unfoldable pub memory_if : ℕ → List ℕ → Memory
memory_if code image = unless_refused code (λ _. memory_in image) (λ _. [])

unfoldable pub loaded_by : ℕ → List ℕ → Loaded
loaded_by code h = record { code = code; cpu = state_if code h }

unfoldable pub load_of : ℕ → List ℕ → Loaded
load_of size h = loaded_by (load_code size h) h

-- loading a head alone
unfoldable pub load_head_of : List ℕ → Loaded
load_head_of h = load_of head_size h

-- opening a whole image: the code, the state and the memory, which is a part of the image
unfoldable pub open_of : List ℕ → With Loaded
open_of image = record { out = load_of image_size image; mem = memory_if (load_code image_size image) image }

-- reading a block alone: 9 where its codes stand for nothing
abbrev pub read_if : Bool → List ℕ → Loaded
read_if true b = record { code = 0; cpu = held_in b }
read_if false b = record { code = 9; cpu = cleared_state }

abbrev pub read_of : List ℕ → Loaded
read_of b = read_if (has_codes b) b

-- where the memory starts in an image: after the head, and at the front where the part is empty
unfoldable pub start_if : ℕ → ℕ
start_if code = unless_refused code (λ _. head_size) (λ _. 0)

-- r is the memory of a lent image: it holds those bytes, and it lies there in the image
pub record MemoryOf (image r : Bor (List ℕ)) : Type 0 where
  pub holds : r.now ≡ (open_of image.now).mem
  pub lies : r.ref_ptr ≡ (image.ref_ptr.0, start_if (open_of image.now).out.code + image.ref_ptr.1)

-- a save that is refused leaves what was there
unfoldable pub left_by : ℕ → List ℕ → List ℕ → List ℕ
left_by code new old = unless_refused code (λ _. new) (λ _. old)

unfoldable pub saved_by : ℕ → List ℕ → List ℕ → With ℕ
saved_by code new old = record { out = code; mem = left_by code new old }

unfoldable pub save_head_of : Cpu → List ℕ → With ℕ
save_head_of s h = saved_by (save_head_code s h) (head_of s) h

unfoldable pub save_image_of : Cpu → Memory → List ℕ → With ℕ
save_image_of s m image = saved_by (save_image_code s m image) (image_of s m) image

-- The sizes that a host can ask for, by their numbers, and the library's version. Document 01, "What the core
-- is", "Refusal numbers" and "Saved state"; document 02, M-101.
-- Assumes nothing.
use Rattle.std.specs.Prelude.{ℕ, List, [], ◌∷◌, get_or}
use Rattle.listing.specs.Lines.{most_listed}
use Rattle.machine.specs.Memory.{memory_size}
use Rattle.machine.specs.Run.{largest_budget}
use Rattle.saved.specs.Block.{block_size}
use Rattle.saved.specs.Head.{head_size, image_size}

-- 0 a head, 1 a state block, 2 the memory, 3 an image, 4 the largest budget, 5 the most characters of a listing for each byte listed
unfoldable pub sizes : List ℕ
sizes = head_size ∷ block_size ∷ memory_size ∷ image_size ∷ largest_budget ∷ most_listed ∷ []

unfoldable pub size_of : ℕ → ℕ
size_of which = get_or sizes which 0

-- the version of this library, 0.6.0: 10,000 times the first number, 100 times the second, and the third
abbrev pub library_version : ℕ
library_version = 600

-- The memory: a list of bytes, flat, with no protected bytes. Two-byte accesses lie low byte first, and their addresses count
-- modulo 65,536. Document 01, "What the core is" and "One step".
-- Assumes nothing.
use Rattle.std.specs.Prelude.{ℕ, List, [], ◌∷◌, get_or, set}
use Rattle.arith.specs.Words.{word_of, high_of, low_of, further}

abbrev pub Memory : Type 0
Memory = List ℕ

-- it has exactly so many bytes
abbrev pub memory_size : ℕ
memory_size = 65536

-- the one read
unfoldable pub byte_at : Memory → ℕ → ℕ
byte_at m at = get_or m at 0

-- a word, low byte first
unfoldable pub word_at : Memory → ℕ → ℕ
word_at m at = word_of (byte_at m (further 1 at)) (byte_at m at)

-- a byte stored: where, and what
pub record Store : Type 0 where
  pub at : ℕ
  pub value : ℕ

abbrev pub store : ℕ → ℕ → Store
store at v = record { at = at; value = v }

-- a word is stored low byte first
unfoldable pub word_stores : ℕ → ℕ → List Store
word_stores at w = store at (low_of w) ∷ store (further 1 at) (high_of w) ∷ []

-- the one store, and a memory with stores made in their order
unfoldable pub stored : Memory → ℕ → ℕ → Memory
stored m at v = set m at v

abbrev pub made : List Store → Memory → Memory
made [] m = m
made (x ∷ xs) m = made xs (stored m x.at x.value)

-- Text in ASCII codes.
-- Assumes nothing.
use Prim.Native.Char.{code}
use Rattle.std.specs.Prelude.{ℕ, List, [], ◌∷◌}
use Prim.Native.String.{String, [] as noText, ◌∷◌ as ◌then◌}

-- the bytes of a text that is all ASCII
unfoldable pub ascii : String → List ℕ
ascii noText = []
ascii (c then rest) = code c ∷ ascii rest

-- what stands between the entries of a line, and what ends it
abbrev pub space : ℕ
space = 32

abbrev pub newline : ℕ
newline = 10

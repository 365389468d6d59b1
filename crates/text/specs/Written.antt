-- A text that grows: bytes written one after the other into room for 160, which is more than the program's two lines have
-- (the law `two_lines`).
-- Assumes nothing.
use Rattle.std.specs.Prelude.{ℕ, ◌+◌, Bool, true, false, List, [], ◌∷◌, ltb, set, replicate}
use Rattle.text.specs.declared.Text.{Text}

abbrev pub room : ℕ
room = 160

unfoldable pub empty_text : Text
empty_text = record { bytes = replicate room 0; len = 0 }

-- one byte more; a full text stays as it is
unfoldable pub pushed_if : Bool → ℕ → Text → Text
pushed_if true b t = record { bytes = set t.bytes t.len b; len = t.len + 1 }
pushed_if false b t = t

unfoldable pub pushed : ℕ → Text → Text
pushed b t = pushed_if (ltb t.len room) b t

-- a list of bytes more
unfoldable pub written : List ℕ → Text → Text
written [] t = t
written (b ∷ bs) t = written bs (pushed b t)

-- `digit` writes the digit where n reaches its power.
use mathlib.Core.Path.{refl}
use native.Mathlib.Omega.{arith}
use Rattle.text.proofs.Text.digit.Goals as goal

pub returns-then-p-n : goal.returns-then-p-n
returns-then-p-n c = (λ _. rw (c.push.ensures, c.glyph.ensures), λ short. absurd (omega arith))

pub returns : goal.returns
returns c = (λ long. absurd (omega arith), λ _. refl)

-- `new` meets its contract.
use mathlib.Core.Path.{refl}
use Rattle.text.specs.Written.{empty_text}
use Rattle.text.proofs.Text.new.Goals as goal

pub returns : goal.returns
unfolding empty_text
returns c = refl

-- `push` writes a byte while there is room.
use borrow.Author.Tests.{lt-ltb, le-ltb}
use mathlib.Core.Path.{refl}
use Rattle.listing.specs.Written.{pushed_if, pushed, written}
use Rattle.listing.proofs.writing.Writer.push.Goals as goal

pub returns-then-self : goal.returns-then-self
unfolding pushed_if pushed written
returns-then-self c = record { reaches = rw (lt-ltb _ _ c.if-self.true) (record { place = refl; left = refl }); same = refl; lies = refl }

pub returns-else-self : goal.returns-else-self
unfolding pushed_if pushed written
returns-else-self c = record { reaches = rw (le-ltb _ _ c.if-self.false) (record { place = refl; left = refl }); same = refl; lies = refl }

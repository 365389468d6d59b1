-- `push` meets its contract: a byte is written while there is room.
use borrow.Author.Tests.{lt-ltb, le-ltb}
use Rattle.text.specs.Written.{pushed_if, pushed}
use Rattle.text.proofs.Text.push.Goals as goal

pub returns-then-at-lt-ROOM : goal.returns-then-at-lt-ROOM
unfolding pushed_if pushed
returns-then-at-lt-ROOM c = rw (lt-ltb _ 160 c.if-at-lt-ROOM.true)

pub returns-else-at-lt-ROOM : goal.returns-else-at-lt-ROOM
unfolding pushed_if pushed
returns-else-at-lt-ROOM c = rw (le-ltb _ 160 c.if-at-lt-ROOM.false)

-- `tell` copies a wording that there is room for.
use borrow.Author.Tests.{le-leb, lt-leb}
use mathlib.Core.Path.{refl}
use Rattle.trnadulek.specs.Wording.{put_if, tell_of}
use Rattle.trnadulek.proofs.wording.tell.Goals as goal

pub returns-then-wording-out : goal.returns-then-wording-out
unfolding tell_of put_if
returns-then-wording-out c =
    rw (← c.words-wording.ensures)
    (record { answers = refl; leaves = rw (c.copy_from_slice.ensures.after, le-leb _ _ c.if-wording-out.true) })

pub returns-else-wording-out : goal.returns-else-wording-out
unfolding tell_of put_if
returns-else-wording-out c =
    rw (← c.words-wording.ensures) (record { answers = refl; leaves = rw (lt-leb _ _ c.if-wording-out.false) })

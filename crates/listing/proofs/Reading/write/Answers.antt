-- `write` writes the columns of the line, by a writer of its own to the output that it was lent.
use Prim.Native.Nat.{ℕ}
use borrow.Author.Rules.{rules}
use mathlib.Core.List.{List}
use mathlib.Core.Path.{◌≡◌, refl, ◌∙◌}
use Rattle.listing.specs.Lines.{line_text}
use Rattle.listing.specs.Written.{Cursor, Reaches}
use Rattle.listing.proofs.Writers.{after}
use Rattle.listing.proofs.Reading.write.Goals as goal

-- what is left is what the own writer left
handed_back : {c : Cursor} {at : ℕ} {out left : List ℕ} → Reaches c at out → left ≡ out → Reaches c at left
handed_back r same = record { place = r.place; left = same ∙ r.left }

pub returns : goal.returns
unfolding line_text
returns c =
    let w = after c.word.ensures (after c.push.ensures (after c.bytes.ensures (after c.push-2.ensures (after c.marks.ensures c.push-3.ensures)))) in
    record { reaches = handed_back w.reaches (search rules); same = refl; lies = refl }

-- `find` cuts the line at its constant, and looks its outline up.
use Prim.Native.Nat.{ℕ}
use mathlib.Core.Path.{◌≡◌, ◌∙◌, ap}
use Rattle.std.specs.Prelude.{Option}
use Rattle.std.specs.Option.{unwrap_or}
use Rattle.spellings.proofs.Named.{stands_at, slot_told, form_at}
use Rattle.spellings.proofs.find.Goals as goal

-- a place that was found, or the end
or_end : (at end : ℕ) (found told : Option ℕ) → at ≡ unwrap_or found end → found ≡ told → at ≡ unwrap_or told end
or_end at end found told e h = e ∙ ap (λ o. unwrap_or o end) h

pub row-row-requires : goal.row-row-requires
row-row-requires c =
    stands_at c.args.line.now _ _ (or_end _ _ _ _ c.unwrap_or-from.ensures c.beginning.ensures)
    (or_end _ _ _ _ c.unwrap_or.ensures c.end.ensures)

pub returns : goal.returns
returns c =
    form_at c.args.line.now _ _ _ _
    (stands_at c.args.line.now _ _ (or_end _ _ _ _ c.unwrap_or-from.ensures c.beginning.ensures)
    (or_end _ _ _ _ c.unwrap_or.ensures c.end.ensures))
    c.row-row.ensures
    (slot_told _ _ _ c.row-row.ensures c.map_or.ensures)

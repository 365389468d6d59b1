-- `write` writes line after line.
use Prim.Native.Nat.{ℕ, ◌-◌, ◌≤◌, ◌<◌}
use borrow.Author.Tests.{ltb-true, ltb-false}
use mathlib.Core.Bool.{Bool, true, false}
use mathlib.Core.List.{List, [], ◌++◌, append-nil}
use mathlib.Core.Path.{◌≡◌, refl, sym, ap, ◌∙◌}
use native.Mathlib.Omega.{arith}
use lib.Dec.{ltb}
use lib.ListN.{length}
use Rattle.std.proofs.Common.{rules}
use Rattle.listing.specs.Written.{Writes}
use Rattle.listing.specs.declared.writing.Writer.{Writer}
use Rattle.listing.proofs.Writers.{after, unwritten}
use Rattle.assembler.specs.Text.{Done, prepended, outcome_of}
use Rattle.assembler.specs.Judging.{outcome_on, TakesLine, FaultsLine}
use Rattle.assembler.specs.declared.Fault as code
use Rattle.assembler.specs.declared.texts.Left.{Left}
use Rattle.assembler.proofs.Outcomes.{refused_done, done_bytes}
use Rattle.assembler.proofs.Turns.{faulty, on, no_room, begun, joined, ended}
use Rattle.assembler.proofs.texts.write.Invariants.{Parted}
use Rattle.assembler.proofs.texts.write.Goals as goal

module _ (all : List ℕ) (s : Left) (old new : Writer) (p : Parted all s old new) where
  no_fault : 0 < length s.text.now → (f : code.Fault) → FaultsLine s f → ⊥
  unfolding prepended
  no_fault some f l = refused_done (rw (faulty s some p.room f l) at p.comes)

  module _ (some : 0 < length s.text.now) (bytes : List ℕ) (behind : Left) (l : TakesLine s bytes behind) where
    short : p.room < length bytes → ⊥
    unfolding prepended
    short h = refused_done (rw (no_room s some p.room bytes behind l h) at p.comes)

    more : (next : Writer) → Writes bytes new next → Parted all behind old next
    more next w = go (ltb p.room (length bytes)) refl
      where
        go : (t : Bool) → ltb p.room (length bytes) ≡ t → Parted all behind old next
        go true h = absurd (short (ltb-true _ _ h))
        go false h = record {
          done = p.done ++ bytes;
          room = p.room - length bytes;
          comes = joined p.done bytes _ ∙ ap (prepended p.done) (sym (on s some p.room bytes behind l (ltb-false _ _ h))) ∙ p.comes;
          writes = after p.writes w;
        }

  whole : length s.text.now ≤ 0 → Writes all old new
  unfolding prepended
  whole h =
      let same : p.done ≡ all = done_bytes p.done all (rw (ended s p.room h, append-nil p.done) at p.comes) in
      rw (← same) p.writes

at_start : (text : List ℕ) (first room : ℕ) (all : List ℕ) (s : Left) (w : Writer) → s.text.now ≡ text → s.address ≡ first → s.line ≡ 1
    → outcome_of first text room ≡ Done all → Parted all s w w
unfolding outcome_of outcome_on
at_start text first room all s w t a l e =
    record { done = []; room = room; comes = begun _ ∙ rw (t, a, l) e; writes = unwritten w }

pub loop-left-init : goal.loop-left-init
loop-left-init c = rw c.new-left.ensures (record { lines = omega arith; same = refl; parted = λ room bytes e. at_start _ _ room bytes _ _ refl refl refl e })

pub returns-in_default : goal.returns-in_default
returns-in_default c =
    let some : 0 < length c.loop-left.left.text.now = search rules in
    record {
      written = λ room bytes e. absurd (no_fault _ _ _ _ (c.loop-left.invariant.parted room bytes e) some _ c.in_default.ensures.fault);
      same = c.loop-left.invariant.same;
    }

pub loop-left-preserved : goal.loop-left-preserved
loop-left-preserved c =
    let some : 0 < length c.loop-left.left.text.now = search rules in
    let taken = c.in-Ok.ensures.taken in
    let writes = rw c.as_slice.ensures.value at c.write_bytes.ensures in
    record {
      lines = omega (arith, taken.line, taken.shorter, c.loop-left.invariant.lines);
      same = writes.same ∙ c.loop-left.invariant.same;
      parted = λ room bytes e. more _ _ _ _ (c.loop-left.invariant.parted room bytes e) some _ _ taken _ writes;
    }

pub returns : goal.returns
returns c =
    let none : length c.loop-left.left.text.now ≤ 0 = search rules in
    record {
      written = λ room bytes e. whole _ _ _ _ (c.loop-left.invariant.parted room bytes e) none;
      same = c.loop-left.invariant.same;
    }

-- `measure` adds up what the lines have.
use Prim.Native.Nat.{ℕ, ◌+◌, ◌-◌, ◌≤◌, ◌<◌}
use mathlib.Core.List.{List, [], ◌++◌, append-nil}
use mathlib.Core.Path.{◌≡◌, refl, sym, ap, ◌∙◌}
use native.Mathlib.Omega.{arith}
use lib.ListN.{length, length-append}
use Rattle.std.proofs.Common.{rules}
use Rattle.std.proofs.lemmas.Result.{err_from_is_err_and}
use Rattle.arith.specs.Numbers.{number_of}
use Rattle.arith.specs.declared.Refusal.TheVariants.{Room}
use Rattle.assembler.specs.Text.{Outcome, Refused, prepended, outcome_of}
use Rattle.assembler.specs.Judging.{Fits, outcome_on, TakesLine, FaultsLine}
use Rattle.assembler.specs.declared.Fault as code
use Rattle.assembler.specs.declared.texts.Left.{Left}
use Rattle.assembler.proofs.Turns.{faulty, on, no_room, begun, joined, ended}
use Rattle.assembler.proofs.texts.measure.Invariants.{Added}
use Rattle.assembler.proofs.texts.measure.Goals as goal

module _ (o : Outcome) (s : Left) (room count : ℕ) (a : Added o s room count) where
  refused : 0 < length s.text.now → (f : code.Fault) → FaultsLine s f → o ≡ Refused (number_of f.refusal) f.line
  unfolding prepended
  refused some f l = sym a.comes ∙ rw (faulty s some (room - count) f l)

  module _ (some : 0 < length s.text.now) (bytes : List ℕ) (behind : Left) (l : TakesLine s bytes behind) where
    short : (f : code.Fault) → room - count < length bytes → f.refusal ≡ Room → f.line ≡ s.line → o ≡ Refused (number_of f.refusal) f.line
    unfolding prepended
    short f h is line = rw (is, line) (sym a.comes ∙ rw (no_room s some (room - count) bytes behind l h))

    more : length bytes ≤ room - count → Added o behind room (count + length bytes)
    more h =
        let less : room - (count + length bytes) ≡ room - count - length bytes = omega arith in
        record {
          done = a.done ++ bytes;
          long = rw (length-append a.done bytes) (omega (arith, a.long));
          comes = rw less (joined a.done bytes _ ∙ ap (prepended a.done) (sym (on s some (room - count) bytes behind l h)) ∙ a.comes);
        }

  all : length s.text.now ≤ 0 → Fits o count
  unfolding prepended
  all h = record {
    bytes = a.done;
    comes = sym a.comes ∙ rw (ended s (room - count) h, append-nil a.done);
    long = a.long;
  }

at_start : (text : List ℕ) (first room : ℕ) (s : Left) → s.text.now ≡ text → s.address ≡ first → s.line ≡ 1 → Added (outcome_of first text room) s room 0
unfolding outcome_of outcome_on
at_start text first room s t a l =
    let same : room - 0 ≡ room = omega arith in
    record { done = []; long = refl; comes = rw (same, t, a, l) (begun _) }

pub loop-left-init : goal.loop-left-init
loop-left-init c = rw c.new-left.ensures (record { fits = omega arith; lines = omega arith; added = at_start _ _ _ _ refl refl refl })

pub returns-in_err-bytes : goal.returns-in_err-bytes
returns-in_err-bytes c =
    let some : 0 < length c.loop-left.left.text.now = search rules in
    let p = err_from_is_err_and c.from_residual.result c.from_residual.ensures.1 in
    rw (p.1, p.2) (refused _ _ _ _ c.loop-left.invariant.added some _ c.in_err-bytes.ensures.fault)

pub returns-then-room-length : goal.returns-then-room-length
returns-then-room-length c =
    let some : 0 < length c.loop-left.left.text.now = search rules in
    short _ _ _ _ c.loop-left.invariant.added some _ _ c.in_ok-bytes.ensures.taken _ (rw c.len.ensures.value at c.if-room-length.true)
    c.fault.ensures.refusal c.fault.ensures.line

pub loop-left-preserved : goal.loop-left-preserved
loop-left-preserved c =
    let some : 0 < length c.loop-left.left.text.now = search rules in
    let taken = c.in_ok-bytes.ensures.taken in
    let fits = rw c.len.ensures.value at c.if-room-length.false in
    record {
      fits = rw c.len-length.ensures.value (omega (arith, fits, c.loop-left.invariant.fits));
      lines = omega (arith, taken.line, taken.shorter, c.loop-left.invariant.lines);
      added = rw c.len-length.ensures.value (more _ _ _ _ c.loop-left.invariant.added some _ _ taken fits);
    }

pub returns : goal.returns
returns c =
    let none : length c.loop-left.left.text.now ≤ 0 = search rules in
    all _ _ _ _ c.loop-left.invariant.added none

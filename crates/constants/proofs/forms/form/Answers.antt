-- `form` reads from the left.
use Prim.Native.Nat.{ℕ, ◌+◌, ◌≤◌, ◌<◌}
use mathlib.Core.Bool.{Bool, true, false}
use mathlib.Core.List.{List, []}
use mathlib.Core.Path.{◌≡◌, refl, ap, ◌∙◌}
use native.Mathlib.Numerals.{add-one}
use native.Mathlib.Omega.{arith}
use borrow.Author.Tests.{eq-eqb, ne_eqb}
use lib.Dec.{eqb}
use lib.ListN.{length, get_or, drop_of_length-le}
use lib.Seq.{drop-cons}
use Rattle.constants.specs.Reading.{Wants, Nothing, step, read_from, read_of}
use Rattle.constants.specs.Forms.{StandsAt, stand_after, open_if, open_after, form_in, form_by}
use Rattle.constants.specs.declared.Stand.{Stand}
use Rattle.constants.specs.declared.Stand.TheVariants.{Start}
use Rattle.constants.proofs.Nesting.{Tally, Tallies, wants_nests, pile_nests, behind_nests, deep_after, step_tally}
use Rattle.constants.proofs.Standing.{step_stands, finished_stands}
use Rattle.constants.proofs.forms.form.Invariants.{Reached}
use Rattle.constants.proofs.forms.form.Goals.{then-deep, else-deep+then-c-eq40, else-deep+else-c-eq40}
use Rattle.constants.proofs.forms.form.Goals as goal

-- one more character
further : (text : List ℕ) (stand after : Stand) (opened more : ℕ) (deep too : Bool) (at : ℕ) → at < length text
    → after ≡ stand_after stand (get_or text at 0) opened → more ≡ open_after (get_or text at 0) opened
    → too ≡ deep_after (get_or text at 0) opened deep → Reached text stand opened deep at → Reached text after more too (at + 1)
unfolding read_from
further text stand after opened more deep too at h e f g r = record {
  state = step r.state (get_or text at 0);
  stands = rw e (step_stands r.state stand (get_or text at 0) opened deep r.stands r.tally);
  tally = rw (f, g) (step_tally r.state (get_or text at 0) opened deep r.tally);
  reads = rw (add-one at) (rw (drop-cons text at 0 h) at r.reads);
}

few_open : (opens closes : Bool) (opened at : ℕ) → opened ≤ at → open_if opens closes opened ≤ at + 1
unfolding open_if
few_open true closes opened at h = omega arith
few_open false true opened at h = omega arith
few_open false false opened at h = omega arith

still_few : (c opened after at : ℕ) → after ≡ open_after c opened → opened ≤ at → after ≤ at + 1
unfolding open_after
still_few c opened after at e h = rw e (few_open (eqb c 40) _ opened at h)

-- the whole text is read
read_through : (text : List ℕ) (stand : Stand) (opened : ℕ) (deep : Bool) (at : ℕ) → length text ≤ at → Reached text stand opened deep at
    → form_by stand opened deep ≡ form_in (read_of text)
unfolding read_from
read_through text stand opened deep at past r =
    finished_stands r.state stand opened deep r.stands r.tally
    ∙ ap form_in (rw (drop_of_length-le text {i = at} past) at r.reads)

begins : (text : List ℕ) → Reached text Start 0 false 0
unfolding StandsAt Tally Tallies wants_nests pile_nests behind_nests read_of
begins text = record { state = Wants [] Nothing; stands = refl; tally = (refl, refl); reads = refl }

pub loop-c-init : goal.loop-c-init
loop-c-init c = record { few = omega arith; reached = begins _ }

pub loop-c-preserved : goal.loop-c-preserved
loop-c-preserved c =
    let text = c.args.text.now in record {
      few = still_few _ _ _ _ c.open_after-opened.ensures c.loop-c.invariant.few;
      reached = further text _ _ _ _ _ _ c.loop-c.c-index c.loop-c-test.true c.step-stand.ensures c.open_after-opened.ensures
          (elim c.if-deep.branch [
            | then-deep w ↦ w.deep-is ∙ rw w.if-deep.true
            | else-deep+then-c-eq40 w ↦ w.deep-is ∙ rw (w.if-deep.false, eq-eqb _ 40 w.if-c-eq40.true)
            | else-deep+else-c-eq40 w ↦ w.deep-is ∙ rw (w.if-deep.false, ne_eqb _ 40 w.if-c-eq40.false)
          ]) c.loop-c.invariant.reached;
    }

pub returns : goal.returns
returns c =
    c.ended.ensures ∙ read_through _ _ _ _ c.loop-c.c-index c.loop-c-test.false c.loop-c.invariant.reached

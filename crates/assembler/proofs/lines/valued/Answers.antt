-- `valued` takes what is inside and reached.
use Prim.Native.Nat.{ℕ, suc, ◌-◌, ◌%◌, ◌≤◌}
use borrow.Author.Tests.{leb-true}
use mathlib.Core.Bool.{Bool, true, false, ◌&&◌}
use mathlib.Core.List.{List}
use mathlib.Core.Path.{◌≡◌, refl, sym, ◌∙◌}
use mir.Syntax.{w32}
use native.Mathlib.Omega.{arith}
use Rattle.std.proofs.lemmas.Int.{to_z-of_z}
use lib.Dec.{leb}
use lib.IntN.{ℤ, pos, negsuc}
use Rattle.arith.specs.Width.{difference_of}
use Rattle.arith.specs.Words.{back, further}
use Rattle.constants.specs.Answer.{signed}
use Rattle.spellings.specs.Bytes.{bytes_of}
use Rattle.spellings.specs.declared.Slot.{Slot}
use Rattle.spellings.specs.declared.Slot.TheVariants.{Bare, N8, N16, High, E8, Target, U3, Vec}
use Rattle.assembler.specs.Ranges.{highest, lowest, number_in, reached}
use Rattle.assembler.specs.Lines.{Verdict, Fault, Bytes, verdict_if, valued_by, verdict_by}
use Rattle.assembler.specs.Judging.{within, word_in}
use Rattle.assembler.proofs.lines.valued.Goals.{else-holds-via-then-holds+else-reached, else-holds-via-else-holds}
use Rattle.assembler.proofs.lines.valued.Goals as goal

-- no value in a range is more than a word
highest_most : (s : Slot) → highest s ≤ 65535
unfolding highest
highest_most Bare = omega arith
highest_most N8 = omega arith
highest_most N16 = omega arith
highest_most High = omega arith
highest_most E8 = omega arith
highest_most Target = omega arith
highest_most U3 = omega arith
highest_most Vec = omega arith

lowest_most : (s : Slot) → lowest s ≤ 32768
unfolding lowest
lowest_most Bare = omega arith
lowest_most N8 = omega arith
lowest_most N16 = omega arith
lowest_most High = omega arith
lowest_most E8 = omega arith
lowest_most Target = omega arith
lowest_most U3 = omega arith
lowest_most Vec = omega arith

module _ (a row : ℕ) (slot : Slot) where
  abbrev number_at : ℕ → ℕ
  number_at w = number_in (further 2 a) slot w

  abbrev judged : Bool → ℕ → Verdict
  judged t w = verdict_if (t && reached slot (number_at w)) (bytes_of row slot (number_at w))

  as_word : (t : Bool) (w u : ℕ) → (t ≡ true → w ≡ u) → valued_by a row slot t w ≡ judged t u
  unfolding valued_by verdict_if
  as_word true w u f = rw (f refl)
  as_word false w u f = refl

  by_value : (v : ℤ) → verdict_by a row slot (signed v) ≡ judged (within slot v) (word_in v)
  unfolding signed verdict_by word_in back difference_of
  by_value (pos n) =
      as_word (leb n (highest slot)) n (n % 65536) (λ e. let most = leb-true n (highest slot) e in omega (arith, most, highest_most slot))
  by_value (negsuc n) =
      as_word (leb (suc n) (lowest slot)) (back (suc n) 0) (65535 - n % 65536)
      (λ e. let most = leb-true (suc n) (lowest slot) e in omega (arith, most, lowest_most slot))

  module _ (v : ℤ) (next w n : ℕ) (behind : next ≡ further 2 a) (word : w ≡ word_in v) (number : n ≡ number_in next slot w) where
    number_is : n ≡ number_at (word_in v)
    number_is = rw (← behind, ← word) number

    takes : (bytes : List ℕ) → within slot v ≡ true → reached slot n ≡ true → bytes ≡ bytes_of row slot n
        → verdict_by a row slot (signed v) ≡ Bytes bytes
    unfolding verdict_if
    takes bytes i r is = by_value v ∙ rw (← number_is, i, r, is)

    not_inside : within slot v ≡ false → verdict_by a row slot (signed v) ≡ Fault 14
    unfolding verdict_if
    not_inside i = by_value v ∙ rw i

    not_reached : within slot v ≡ true → reached slot n ≡ false → verdict_by a row slot (signed v) ≡ Fault 14
    unfolding verdict_if
    not_reached i r = by_value v ∙ rw (← number_is, i, r)

pub returns-then-reached : goal.returns-then-reached
returns-then-reached c =
    let word = rw (to_z-of_z w32 c.args.value c.ranges.value) at c.word.ensures in
    let held = rw (to_z-of_z w32 c.args.value c.ranges.value) at c.holds.ensures in
    takes _ _ _ _ _ _ _ c.further.ensures word c.number-number.ensures _ (sym held ∙ c.if-holds.true)
    (sym c.reached.ensures ∙ c.if-reached.true) c.bytes.ensures

pub returns-else-holds : goal.returns-else-holds
returns-else-holds c =
    let word = rw (to_z-of_z w32 c.args.value c.ranges.value) at c.word.ensures in
    let held = rw (to_z-of_z w32 c.args.value c.ranges.value) at c.holds.ensures in
    elim c.else-holds.branch [
      | else-holds-via-then-holds+else-reached w ↦
          not_reached _ _ _ _ _ _ _ c.further.ensures word c.number-number.ensures (sym held ∙ w.if-holds.true)
          (sym w.reached.ensures ∙ w.if-reached.false)
      | else-holds-via-else-holds w ↦
          not_inside _ _ _ _ _ _ _ c.further.ensures word c.number-number.ensures (sym held ∙ w.if-holds.false)
    ]

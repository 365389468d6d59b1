-- A turn over a level by places in the text: a sign, where there is one, and a term.
-- Assumes nothing.
use Prim.Native.Nat.{ℕ, suc, ◌+◌, ◌-◌, ◌<◌}
use mathlib.Core.Bool.{Bool, true, false, ◌||◌, not}
use mathlib.Core.List.{List, ◌∷◌}
use mathlib.Core.Logic.{◌≢◌}
use mathlib.Core.Path.{◌≡◌, refl, sym, ap, ◌∙◌}
use native.Mathlib.Numerals.{add-one}
use native.Mathlib.Omega.{arith}
use borrow.Author.Tests.{leb-true, leb-false, le-leb, lt-leb}
use lib.Dec.{leb}
use lib.IntN.{◌+ℤ◌}
use lib.ListN.{length, get_or, drop}
use Rattle.constants.specs.Constant.{Number, Within, worth, term_value, small_term}
use Rattle.constants.specs.Reading.{Behind, Nothing, put, State, Wants, Has, state_if, begun, Formed, read_from}
use Rattle.constants.specs.Sums.{goes_on}
use Rattle.constants.specs.Totals.{clipped, total_of, turned_by, width_of, turned, Opens, Sums, NumberAt, Counts, Adds, Numeral, Total, Sum}
use Rattle.constants.proofs.Nesting.{room}
use Rattle.constants.proofs.Places.{Signed, Level, signed, holds_on, goes_on_lem, closed_within, term_read}

-- a number that the code holds is small if the number is
clipped_small : (n : ℕ) (t : Bool) → leb n 65535 ≡ t → leb (clipped n) 65535 ≡ t
clipped_small n true e = let h = leb-true n 65535 e in le-leb (clipped n) 65535 (omega arith)
clipped_small n false e = let h = leb-false n 65535 e in lt-leb (clipped n) 65535 (omega arith)

module _ {text : List ℕ} {from depth : ℕ} {negative : Bool} {first : Total} {at : ℕ} {t : Total} (o : Opens text from depth first)
    (level : Level text from negative first at t) (goes : goes_on (drop at text) ≡ true)
  where
    pub here : at < length text
    here = (goes_on_lem text at _ refl goes).0

    formed : read_from (Wants o.pile Nothing) (drop from text) ≡ Formed o.whole
    formed = o.reads

    sign_here : Signed text at level.sofar
    sign_here =
        let on = goes_on_lem text at _ refl goes in
        signed text at on.0 o.pile o.whole level.sofar _ _ refl refl on.1 (sym (level.reads o.pile) ∙ formed)

    abbrev place : ℕ
    place = at + width_of (get_or text at 0)

    pub place_within : place < length text
    place_within = sign_here.within

    term_formed : read_from (begun o.pile sign_here.behind (get_or text place 0)) (drop (suc place) text) ≡ Formed o.whole
    term_formed = sym (sign_here.reads o.pile) ∙ sym (level.reads o.pile) ∙ formed

    -- a constant in parentheses
    module _ (opens : get_or text place 0 ≡ 40) where
      opened : (pile : List Behind) → begun pile sign_here.behind (get_or text place 0) ≡ Wants (sign_here.behind ∷ pile) Nothing
      unfolding begun state_if
      opened pile = rw opens

      inner_formed : read_from (Wants (sign_here.behind ∷ o.pile) Nothing) (drop (suc place) text) ≡ Formed o.whole
      inner_formed = ap (λ (s : State). read_from s (drop (suc place) text)) (sym (opened o.pile)) ∙ term_formed

      inner_room : length o.pile < 16
      inner_room = room o.pile sign_here.behind (drop (suc place) text) o.whole inner_formed o.fits

      pub depth_left : 0 < depth
      depth_left = omega (arith, inner_room, o.room)

      pub inner_opens : Opens text (place + 1) (depth - 1) t
      inner_opens = record {
        pile = sign_here.behind ∷ o.pile;
        whole = o.whole;
        reads = rw (add-one place) inner_formed;
        fits = o.fits;
        room = omega (arith, inner_room, o.room);
        within = omega (arith, place_within);
        holds = holds_on (omega arith) level.holds;
      }

      module _ (r : Sum) (below : Bool) (is : below ≡ turned (get_or text at 0) negative) (sums : Sums text (place + 1) below t r) where
        inner_reads : (pile : List Behind) → read_from (Wants pile Nothing) (drop (suc place) text) ≡ read_from (Has pile sums.sum) (drop r.at text)
        inner_reads = rw (add-one place) at sums.reads

        inner_closed : (r.at < length text)
            × ((p : List Behind) → read_from (Has (sign_here.behind ∷ p) sums.sum) (drop r.at text)
            ≡ read_from (Has p (put sign_here.behind (Within sums.sum))) (drop (suc r.at) text))
        inner_closed =
            closed_within text r.at sign_here.behind o.pile o.whole sums.sum sums.ends
            (sym (inner_reads (sign_here.behind ∷ o.pile)) ∙ inner_formed)

        pub closed_within_text : r.at < length text
        closed_within_text = inner_closed.0

        pub inner_further : at < r.at + 1
        inner_further = omega (arith, sums.further)

        pub inner_level : Level text from negative first (r.at + 1) r.total
        unfolding small_term term_value
        inner_level =
            term_read text from negative first at t level sign_here (Within sums.sum) (r.at + 1) r.total
            (λ pile. rw (add-one r.at)
            (ap (λ (s : State). read_from s (drop (suc place) text)) (opened pile)
            ∙ inner_reads (sign_here.behind ∷ pile)
            ∙ inner_closed.1 pile))
            (omega (arith, sums.further))
            (omega (arith, inner_closed.0))
            (holds_on (omega arith) sums.holds)
            sums.large
            (rw is at sums.total)

    -- a number
    pub number_at : get_or text place 0 ≢ 40 → NumberAt text place
    number_at other = record {
      pile = o.pile;
      behind = sign_here.behind;
      whole = o.whole;
      reads = term_formed;
      within = place_within;
      other = other;
    }

    module _ (r : Numeral) (after : Total) (below : Bool) (is : below ≡ turned (get_or text at 0) negative) (counts : Counts text place r)
        (adds : Adds t r.value below after)
      where
        number_large : after.large ≡ (t.large || not (small_term (Number counts.base counts.digits)))
        unfolding small_term
        number_large = adds.large ∙ rw (counts.value, clipped_small (worth counts.base counts.digits) _ refl)

        number_total : small_term (Number counts.base counts.digits) ≡ true
            → total_of after ≡ total_of t +ℤ turned_by (turned (get_or text at 0) negative) (term_value (Number counts.base counts.digits))
        unfolding small_term term_value
        number_total e =
            let small = leb-true (worth counts.base counts.digits) 65535 e in
            let same : clipped (worth counts.base counts.digits) ≡ worth counts.base counts.digits = omega arith in
            let held : r.value ≡ worth counts.base counts.digits = counts.value ∙ same in
            rw (is, held) at (adds.total (omega (arith, held, small)))

        pub number_further : at < r.at
        number_further = omega (arith, counts.further)

        pub number_level : Level text from negative first r.at after
        number_level =
            term_read text from negative first at t level sign_here (Number counts.base counts.digits) r.at after
            (λ pile. counts.reads pile sign_here.behind)
            (omega (arith, counts.further))
            counts.within
            (holds_on (omega (arith, counts.further)) (adds.holds at level.holds))
            number_large
            number_total

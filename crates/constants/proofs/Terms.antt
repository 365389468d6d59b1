-- A turn of the code's loop over a level: a sign, where there is one, and a term.
-- Assumes nothing.
use Prim.Native.Nat.{ℕ, ◌+◌, ◌-◌, ◌*◌, ◌≤◌, ◌<◌, ◌^◌}
use Rattle.std.specs.Prelude.{Result}
use mathlib.Core.Bool.{true, false}
use mathlib.Core.List.{List, ◌∷◌}
use mathlib.Core.Logic.{◌≢◌}
use mathlib.Core.Path.{◌≡◌, sym, ap, ◌∙◌}
use native.Mathlib.Omega.{arith}
use borrow.Author.Tests.{le-leb, lt-leb}
use lib.IntN.{ℤ, pos, negsuc, neg_ℤ}
use lib.ListN.{length, get_or, take, drop, length-drop}
use lib.Signed.{◌≤ℤ◌}
use Rattle.std.proofs.lemmas.Int.{ints}
use Rattle.std.proofs.lemmas.List.{take_all}
use Rattle.std.specs.Int.Signed.{mag}
use Rattle.constants.specs.Constant.{Number, Within, Constant, worth, term_value, small_term, small}
use Rattle.constants.specs.Reading.{Behind, Nothing, put, State, Wants, Has, state_if, begun, Formed, read_from}
use Rattle.constants.specs.Sums.{JoinFits, joined, Bounded, goes_on, behind_sign, Opens, Summed, NumberAt, Counts}
use Rattle.arith.specs.declared.Refusal.{Refusal}
use Rattle.constants.specs.declared.Counted.{Counted}
use Rattle.constants.proofs.Nesting.{room}
use Rattle.constants.proofs.Levels.{Signed, Level, goes_signed, closed_within, term_read}
use Rattle.constants.proofs.Small.{number_large}

-- a bounded value is far from the ends of what the code holds
bounded_mag : (n : ℕ) (v : ℤ) → Bounded n v → mag v ≤ 65535 * n
bounded_mag n (pos m) b = let above : pos m ≤ℤ pos (65535 * n) = b.above in omega (arith, ints)
bounded_mag n (negsuc m) b = let below : neg_ℤ (pos (65535 * n)) ≤ℤ negsuc m = b.below in omega (arith, ints)

pub fits_both : (sign m n : ℕ) (a b : ℤ) → Bounded m a → Bounded n b → m < 2 ^ 64 → n < 2 ^ 64 → JoinFits a sign b
fits_both sign m n a b p q h l =
    let first = bounded_mag m a p in
    let second = bounded_mag n b q in
    record { total_fits = omega arith; term_fits = omega arith }

-- all but the first character
pub part : (l : List ℕ) → take (length l - 1) (drop 1 l) ≡ drop 1 l
part l = take_all (length l - 1) (drop 1 l) (rw (length-drop 1 l) (omega arith))

bounded_more : (m n : ℕ) (v : ℤ) → Bounded m v → m ≤ n → Bounded n v
bounded_more m n v b h =
    let above : v ≤ℤ pos (65535 * m) = b.above in
    let below : neg_ℤ (pos (65535 * m)) ≤ℤ v = b.below in
    record { above = omega (arith, ints); below = omega (arith, ints) }

module _ {text rest : List ℕ} {depth : ℕ} {total : ℤ} (o : Opens text depth) (level : Level text rest total) (goes : goes_on rest ≡ true)
  where
    on : (0 < length rest) × Signed rest level.sofar
    on = goes_signed rest o.pile o.whole level.sofar goes (sym (level.reads o.pile) ∙ o.reads)

    pub here : 0 < length rest
    here = on.0

    sign_here : Signed rest level.sofar
    sign_here = on.1

    pub term_here : 0 < length (behind_sign rest)
    term_here = sign_here.some

    term_formed : read_from (begun o.pile sign_here.behind (get_or (behind_sign rest) 0 0)) (drop 1 (behind_sign rest)) ≡ Formed o.whole
    term_formed = sym (sign_here.reads o.pile) ∙ sym (level.reads o.pile) ∙ o.reads

    -- a constant in parentheses
    module _ (opens : get_or (behind_sign rest) 0 0 ≡ 40) where
      opened : (pile : List Behind) → begun pile sign_here.behind (get_or (behind_sign rest) 0 0) ≡ Wants (sign_here.behind ∷ pile) Nothing
      unfolding begun state_if
      opened pile = rw opens

      inner_formed : read_from (Wants (sign_here.behind ∷ o.pile) Nothing) (drop 1 (behind_sign rest)) ≡ Formed o.whole
      inner_formed = ap (λ (s : State). read_from s (drop 1 (behind_sign rest))) (sym (opened o.pile)) ∙ term_formed

      inner_room : length o.pile < 16
      inner_room = room o.pile sign_here.behind (drop 1 (behind_sign rest)) o.whole inner_formed o.fits

      pub depth_left : 0 < depth
      depth_left = omega (arith, inner_room, o.room)

      shorter : length (drop 1 (behind_sign rest)) + 1 ≤ length rest
      shorter = rw (length-drop 1 (behind_sign rest)) (omega (arith, term_here, sign_here.no_longer))

      pub inner_opens : Opens (drop 1 (behind_sign rest)) (depth - 1)
      inner_opens = record {
        pile = sign_here.behind ∷ o.pile;
        whole = o.whole;
        reads = inner_formed;
        fits = o.fits;
        room = omega (arith, inner_room, o.room);
        short = omega (arith, shorter, level.counted, o.short);
      }

      -- a number in it that is too large is one in the whole
      pub inner_large : ((pile : List Behind) (x : Constant) → read_from (Wants pile Nothing) (drop 1 (behind_sign rest)) ≡ Formed x → small x ≡ false)
          → (pile : List Behind) (x : Constant) → read_from (Wants pile Nothing) text ≡ Formed x → small x ≡ false
      inner_large large pile x e =
          large (sign_here.behind ∷ pile) x
          (ap (λ (s : State). read_from s (drop 1 (behind_sign rest))) (sym (opened pile)) ∙ sym (sign_here.reads pile) ∙ sym (level.reads pile) ∙ e)

      module _ (v : ℤ) (left : List ℕ) (sums : Summed (drop 1 (behind_sign rest)) v left) where
        inner_closed : (0 < length left)
            × ((p : List Behind) → read_from (Has (sign_here.behind ∷ p) sums.sum) left
            ≡ read_from (Has p (put sign_here.behind (Within sums.sum))) (drop 1 left))
        inner_closed =
            closed_within left sign_here.behind o.pile o.whole sums.sum sums.ends
            (sym (sums.reads (sign_here.behind ∷ o.pile)) ∙ inner_formed)

        pub closed_here : 0 < length left
        closed_here = inner_closed.0

        pub inner_fits : JoinFits total (get_or rest 0 0) v
        inner_fits =
            fits_both (get_or rest 0 0) level.count sums.count total v level.bounded sums.bounded
            (omega (arith, level.counted, o.short)) (omega (arith, sums.counted, shorter, level.counted, o.short))

        left_shorter : length (drop 1 left) + (length rest - length (drop 1 left)) ≡ length rest
        left_shorter = rw (length-drop 1 left) (omega (arith, shorter, sums.counted))

        pub inner_smaller : length (drop 1 left) < length rest
        inner_smaller = rw (length-drop 1 left) (omega (arith, shorter, sums.counted))

        pub inner_level : Level text (drop 1 left) (joined total (get_or rest 0 0) v)
        unfolding small_term term_value
        inner_level =
            term_read level sign_here (Within sums.sum) (drop 1 left) v (length rest - length (drop 1 left))
            (λ pile. ap (λ (s : State). read_from s (drop 1 (behind_sign rest))) (opened pile)
            ∙ sums.reads (sign_here.behind ∷ pile)
            ∙ inner_closed.1 pile)
            sums.small sums.is left_shorter
            (bounded_more sums.count (length rest - length (drop 1 left)) v sums.bounded
            (rw (length-drop 1 left) (omega (arith, shorter, sums.counted))))

    -- a number
    pub number_at : get_or (behind_sign rest) 0 0 ≢ 40 → NumberAt (behind_sign rest)
    number_at other = record {
      pile = o.pile;
      behind = sign_here.behind;
      whole = o.whole;
      reads = term_formed;
      some = term_here;
      other = other;
    }

    module _ (r : Result Counted Refusal) (counts : Counts (behind_sign rest) r) where
      -- one that is too large is in the whole
      pub number_too_large : 65535 < worth counts.base counts.digits
          → (pile : List Behind) (x : Constant) → read_from (Wants pile Nothing) text ≡ Formed x → small x ≡ false
      unfolding small_term
      number_too_large h pile x e =
          number_large counts.rest pile sign_here.behind counts.base counts.digits x
          (lt-leb (worth counts.base counts.digits) 65535 h)
          (sym (counts.reads pile sign_here.behind) ∙ sym (sign_here.reads pile) ∙ sym (level.reads pile) ∙ e)

      module _ (n : ℕ) (is : n ≡ worth counts.base counts.digits) (h : n ≤ 65535) where
        number_bounded : (k : ℕ) → 0 < k → Bounded k (pos n)
        number_bounded k some =
            let most : n ≤ 65535 * k = omega arith in
            record { above = omega (arith, ints); below = omega (arith, ints) }

        pub number_fits : JoinFits total (get_or rest 0 0) (pos n)
        number_fits =
            fits_both (get_or rest 0 0) level.count 1 total (pos n) level.bounded (number_bounded 1 (omega arith))
            (omega (arith, level.counted, o.short)) (omega arith)

        pub number_smaller : length counts.rest < length rest
        number_smaller = omega (arith, counts.shorter, sign_here.no_longer)

        pub number_level : Level text counts.rest (joined total (get_or rest 0 0) (pos n))
        unfolding small_term term_value
        number_level =
            term_read level sign_here (Number counts.base counts.digits) counts.rest (pos n) (length rest - length counts.rest)
            (λ pile. counts.reads pile sign_here.behind)
            (le-leb (worth counts.base counts.digits) 65535 (omega arith))
            (ap pos is)
            (omega (arith, number_smaller))
            (number_bounded (length rest - length counts.rest) (omega (arith, number_smaller)))

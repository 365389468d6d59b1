-- How deep the parentheses are nested in what is read so far, and that the count of open ones tells whether 16 are passed.
-- Assumes nothing.
use Prim.Native.Nat.{ℕ, zero, suc, ◌-◌, ◌<◌}
use mathlib.Core.Bool.{Bool, true, false, ◌||◌, ◌&&◌, not, and_assoc, and-true, and-false, or-false, true≢false}
use mathlib.Core.List.{List, [], ◌∷◌}
use mathlib.Core.Path.{◌≡◌, refl, sym, ◌∙◌}
use native.Mathlib.Omega.{arith}
use borrow.Author.Tests.{leb-true, leb-false, ltb-true, ltb-false, lt-ltb, le-ltb}
use lib.Dec.{eqb, leb, ltb, lit≤, eqb-suc-zero}
use lib.ListN.{length}
use Rattle.constants.specs.Constant.{Term, Number, Within, Constant, nests, nests_term}
use Rattle.constants.specs.declared.Base.{Base}
use Rattle.constants.specs.Reading.{Behind, Nothing, Sign, Joined, Less, put, State, Wants, Digits, Has, Stuck, begun, closed, followed, ended, step, finished, Formed, read_from}
use Rattle.constants.specs.Answer.{deepest}
use Rattle.constants.specs.Forms.{open_if, open_after}
use Rattle.constants.proofs.Worth.{no_constant}
use Rattle.constants.proofs.Steps.{decimal_from, digit_from, digit_not, by_begun, by_wanted, by_followed, by_digit}

-- what stands before a term nests at most so deep
unfoldable pub behind_nests : Behind → ℕ → Bool
behind_nests Nothing n = true
behind_nests Sign n = true
behind_nests (Joined x) n = nests x n
behind_nests (Less x) n = nests x n

pub put_nests : (b : Behind) (t : Term) (n : ℕ) → nests (put b t) n ≡ (behind_nests b n && nests_term t n)
unfolding put behind_nests nests
put_nests Nothing t n = refl
put_nests Sign t n = refl
put_nests (Joined x) t n = refl
put_nests (Less x) t n = refl

-- a pile, and what stands before the term that is read: no more than 16 are nested, those that are open among them
unfoldable pub pile_nests : List Behind → Bool
pile_nests [] = true
pile_nests (b ∷ pile) = (pile_nests pile && behind_nests b (16 - length pile)) && ltb (length pile) 16

unfoldable pub wants_nests : List Behind → Behind → Bool
wants_nests pile b = pile_nests pile && behind_nests b (16 - length pile)

unfoldable pub has_nests : List Behind → Constant → Bool
has_nests pile x = pile_nests pile && nests x (16 - length pile)

-- a parenthesis that closes
within_nests : (x : Constant) (n : ℕ) (t : Bool) → ltb n 16 ≡ t → nests_term (Within x) (16 - n) ≡ (t && nests x (16 - suc n))
unfolding nests_term
within_nests x n true e =
    let below = ltb-true n 16 e in
    let one : 16 - n ≡ suc (16 - suc n) = omega arith in
    rw one
within_nests x n false e =
    let past = ltb-false n 16 e in
    let none : 16 - n ≡ zero = omega arith in
    rw none

pub closed_nests : (pile : List Behind) (b : Behind) (x : Constant) → has_nests pile (put b (Within x)) ≡ has_nests (b ∷ pile) x
unfolding has_nests pile_nests
closed_nests pile b x =
    rw (put_nests b (Within x) (16 - length pile), within_nests x (length pile) _ refl)
    (sym (
    and_assoc (pile_nests pile && behind_nests b (16 - length pile)) (ltb (length pile) 16) (nests x (16 - suc (length pile)))
    ∙ and_assoc (pile_nests pile) (behind_nests b (16 - length pile)) (ltb (length pile) 16 && nests x (16 - suc (length pile)))
    ))

-- a number nests nothing
pub number_nests : (pile : List Behind) (b : Behind) (base : Base) (digits : List ℕ) → has_nests pile (put b (Number base digits)) ≡ wants_nests pile b
unfolding has_nests wants_nests nests_term
number_nests pile b base digits = rw (put_nests b (Number base digits) (16 - length pile), and-true (behind_nests b (16 - length pile)))

-- the count of open parentheses, and whether there were more than 16, as the code has them
unfoldable pub Tallies : List Behind → Bool → ℕ → Bool → Type 0
Tallies pile nesting opened deep = (length pile ≡ opened) × (nesting ≡ not deep)

unfoldable pub Tally : State → ℕ → Bool → Type 0
Tally (Wants pile b) opened deep = Tallies pile (wants_nests pile b) opened deep
Tally (Digits pile b base digits) opened deep = Tallies pile (wants_nests pile b) opened deep
Tally (Has pile x) opened deep = Tallies pile (has_nests pile x) opened deep
Tally Stuck opened deep = Unit {0}

-- the same behind one more character
abbrev pub deep_after : ℕ → ℕ → Bool → Bool
deep_after c opened deep = deep || (eqb c 40 && leb 16 opened)

abbrev TallyAfter : State → ℕ → ℕ → Bool → Type 0
TallyAfter s c opened deep = Tally s (open_after c opened) (deep_after c opened deep)

-- a character that is no parenthesis changes nothing
kept : (pile : List Behind) (nesting : Bool) (c opened : ℕ) (deep : Bool) → eqb c 40 ≡ false → eqb c 41 ≡ false
    → Tallies pile nesting opened deep → Tallies pile nesting (open_after c opened) (deep_after c opened deep)
unfolding Tallies open_after open_if
kept pile nesting c opened deep e f t = rw (e, f, or-false deep) t

not_less : (n : ℕ) (t : Bool) → leb 16 n ≡ t → ltb n 16 ≡ not t
not_less n true e = le-ltb n 16 (leb-true 16 n e)
not_less n false e = lt-ltb n 16 (leb-false 16 n e)

opens : (nesting deep more : Bool) → nesting ≡ not deep → (nesting && not more) ≡ not (deep || more)
opens nesting true more e = rw e
opens nesting false more e = rw e

opened_tally : (pile : List Behind) (b : Behind) (opened : ℕ) (deep : Bool) → Tallies pile (wants_nests pile b) opened deep
    → TallyAfter (Wants (b ∷ pile) Nothing) 40 opened deep
unfolding Tally Tallies wants_nests pile_nests behind_nests open_after open_if
opened_tally pile b opened deep t = (
  rw t.0 (omega arith),
  rw (and-true ((pile_nests pile && behind_nests b (16 - length pile)) && ltb (length pile) 16), t.0, not_less opened _ refl)
      (opens (pile_nests pile && behind_nests b (16 - opened)) deep (leb 16 opened) (rw t.0 at t.1)),
)

closed_tally : (pile : List Behind) (x : Constant) (opened : ℕ) (deep : Bool) → Tallies pile (has_nests pile x) opened deep
    → TallyAfter (closed pile x) 41 opened deep
unfolding Tally Tallies closed open_after open_if
closed_tally [] x opened deep t = tt
closed_tally (b ∷ pile) x opened deep t = (
  rw (← t.0, eqb-suc-zero (length pile)) (omega arith),
  rw (or-false deep) (closed_nests pile b x ∙ t.1),
)

module _ (pile : List Behind) (c opened : ℕ) (deep : Bool) where
  begun_tally : (b : Behind) → Tallies pile (wants_nests pile b) opened deep → TallyAfter (begun pile b c) c opened deep
  unfolding Tally
  begun_tally b t =
      by_begun (λ s. TallyAfter s c opened deep) pile c b
      (λ e. rw e (opened_tally pile b opened deep t))
      (λ e. rw e (kept pile _ 36 opened deep refl refl t))
      (λ e. let h = decimal_from c e in kept pile _ c opened deep (digit_not c 40 h (lit≤ tt)) (digit_not c 41 h (lit≤ tt)) t)
      (λ _ _ _. tt)

  followed_tally : (x : Constant) → Tallies pile (has_nests pile x) opened deep → TallyAfter (followed pile x c) c opened deep
  unfolding Tally wants_nests behind_nests
  followed_tally x t =
      by_followed (λ s. TallyAfter s c opened deep) pile c x
      (λ e. rw e (kept pile _ 43 opened deep refl refl (unfold has_nests in t)))
      (λ e. rw e (kept pile _ 45 opened deep refl refl (unfold has_nests in t)))
      (λ e. rw e (closed_tally pile x opened deep t))
      (λ _ _ _. tt)

ended_tally : (pile : List Behind) (b : Behind) (base : Base) (digits : List ℕ) (c opened : ℕ) (deep : Bool)
    → Tallies pile (wants_nests pile b) opened deep → TallyAfter (ended pile b base digits c) c opened deep
unfolding ended Tally
ended_tally pile b base [] c opened deep t = tt
ended_tally pile b base (d ∷ ds) c opened deep t =
    followed_tally pile c opened deep (put b (Number base (d ∷ ds))) (rw (number_nests pile b base (d ∷ ds)) t)

pub step_tally : (s : State) (c opened : ℕ) (deep : Bool) → Tally s opened deep → TallyAfter (step s c) c opened deep
unfolding step Tally wants_nests behind_nests
step_tally (Wants pile b) c opened deep t =
    by_wanted (λ s. TallyAfter s c opened deep) pile c b
    (λ e f. rw f (kept pile _ 45 opened deep refl refl (rw e at t)))
    (begun_tally pile c opened deep b t)
step_tally (Digits pile b base digits) c opened deep t =
    by_digit (λ s. TallyAfter s c opened deep) pile c b base digits
    (λ e. let h = digit_from base c e in kept pile _ c opened deep (digit_not c 40 h (lit≤ tt)) (digit_not c 41 h (lit≤ tt)) t)
    (λ e. ended_tally pile b base digits c opened deep t)
step_tally (Has pile x) c opened deep t = followed_tally pile c opened deep x t
step_tally Stuck c opened deep t = tt

-- once 16 are passed, what is read nests deeper
deep_finished : (s : State) (opened : ℕ) (x : Constant) → Tally s opened true → finished s ≡ Formed x → nests x deepest ≡ false
unfolding Tally Tallies finished has_nests pile_nests
deep_finished (Wants pile b) opened x t e = absurd (no_constant e)
deep_finished (Digits [] b base []) opened x t e = absurd (no_constant e)
deep_finished (Digits [] b base (d ∷ ds)) opened x t e =
    let same : put b (Number base (d ∷ ds)) ≡ x = cc in
    rw (← same) (number_nests [] b base (d ∷ ds) ∙ t.1)
deep_finished (Digits (y ∷ pile) b base digits) opened x t e = absurd (no_constant e)
deep_finished (Has [] y) opened x t e =
    let same : y ≡ x = cc in
    rw (← same) t.1
deep_finished (Has (b ∷ pile) y) opened x t e = absurd (no_constant e)
deep_finished Stuck opened x t e = absurd (no_constant e)

deep_stays : (text : List ℕ) (s : State) (opened : ℕ) (x : Constant) → Tally s opened true → read_from s text ≡ Formed x → nests x deepest ≡ false
unfolding read_from
deep_stays [] s opened x t e = deep_finished s opened x t e
deep_stays (c ∷ cs) s opened x t e = deep_stays cs (step s c) (open_after c opened) x (step_tally s c opened true t) e

-- so no more than 16 are open on the way to what nests no deeper
module _ (pile : List Behind) (b : Behind) (text : List ℕ) (x : Constant) (e : read_from (Wants (b ∷ pile) Nothing) text ≡ Formed x)
    (fits : nests x deepest ≡ true)
  where
    room_left : (t : Bool) → ltb (length pile) 16 ≡ t → t ≡ true
    unfolding Tally Tallies wants_nests pile_nests behind_nests
    room_left true f = refl
    room_left false f =
        let past = deep_stays text (Wants (b ∷ pile) Nothing) (suc (length pile)) x
        (refl, rw (f, and-false (pile_nests pile && behind_nests b (16 - length pile)))) e in
        absurd (true≢false (sym fits ∙ past))

    pub room : length pile < 16
    room = ltb-true (length pile) 16 (room_left _ refl)

-- A level of parentheses by places in the text: what is read of it, and the total with it.
-- Assumes nothing.
use Prim.Native.Nat.{ℕ, suc, ◌+◌, ◌*◌, ◌≤◌, ◌<◌}
use mathlib.Core.Bool.{Bool, true, false, ◌||◌, ◌&&◌, not, or-false, false≢true}
use mathlib.Core.List.{List, [], ◌∷◌, ◌++◌}
use mathlib.Core.Path.{◌≡◌, refl, sym, ap, ◌∙◌}
use native.Mathlib.Omega.{arith}
use borrow.Author.Tests.{eqb-true, not-true, not-false, ltb-false, ltb-true}
use lib.Dec.{eqb, ltb}
use lib.IntN.{ℤ, pos, neg_ℤ, ◌+ℤ◌, +ℤ_idl, +ℤ_idr, +ℤ_assoc, neg_ℤ-+ℤ, neg_ℤ-neg_ℤ}
use lib.ListN.{length, get_or, drop, length-drop, drop_of_length-le}
use lib.Seq.{drop-cons}
use Rattle.constants.specs.Constant.{Term, Within, Constant, is_decimal, digit_of, base_of, worth, term_value, value_of, small_term, small}
use Rattle.constants.specs.Reading.{Behind, Nothing, Sign, Joined, Less, put, State, Wants, Has, Stuck, state_if, begun, wanted, closed, followed, step, finished, Formed, read_from}
use Rattle.constants.specs.Sums.{goes_on}
use Rattle.constants.specs.declared.Base.{Base}
use Rattle.constants.specs.declared.Base.TheVariants.{Decimal, Hexadecimal}
use Rattle.constants.specs.Totals.{clipped, Total, Sum, total_of, turned_by, Holds, width_if, width_of, turned_if, turned, Sums}
use Rattle.constants.proofs.Steps.{both}
use Rattle.constants.proofs.Levels.{behind_value, behind_small, is_minus, put_small, Sofar, Begin, After, state_at, sofar_value, sofar_small}
use Rattle.constants.proofs.Worth.{stuck, no_constant, worth_digit}

-- a number above 65,535 stays above
clipped_more : (base : Base) (n d : ℕ) → clipped (clipped n * base_of base + d) ≡ clipped (n * base_of base + d)
unfolding base_of
clipped_more Decimal n d = omega arith
clipped_more Hexadecimal n d = omega arith

pub worth_clipped : (base : Base) (digits : List ℕ) (c : ℕ)
    → clipped (clipped (worth base digits) * base_of base + digit_of c) ≡ clipped (worth base (digits ++ (c ∷ [])))
worth_clipped base digits c =
    clipped_more base (worth base digits) (digit_of c) ∙ sym (ap clipped (worth_digit base digits c))

pub put_value : (b : Behind) (t : Term) → value_of (put b t) ≡ behind_value b +ℤ turned_by (is_minus b) (term_value t)
unfolding put value_of behind_value is_minus turned_by
put_value Nothing t = sym (+ℤ_idl (term_value t))
put_value Sign t = sym (+ℤ_idl (neg_ℤ (term_value t)))
put_value (Joined x) t = refl
put_value (Less x) t = refl

-- one more character
pub one_more_lem : (text : List ℕ) (s : State) (at : ℕ) → at < length text → read_from s (drop at text) ≡ read_from (step s (get_or text at 0)) (drop (suc at) text)
unfolding read_from
one_more_lem text s at h = rw (drop-cons text at 0 h)

-- a sign, where there is one, and where the term stands behind it
pub record Signed (text : List ℕ) (at : ℕ) (sofar : Sofar) : Type 0 where
  pub behind : Behind
  pub value : behind_value behind ≡ sofar_value sofar
  pub small : behind_small behind ≡ sofar_small sofar
  pub minus : is_minus behind ≡ eqb (get_or text at 0) 45
  pub within : at + width_of (get_or text at 0) < length text
  pub reads : (pile : List Behind) → read_from (state_at pile sofar) (drop at text)
      ≡ read_from (begun pile behind (get_or text (at + width_of (get_or text at 0)) 0)) (drop (suc (at + width_of (get_or text at 0))) text)

-- a term is to come, so the text goes on
wants_more : (text : List ℕ) (pile : List Behind) (b : Behind) (at : ℕ) (x : Constant) (t : Bool) → ltb at (length text) ≡ t
    → read_from (Wants pile b) (drop at text) ≡ Formed x → at < length text
unfolding read_from finished
wants_more text pile b at x true e r = ltb-true at (length text) e
wants_more text pile b at x false e r =
    absurd (no_constant (rw (drop_of_length-le text {i = at} (ltb-false at (length text) e)) at r))

module _ (text : List ℕ) (at : ℕ) (here : at < length text) (pile : List Behind) (x : Constant) where
  -- behind a sign
  behind_sign : (sofar : Sofar) (b : Behind) → behind_value b ≡ sofar_value sofar → behind_small b ≡ sofar_small sofar
      → is_minus b ≡ eqb (get_or text at 0) 45 → width_of (get_or text at 0) ≡ 1
      → ((p : List Behind) → step (state_at p sofar) (get_or text at 0) ≡ Wants p b)
      → ((p : List Behind) (c : ℕ) → step (Wants p b) c ≡ begun p b c)
      → read_from (state_at pile sofar) (drop at text) ≡ Formed x → Signed text at sofar
  behind_sign sofar b value small minus width first then e =
      let one : at + width_of (get_or text at 0) ≡ suc at = omega arith in
      let on : (p : List Behind) → read_from (state_at p sofar) (drop at text) ≡ read_from (Wants p b) (drop (suc at) text) =
      λ p. one_more_lem text (state_at p sofar) at here ∙ ap (λ (s : State). read_from s (drop (suc at) text)) (first p) in
      let next : suc at < length text = wants_more text pile b (suc at) x _ refl (sym (on pile) ∙ e) in
      record {
        behind = b;
        value = value;
        small = small;
        minus = minus;
        within = rw one next;
        reads =
            λ p. rw one
            (on p ∙ one_more_lem text (Wants p b) (suc at) next ∙ ap (λ (s : State). read_from s (drop (suc (suc at)) text)) (then p (get_or text (suc at) 0)));
      }

  -- where no constant begins so
  nowhere : (s : State) → step s (get_or text at 0) ≡ Stuck → read_from s (drop at text) ≡ Formed x → ⊥
  nowhere s e r =
      no_constant
      (sym (stuck (drop (suc at) text)) ∙ ap (λ (z : State). read_from z (drop (suc at) text)) (sym e) ∙ sym (one_more_lem text s at here) ∙ r)

  -- no sign: the first term
  unsigned : eqb (get_or text at 0) 43 ≡ false → eqb (get_or text at 0) 45 ≡ false → Signed text at Begin
  unfolding behind_value sofar_value behind_small sofar_small is_minus width_of width_if state_at step wanted state_if
  unsigned p m =
      let none : at + width_of (get_or text at 0) ≡ at = rw (p, m) (omega arith) in
      record {
        behind = Nothing;
        value = refl;
        small = refl;
        minus = sym m;
        within = rw none here;
        reads = λ q. rw none (one_more_lem text (Wants q Nothing) at here ∙ rw m);
      }

  pub signed : (sofar : Sofar) (plus minus : Bool) → eqb (get_or text at 0) 43 ≡ plus → eqb (get_or text at 0) 45 ≡ minus
      → eqb (get_or text at 0) 41 ≡ false → read_from (state_at pile sofar) (drop at text) ≡ Formed x → Signed text at sofar
  unfolding behind_value sofar_value behind_small sofar_small is_minus width_of width_if state_at step wanted begun followed state_if is_decimal
  signed Begin true minus p m k e = absurd (nowhere (Wants pile Nothing) (rw (eqb-true (get_or text at 0) 43 p)) e)
  signed Begin false true p m k e =
      behind_sign Begin Sign refl refl (sym m) (rw (p, m)) (λ q. rw m) (λ q c. refl) e
  signed Begin false false p m k e = unsigned p m
  signed (After y) true minus p m k e =
      behind_sign (After y) (Joined y) refl refl (rw (eqb-true (get_or text at 0) 43 p)) (rw p) (λ q. rw p) (λ q c. refl) e
  signed (After y) false true p m k e =
      behind_sign (After y) (Less y) refl refl (sym m) (rw (p, m)) (λ q. rw (p, m)) (λ q c. refl) e
  signed (After y) false false p m k e = absurd (nowhere (Has pile y) (rw (p, m, k)) e)

-- integers that count above 0 or below it
turned_sum : (negative : Bool) (a b : ℤ) → turned_by negative (a +ℤ b) ≡ turned_by negative a +ℤ turned_by negative b
unfolding turned_by
turned_sum false a b = refl
turned_sum true a b = neg_ℤ-+ℤ a b

turned_twice : (minus negative : Bool) (v : ℤ) → turned_by (turned_if minus negative) v ≡ turned_by negative (turned_by minus v)
unfolding turned_by turned_if
turned_twice false negative v = refl
turned_twice true false v = refl
turned_twice true true v = sym (neg_ℤ-neg_ℤ v)

turned_none : (negative : Bool) → turned_by negative (pos 0) ≡ pos 0
unfolding turned_by
turned_none false = refl
turned_none true = refl

not_both : (large t u : Bool) → ((large || not t) || not u) ≡ (large || not (t && u))
not_both true t u = refl
not_both false true u = refl
not_both false false u = refl

pub holds_on : {at next : ℕ} {t : Total} → at ≤ next → Holds at t → Holds next t
holds_on h p = record { low = p.low; up = omega (arith, p.up); down = omega (arith, p.down) }

-- how far a level is read
pub record Level (text : List ℕ) (from : ℕ) (negative : Bool) (first : Total) (at : ℕ) (t : Total) : Type 0 where
  pub sofar : Sofar
  pub reads : (pile : List Behind) → read_from (Wants pile Nothing) (drop from text) ≡ read_from (state_at pile sofar) (drop at text)
  pub further : from ≤ at
  pub within : at ≤ length text
  pub holds : Holds at t
  pub large : t.large ≡ (first.large || not (sofar_small sofar))
  pub total : sofar_small sofar ≡ true → total_of t ≡ total_of first +ℤ turned_by negative (sofar_value sofar)

pub begins : (text : List ℕ) (from : ℕ) (negative : Bool) (t : Total) → from ≤ length text → Holds from t → Level text from negative t from t
unfolding state_at sofar_small sofar_value
begins text from negative t h p = record {
  sofar = Begin;
  reads = λ pile. refl;
  further = omega arith;
  within = h;
  holds = p;
  large = sym (or-false t.large);
  total = λ _. rw (turned_none negative) (sym (+ℤ_idr (total_of t)));
}

module _ (text : List ℕ) (from : ℕ) (negative : Bool) (first : Total) (at : ℕ) (t : Total) (level : Level text from negative first at t) where
  -- the character of the sign, and the place behind it
  abbrev sign : ℕ
  sign = get_or text at 0

  abbrev place : ℕ
  place = at + width_of sign

  module _ (s : Signed text at level.sofar) (term : Term) (next : ℕ) (after : Total) where
    large_with : after.large ≡ (t.large || not (small_term term)) → after.large ≡ (first.large || not (small (put s.behind term)))
    large_with e =
        rw (put_small s.behind term, s.small)
        (e ∙ rw level.large (not_both first.large (sofar_small level.sofar) (small_term term)))

    total_with : (small_term term ≡ true → total_of after ≡ total_of t +ℤ turned_by (turned sign negative) (term_value term))
        → small (put s.behind term) ≡ true → total_of after ≡ total_of first +ℤ turned_by negative (value_of (put s.behind term))
    unfolding turned
    total_with f e =
        let smalls = both (sofar_small level.sofar) (small_term term) (rw (put_small s.behind term, s.small) at e) in
        let before = turned_by negative (sofar_value level.sofar) in
        let value = turned_by (eqb sign 45) (term_value term) in
        f smalls.1
        ∙ rw (
          level.total smalls.0,
          turned_twice (eqb sign 45) negative (term_value term),
          put_value s.behind term,
          s.value,
          s.minus,
          turned_sum negative (sofar_value level.sofar) value,
        ) (+ℤ_assoc (total_of first) before (turned_by negative value))

    -- one more term
    pub term_read : ((pile : List Behind) → read_from (begun pile s.behind (get_or text place 0)) (drop (suc place) text)
        ≡ read_from (Has pile (put s.behind term)) (drop next text)) → at ≤ next → next ≤ length text → Holds next after
        → after.large ≡ (t.large || not (small_term term))
        → (small_term term ≡ true → total_of after ≡ total_of t +ℤ turned_by (turned sign negative) (term_value term))
        → Level text from negative first next after
    unfolding state_at sofar_small sofar_value
    term_read reads further within holds large total = record {
      sofar = After (put s.behind term);
      reads = λ pile. level.reads pile ∙ s.reads pile ∙ reads pile;
      further = omega (arith, level.further);
      within = within;
      holds = holds;
      large = large_with large;
      total = total_with total;
    }

-- the text goes on, or the level ends here
pub goes_on_lem : (text : List ℕ) (at : ℕ) (t : Bool) → ltb at (length text) ≡ t → goes_on (drop at text) ≡ true
    → (at < length text) × (eqb (get_or text at 0) 41 ≡ false)
unfolding goes_on
goes_on_lem text at true e g =
    let here = ltb-true at (length text) e in
    (here, not-true (eqb (get_or text at 0) 41) (rw (drop-cons text at 0 here) at g))
goes_on_lem text at false e g =
    absurd (false≢true (rw (drop_of_length-le text {i = at} (ltb-false at (length text) e)) at g))

-- not at the begin
not_begun : (l : List ℕ) (pile : List Behind) (x : Constant) → goes_on l ≡ false → read_from (Wants pile Nothing) l ≡ Formed x → ⊥
unfolding goes_on read_from finished step wanted begun state_if is_decimal
not_begun [] pile x g e = no_constant e
not_begun (c ∷ cs) pile x g e =
    no_constant (sym (stuck cs) ∙ rw (eqb-true c 41 (not-false (eqb c 41) g)) at e)

ended : (text : List ℕ) (at : ℕ) (pile : List Behind) (x : Constant) (sofar : Sofar) → goes_on (drop at text) ≡ false
    → read_from (state_at pile sofar) (drop at text) ≡ Formed x → (y : Constant) × (sofar ≡ After y)
unfolding state_at
ended text at pile x Begin g e = absurd (not_begun (drop at text) pile x g e)
ended text at pile x (After y) g e = (y, refl)

pub level_sums : (text : List ℕ) (from : ℕ) (negative : Bool) (first : Total) (r : Sum) (pile : List Behind) (x : Constant)
    → Level text from negative first r.at r.total → goes_on (drop r.at text) ≡ false
    → read_from (Wants pile Nothing) (drop from text) ≡ Formed x → Sums text from negative first r
unfolding state_at sofar_small sofar_value
level_sums text from negative first r pile x level g formed =
    let end = ended text r.at pile x level.sofar g (sym (level.reads pile) ∙ formed) in
    let is = end.1 in
    record {
      sum = end.0;
      reads = λ p. rw is at (level.reads p);
      ends = g;
      further = level.further;
      within = level.within;
      holds = level.holds;
      large = rw is at level.large;
      total = rw is at level.total;
    }

-- a constant in parentheses
closes : (l : List ℕ) (b : Behind) (pile : List Behind) (x y : Constant) → goes_on l ≡ false → read_from (Has (b ∷ pile) y) l ≡ Formed x
    → (rest : List ℕ) × (l ≡ 41 ∷ rest)
unfolding goes_on read_from finished
closes [] b pile x y g e = absurd (no_constant e)
closes (c ∷ cs) b pile x y g e = (cs, rw (eqb-true c 41 (not-false (eqb c 41) g)))

pub closed_within : (text : List ℕ) (at : ℕ) (b : Behind) (pile : List Behind) (x y : Constant) → goes_on (drop at text) ≡ false
    → read_from (Has (b ∷ pile) y) (drop at text) ≡ Formed x
    → (at < length text)
    × ((p : List Behind) → read_from (Has (b ∷ p) y) (drop at text) ≡ read_from (Has p (put b (Within y))) (drop (suc at) text))
unfolding step followed closed state_if
closed_within text at b pile x y g e =
    let end = closes (drop at text) b pile x y g e in
    let some : length (drop at text) ≡ suc (length end.0) = ap length end.1 in
    let here : at < length text = omega (arith, rw (length-drop at text) at some) in
    let cons : get_or text at 0 ∷ drop (suc at) text ≡ 41 ∷ end.0 = sym (drop-cons text at 0 here) ∙ end.1 in
    let close : get_or text at 0 ≡ 41 = cc in
    (here, λ p. one_more_lem text (Has (b ∷ p) y) at here ∙ rw close)

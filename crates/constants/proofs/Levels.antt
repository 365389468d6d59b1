-- A level of a constant, the whole or what stands in parentheses: how far it is read, and what it comes to.
-- Assumes nothing.
use Prim.Native.Nat.{ℕ, ◌+◌, ◌*◌, ◌≤◌, ◌<◌}
use mathlib.Core.Bool.{Bool, true, false, ◌||◌, ◌&&◌, false≢true}
use mathlib.Core.List.{List, [], ◌∷◌}
use mathlib.Core.Path.{◌≡◌, refl, sym, ap, ◌∙◌}
use native.Mathlib.Omega.{arith}
use borrow.Author.Tests.{eqb-true, not-true, not-false}
use lib.Dec.{eqb}
use lib.IntN.{ℤ, pos, neg_ℤ, +ℤ_idl}
use lib.ListN.{length, get_or, drop}
use lib.Signed.{◌≤ℤ◌}
use Rattle.std.proofs.lemmas.Int.{ints}
use Rattle.constants.specs.Constant.{Term, Within, Constant, is_decimal, term_value, value_of, small_term, small}
use Rattle.constants.specs.Reading.{Behind, Nothing, Sign, Joined, Less, put, State, Wants, Has, Stuck, state_if, begun, wanted, closed, followed, step, finished, Formed, read_from}
use Rattle.constants.specs.Sums.{join_if, joined, Bounded, goes_on, behind_if, behind_sign, Summed}
use Rattle.constants.proofs.Worth.{stuck, no_constant}

-- what stands before a term: its value, whether its numbers are small, and whether a minus joins the term to it
unfoldable pub behind_value : Behind → ℤ
behind_value Nothing = pos 0
behind_value Sign = pos 0
behind_value (Joined x) = value_of x
behind_value (Less x) = value_of x

unfoldable pub behind_small : Behind → Bool
behind_small Nothing = true
behind_small Sign = true
behind_small (Joined x) = small x
behind_small (Less x) = small x

unfoldable pub is_minus : Behind → Bool
is_minus Nothing = false
is_minus Sign = true
is_minus (Joined x) = false
is_minus (Less x) = true

pub put_value : (b : Behind) (t : Term) → value_of (put b t) ≡ join_if (is_minus b) (behind_value b) (term_value t)
unfolding put value_of behind_value is_minus join_if
put_value Nothing t = sym (+ℤ_idl (term_value t))
put_value Sign t = sym (+ℤ_idl (neg_ℤ (term_value t)))
put_value (Joined x) t = refl
put_value (Less x) t = refl

pub put_small : (b : Behind) (t : Term) → small (put b t) ≡ (behind_small b && small_term t)
unfolding put small behind_small
put_small Nothing t = refl
put_small Sign t = refl
put_small (Joined x) t = refl
put_small (Less x) t = refl

-- what is read of a level: nothing yet, or a constant
pub data Sofar : Type 0 where
  Begin : Sofar
  After : Constant → Sofar

unfoldable pub state_at : List Behind → Sofar → State
state_at pile Begin = Wants pile Nothing
state_at pile (After x) = Has pile x

unfoldable pub sofar_value : Sofar → ℤ
sofar_value Begin = pos 0
sofar_value (After x) = value_of x

unfoldable pub sofar_small : Sofar → Bool
sofar_small Begin = true
sofar_small (After x) = small x

-- a sign, where there is one, and where the term stands behind it
pub record Signed (text : List ℕ) (sofar : Sofar) : Type 0 where
  pub behind : Behind
  pub value : behind_value behind ≡ sofar_value sofar
  pub small : behind_small behind ≡ sofar_small sofar
  pub minus : is_minus behind ≡ eqb (get_or text 0 0) 45
  pub some : 0 < length (behind_sign text)
  pub no_longer : length (behind_sign text) ≤ length text
  pub reads : (pile : List Behind) → read_from (state_at pile sofar) text
      ≡ read_from (begun pile behind (get_or (behind_sign text) 0 0)) (drop 1 (behind_sign text))

-- a term is to come, so the text goes on
wants_more : (l : List ℕ) (pile : List Behind) (b : Behind) (x : Constant) → read_from (Wants pile b) l ≡ Formed x → 0 < length l
unfolding read_from finished
wants_more [] pile b x r = absurd (no_constant r)
wants_more (c ∷ cs) pile b x r = omega arith

then_begun : (l : List ℕ) (b : Behind) → ((p : List Behind) (c : ℕ) → step (Wants p b) c ≡ begun p b c) → 0 < length l
    → (p : List Behind) → read_from (Wants p b) l ≡ read_from (begun p b (get_or l 0 0)) (drop 1 l)
unfolding read_from
then_begun [] b f h p = absurd (omega arith)
then_begun (c ∷ cs) b f h p = ap (λ (s : State). read_from s cs) (f p c)

module _ (c : ℕ) (cs : List ℕ) (pile : List Behind) (x : Constant) where
  -- behind a sign
  signed_by : (sofar : Sofar) (b : Behind) → behind_value b ≡ sofar_value sofar → behind_small b ≡ sofar_small sofar
      → is_minus b ≡ eqb c 45 → (eqb c 43 || eqb c 45) ≡ true
      → ((p : List Behind) → step (state_at p sofar) c ≡ Wants p b)
      → ((p : List Behind) (d : ℕ) → step (Wants p b) d ≡ begun p b d)
      → read_from (state_at pile sofar) (c ∷ cs) ≡ Formed x → Signed (c ∷ cs) sofar
  unfolding behind_sign behind_if read_from
  signed_by sofar b value small minus sign first then e =
      let on : (p : List Behind) → read_from (step (state_at p sofar) c) cs ≡ read_from (Wants p b) cs =
      λ p. ap (λ (s : State). read_from s cs) (first p) in
      let more : 0 < length cs = wants_more cs pile b x (sym (on pile) ∙ e) in
      record {
        behind = b;
        value = value;
        small = small;
        minus = minus;
        some = rw sign more;
        no_longer = rw sign (omega arith);
        reads = λ p. rw sign (on p ∙ then_begun cs b then more p);
      }

  -- where no constant begins so
  nowhere : (s : State) → step s c ≡ Stuck → read_from s (c ∷ cs) ≡ Formed x → ⊥
  unfolding read_from
  nowhere s e r = no_constant (sym (stuck cs) ∙ ap (λ (z : State). read_from z cs) (sym e) ∙ r)

  -- no sign: the first term
  unsigned : eqb c 43 ≡ false → eqb c 45 ≡ false → Signed (c ∷ cs) Begin
  unfolding behind_value sofar_value behind_small sofar_small is_minus behind_sign behind_if state_at read_from step wanted state_if
  unsigned p m = record {
    behind = Nothing;
    value = refl;
    small = refl;
    minus = sym m;
    some = rw (p, m) (omega arith);
    no_longer = rw (p, m) (omega arith);
    reads = λ q. rw (p, m);
  }

  pub signed : (sofar : Sofar) (plus minus : Bool) → eqb c 43 ≡ plus → eqb c 45 ≡ minus
      → eqb c 41 ≡ false → read_from (state_at pile sofar) (c ∷ cs) ≡ Formed x → Signed (c ∷ cs) sofar
  unfolding behind_value sofar_value behind_small sofar_small is_minus state_at step wanted begun followed state_if is_decimal
  signed Begin true minus p m k e = absurd (nowhere (Wants pile Nothing) (rw (eqb-true c 43 p)) e)
  signed Begin false true p m k e = signed_by Begin Sign refl refl (sym m) (rw (p, m)) (λ q. rw m) (λ q d. refl) e
  signed Begin false false p m k e = unsigned p m
  signed (After y) true minus p m k e =
      signed_by (After y) (Joined y) refl refl (rw (eqb-true c 43 p)) (rw p) (λ q. rw p) (λ q d. refl) e
  signed (After y) false true p m k e =
      signed_by (After y) (Less y) refl refl (sym m) (rw (p, m)) (λ q. rw (p, m)) (λ q d. refl) e
  signed (After y) false false p m k e = absurd (nowhere (Has pile y) (rw (p, m, k)) e)

-- a sum and a difference are bounded by the bounds of both
pub join_bounded : (m n : ℕ) (a b : ℤ) (minus : Bool) → Bounded m a → Bounded n b → Bounded (m + n) (join_if minus a b)
unfolding join_if
join_bounded m n a b true p q =
    let above : a ≤ℤ pos (65535 * m) = p.above in
    let below : neg_ℤ (pos (65535 * m)) ≤ℤ a = p.below in
    let high : b ≤ℤ pos (65535 * n) = q.above in
    let low : neg_ℤ (pos (65535 * n)) ≤ℤ b = q.below in
    record { above = omega (arith, ints); below = omega (arith, ints) }
join_bounded m n a b false p q =
    let above : a ≤ℤ pos (65535 * m) = p.above in
    let below : neg_ℤ (pos (65535 * m)) ≤ℤ a = p.below in
    let high : b ≤ℤ pos (65535 * n) = q.above in
    let low : neg_ℤ (pos (65535 * n)) ≤ℤ b = q.below in
    record { above = omega (arith, ints); below = omega (arith, ints) }

-- how far a level is read
pub record Level (text rest : List ℕ) (total : ℤ) : Type 0 where
  pub sofar : Sofar
  pub reads : (pile : List Behind) → read_from (Wants pile Nothing) text ≡ read_from (state_at pile sofar) rest
  pub small : sofar_small sofar ≡ true
  pub is : total ≡ sofar_value sofar
  pub count : ℕ
  pub counted : length rest + count ≡ length text
  pub bounded : Bounded count total

pub begins : (text : List ℕ) → Level text text (pos 0)
unfolding state_at sofar_small sofar_value
begins text = record {
  sofar = Begin;
  reads = λ pile. refl;
  small = refl;
  is = refl;
  count = 0;
  counted = omega arith;
  bounded = record { above = omega (arith, ints); below = omega (arith, ints) };
}

-- one more term
pub term_read : {text rest : List ℕ} {total : ℤ} (level : Level text rest total) (s : Signed rest level.sofar) (term : Term) (next : List ℕ)
    (v : ℤ) (k : ℕ)
    → ((pile : List Behind) → read_from (begun pile s.behind (get_or (behind_sign rest) 0 0)) (drop 1 (behind_sign rest))
    ≡ read_from (Has pile (put s.behind term)) next)
    → small_term term ≡ true → v ≡ term_value term → length next + k ≡ length rest → Bounded k v
    → Level text next (joined total (get_or rest 0 0) v)
unfolding state_at sofar_small sofar_value joined
term_read {text} {rest} {total} level s term next v k reads small is counted bounded = record {
  sofar = After (put s.behind term);
  reads = λ pile. level.reads pile ∙ s.reads pile ∙ reads pile;
  small = put_small s.behind term ∙ rw (s.small, level.small, small);
  is = rw (level.is, is, put_value s.behind term, s.minus, s.value);
  count = level.count + k;
  counted = omega (arith, level.counted);
  bounded = join_bounded level.count k total v (eqb (get_or rest 0 0) 45) level.bounded bounded;
}

-- not at the begin
not_begun : (l : List ℕ) (pile : List Behind) (x : Constant) → goes_on l ≡ false → read_from (Wants pile Nothing) l ≡ Formed x → ⊥
unfolding goes_on read_from finished step wanted begun state_if is_decimal
not_begun [] pile x g e = no_constant e
not_begun (c ∷ cs) pile x g e =
    no_constant (sym (stuck cs) ∙ rw (eqb-true c 41 (not-false (eqb c 41) g)) at e)

ended : (l : List ℕ) (pile : List Behind) (x : Constant) (sofar : Sofar) → goes_on l ≡ false
    → read_from (state_at pile sofar) l ≡ Formed x → (y : Constant) × (sofar ≡ After y)
unfolding state_at
ended l pile x Begin g e = absurd (not_begun l pile x g e)
ended l pile x (After y) g e = (y, refl)

-- the level ends
pub level_sums : (text rest : List ℕ) (total : ℤ) (pile : List Behind) (x : Constant) → Level text rest total → goes_on rest ≡ false
    → read_from (Wants pile Nothing) text ≡ Formed x → Summed text total rest
unfolding state_at sofar_small sofar_value
level_sums text rest total pile x level g formed =
    let end = ended rest pile x level.sofar g (sym (level.reads pile) ∙ formed) in
    let is = end.1 in
    record {
      sum = end.0;
      reads = λ p. rw is at (level.reads p);
      ends = g;
      small = rw is at level.small;
      is = rw is at level.is;
      count = level.count;
      counted = level.counted;
      bounded = level.bounded;
    }

-- a constant in parentheses
pub closed_within : (l : List ℕ) (b : Behind) (pile : List Behind) (x y : Constant) → goes_on l ≡ false
    → read_from (Has (b ∷ pile) y) l ≡ Formed x
    → (0 < length l)
    × ((p : List Behind) → read_from (Has (b ∷ p) y) l ≡ read_from (Has p (put b (Within y))) (drop 1 l))
unfolding goes_on read_from finished step followed closed state_if
closed_within [] b pile x y g e = absurd (no_constant e)
closed_within (c ∷ cs) b pile x y g e =
    let close = eqb-true c 41 (not-false (eqb c 41) g) in
    (omega arith, λ p. rw close)

-- the text goes on with a sign or a term
pub goes_signed : (l : List ℕ) (pile : List Behind) (x : Constant) (sofar : Sofar) → goes_on l ≡ true
    → read_from (state_at pile sofar) l ≡ Formed x → (0 < length l) × Signed l sofar
unfolding goes_on
goes_signed [] pile x sofar g e = absurd (false≢true g)
goes_signed (c ∷ cs) pile x sofar g e =
    (omega arith, signed c cs pile x sofar _ _ refl refl (not-true (eqb c 41) g) e)

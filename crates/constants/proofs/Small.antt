-- Once a number is too large, what is read has a number that is.
-- Assumes nothing.
use Prim.Native.Nat.{ℕ}
use mathlib.Core.Bool.{Bool, true, false, ◌&&◌, and-false, and_assoc}
use mathlib.Core.List.{List, [], ◌∷◌}
use mathlib.Core.Path.{◌≡◌, refl, sym, ◌∙◌}
use Rattle.constants.specs.Constant.{Term, Number, Within, Constant, small_term, small}
use Rattle.constants.specs.Reading.{Behind, put, State, Wants, Digits, Has, Stuck, begun, closed, followed, ended, step, finished, Formed, read_from}
use Rattle.constants.specs.declared.Base.{Base}
use Rattle.constants.proofs.Levels.{behind_small, put_small}
use Rattle.constants.proofs.Steps.{by_begun, by_wanted, by_followed, by_digit}
use Rattle.constants.proofs.Worth.{no_constant}

-- whether every number that is read so far is small
unfoldable pub pile_small : List Behind → Bool
pile_small [] = true
pile_small (b ∷ pile) = pile_small pile && behind_small b

unfoldable pub state_small : State → Bool
state_small (Wants pile b) = pile_small pile && behind_small b
state_small (Digits pile b base digits) = pile_small pile && behind_small b
state_small (Has pile x) = pile_small pile && small x
state_small Stuck = false

-- a test that fails fails with another
with_more : (t u : Bool) → t ≡ false → (t && u) ≡ false
with_more t u e = rw e

larger : (t u v : Bool) → (t && u) ≡ false → (t && (u && v)) ≡ false
larger t u v e = sym (and_assoc t u v) ∙ with_more (t && u) v e

closed_small : (pile : List Behind) (x : Constant) → (pile_small pile && small x) ≡ false → state_small (closed pile x) ≡ false
unfolding closed state_small pile_small small_term
closed_small [] x e = refl
closed_small (b ∷ pile) x e = rw (put_small b (Within x)) (sym (and_assoc (pile_small pile) (behind_small b) (small x)) ∙ e)

begun_small : (pile : List Behind) (b : Behind) (c : ℕ) → (pile_small pile && behind_small b) ≡ false → state_small (begun pile b c) ≡ false
unfolding state_small pile_small behind_small
begun_small pile b c e =
    by_begun (λ s. state_small s ≡ false) pile c b (λ _. with_more (pile_small pile && behind_small b) true e) (λ _. e) (λ _. e) (λ _ _ _. refl)

followed_small : (pile : List Behind) (x : Constant) (c : ℕ) → (pile_small pile && small x) ≡ false → state_small (followed pile x c) ≡ false
unfolding state_small behind_small
followed_small pile x c e =
    by_followed (λ s. state_small s ≡ false) pile c x (λ _. e) (λ _. e) (λ _. closed_small pile x e) (λ _ _ _. refl)

put_larger : (pile : List Behind) (b : Behind) (t : Term) → (pile_small pile && behind_small b) ≡ false → (pile_small pile && small (put b t)) ≡ false
put_larger pile b t e = rw (put_small b t) (larger (pile_small pile) (behind_small b) (small_term t) e)

ended_small : (pile : List Behind) (b : Behind) (base : Base) (digits : List ℕ) (c : ℕ) → (pile_small pile && behind_small b) ≡ false
    → state_small (ended pile b base digits c) ≡ false
unfolding ended state_small
ended_small pile b base [] c e = refl
ended_small pile b base (d ∷ ds) c e = followed_small pile (put b (Number base (d ∷ ds))) c (put_larger pile b (Number base (d ∷ ds)) e)

step_small : (s : State) (c : ℕ) → state_small s ≡ false → state_small (step s c) ≡ false
unfolding step state_small behind_small
step_small (Wants pile b) c e = by_wanted (λ s. state_small s ≡ false) pile c b (λ f _. rw f at e) (begun_small pile b c e)
step_small (Digits pile b base digits) c e =
    by_digit (λ s. state_small s ≡ false) pile c b base digits (λ _. e) (λ _. ended_small pile b base digits c e)
step_small (Has pile x) c e = followed_small pile x c e
step_small Stuck c e = refl

finished_small : (s : State) (x : Constant) → state_small s ≡ false → finished s ≡ Formed x → small x ≡ false
unfolding state_small pile_small finished
finished_small (Wants pile b) x e f = absurd (no_constant f)
finished_small (Digits [] b base []) x e f = absurd (no_constant f)
finished_small (Digits [] b base (d ∷ ds)) x e f =
    let same : put b (Number base (d ∷ ds)) ≡ x = cc in
    rw (← same) (put_larger [] b (Number base (d ∷ ds)) e)
finished_small (Digits (y ∷ pile) b base digits) x e f = absurd (no_constant f)
finished_small (Has [] y) x e f =
    let same : y ≡ x = cc in
    rw (← same) e
finished_small (Has (b ∷ pile) y) x e f = absurd (no_constant f)
finished_small Stuck x e f = absurd (no_constant f)

pub large_stays : (text : List ℕ) (s : State) (x : Constant) → state_small s ≡ false → read_from s text ≡ Formed x → small x ≡ false
unfolding read_from
large_stays [] s x e f = finished_small s x e f
large_stays (c ∷ cs) s x e f = large_stays cs (step s c) x (step_small s c e) f

-- a number that is too large
pub number_large : (text : List ℕ) (pile : List Behind) (b : Behind) (base : Base) (digits : List ℕ) (x : Constant)
    → small_term (Number base digits) ≡ false → read_from (Has pile (put b (Number base digits))) text ≡ Formed x → small x ≡ false
unfolding state_small
number_large text pile b base digits x e f =
    large_stays text (Has pile (put b (Number base digits))) x
    (rw (put_small b (Number base digits), e, and-false (behind_small b), and-false (pile_small pile))) f

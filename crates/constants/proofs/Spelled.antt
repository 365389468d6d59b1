-- The text that a reading has read is the text of what it has made of it, which is right. So a constant that is read of a text is right and
-- has that text.
-- Assumes nothing.
use Prim.Native.Nat.{ℕ}
use mathlib.Core.Bool.{Bool, true, ◌&&◌}
use mathlib.Core.List.{List, [], ◌∷◌, ◌++◌, append_assoc, append-nil}
use mathlib.Core.Path.{◌≡◌, refl, sym, ◌∙◌}
use Rattle.digits.specs.Ascii.{ascii}
use Rattle.constants.specs.Constant.{Term, Number, Within, Constant, number_text, term_text, constant_text, is_digit, all_digits, is_number, right_term, right}
use Rattle.constants.specs.declared.Base.{Base}
use Rattle.constants.specs.declared.Base.TheVariants.{Decimal, Hexadecimal}
use Rattle.constants.specs.Reading.{Behind, Nothing, Sign, Joined, Less, put, State, Wants, Digits, Has, Stuck, begun, closed, followed, ended, step, finished, Formed, read_from}
use Rattle.constants.proofs.Steps.{both, by_begun, by_wanted, by_followed, by_digit}
use Rattle.constants.proofs.Worth.{all_more, no_constant}

-- the text of what stands before a term, and of a pile
unfoldable pub behind_text : Behind → List ℕ
behind_text Nothing = []
behind_text Sign = 45 ∷ []
behind_text (Joined x) = constant_text x ++ (43 ∷ [])
behind_text (Less x) = constant_text x ++ (45 ∷ [])

unfoldable pub pile_text : List Behind → List ℕ
pile_text [] = []
pile_text (b ∷ pile) = pile_text pile ++ (behind_text b ++ (40 ∷ []))

pub put_text_lem : (b : Behind) (t : Term) → constant_text (put b t) ≡ behind_text b ++ term_text t
unfolding put constant_text behind_text ascii
put_text_lem Nothing t = refl
put_text_lem Sign t = refl
put_text_lem (Joined x) t = sym (append_assoc (constant_text x) (43 ∷ []) (term_text t))
put_text_lem (Less x) t = sym (append_assoc (constant_text x) (45 ∷ []) (term_text t))

-- they are right
unfoldable pub behind_right : Behind → Bool
behind_right Nothing = true
behind_right Sign = true
behind_right (Joined x) = right x
behind_right (Less x) = right x

unfoldable pub pile_right : List Behind → Bool
pile_right [] = true
pile_right (b ∷ pile) = pile_right pile && behind_right b

pub put_right : (b : Behind) (t : Term) → right (put b t) ≡ (behind_right b && right_term t)
unfolding put right behind_right
put_right Nothing t = refl
put_right Sign t = refl
put_right (Joined x) t = refl
put_right (Less x) t = refl

-- a state has read a text
pub record Spells (pile : List Behind) (b : Behind) (more read : List ℕ) : Type 0 where
  pub piled : pile_right pile ≡ true
  pub behind : behind_right b ≡ true
  pub text : pile_text pile ++ (behind_text b ++ more) ≡ read

pub record Spelled (pile : List Behind) (x : Constant) (read : List ℕ) : Type 0 where
  pub piled : pile_right pile ≡ true
  pub formed : right x ≡ true
  pub text : pile_text pile ++ constant_text x ≡ read

unfoldable pub HasRead : State → List ℕ → Type 0
HasRead (Wants pile b) text = Spells pile b [] text
HasRead (Digits pile b base digits) text = Spells pile b (number_text base digits) text × (all_digits base digits ≡ true)
HasRead (Has pile x) text = Spelled pile x text
HasRead Stuck text = Unit {0}

and_of : (t u : Bool) → t ≡ true → u ≡ true → (t && u) ≡ true
and_of t u e f = rw (e, f)

-- one more character at the end
further : (pile : List Behind) (b : Behind) (more text : List ℕ) (c : ℕ) → Spells pile b more text → Spells pile b (more ++ (c ∷ [])) (text ++ (c ∷ []))
further pile b more text c s = record {
  piled = s.piled;
  behind = s.behind;
  text = rw (← s.text) (simp append_assoc);
}

number_more : (base : Base) (digits : List ℕ) (c : ℕ) → number_text base (digits ++ (c ∷ [])) ≡ number_text base digits ++ (c ∷ [])
unfolding number_text ascii
number_more Decimal digits c = refl
number_more Hexadecimal digits c = refl

begun_read : (pile : List Behind) (b : Behind) (text : List ℕ) (c : ℕ) → Spells pile b [] text → HasRead (begun pile b c) (text ++ (c ∷ []))
unfolding HasRead pile_right pile_text behind_text behind_right number_text all_digits is_digit ascii
begun_read pile b text c s =
    let on = further pile b [] text c s in
    by_begun (λ z. HasRead z (text ++ (c ∷ []))) pile c b
    (λ e. record {
      piled = and_of (pile_right pile) (behind_right b) s.piled s.behind;
      behind = refl;
      text = rw (e, append-nil (pile_text pile ++ (behind_text b ++ (40 ∷ [])))) (rw e at on.text);
    })
    (λ e. (rw e (rw e at on), refl))
    (λ e. (on, rw e))
    (λ _ _ _. tt)

closed_read : (pile : List Behind) (x : Constant) (text : List ℕ) → Spelled pile x text → HasRead (closed pile x) (text ++ (41 ∷ []))
unfolding HasRead closed pile_right pile_text term_text right_term ascii
closed_read [] x text s = tt
closed_read (b ∷ pile) x text s =
    let rights = both (pile_right pile) (behind_right b) s.piled in
    record {
      piled = rights.0;
      formed = rw (put_right b (Within x)) (and_of (behind_right b) (right x) rights.1 s.formed);
      text = rw (put_text_lem b (Within x), ← s.text) (simp append_assoc);
    }

followed_read : (pile : List Behind) (x : Constant) (text : List ℕ) (c : ℕ) → Spelled pile x text → HasRead (followed pile x c) (text ++ (c ∷ []))
unfolding HasRead behind_text behind_right
followed_read pile x text c s =
    by_followed (λ z. HasRead z (text ++ (c ∷ []))) pile c x
    (λ e. record { piled = s.piled; behind = s.formed; text = rw (e, ← s.text) (simp (append_assoc, append-nil)) })
    (λ e. record { piled = s.piled; behind = s.formed; text = rw (e, ← s.text) (simp (append_assoc, append-nil)) })
    (λ e. rw e (closed_read pile x text s))
    (λ _ _ _. tt)

number_spelled : (pile : List Behind) (b : Behind) (base : Base) (d : ℕ) (ds text : List ℕ) → Spells pile b (number_text base (d ∷ ds)) text
    → all_digits base (d ∷ ds) ≡ true → Spelled pile (put b (Number base (d ∷ ds))) text
unfolding term_text right_term is_number
number_spelled pile b base d ds text s e = record {
  piled = s.piled;
  formed = rw (put_right b (Number base (d ∷ ds))) (and_of (behind_right b) (all_digits base (d ∷ ds)) s.behind e);
  text = rw (put_text_lem b (Number base (d ∷ ds))) s.text;
}

ended_read : (pile : List Behind) (b : Behind) (base : Base) (digits text : List ℕ) (c : ℕ) → Spells pile b (number_text base digits) text
    → all_digits base digits ≡ true → HasRead (ended pile b base digits c) (text ++ (c ∷ []))
unfolding ended HasRead
ended_read pile b base [] text c s e = tt
ended_read pile b base (d ∷ ds) text c s e =
    followed_read pile (put b (Number base (d ∷ ds))) text c (number_spelled pile b base d ds text s e)

step_read : (s : State) (text : List ℕ) (c : ℕ) → HasRead s text → HasRead (step s c) (text ++ (c ∷ []))
unfolding step HasRead behind_text behind_right
step_read (Wants pile b) text c r =
    by_wanted (λ z. HasRead z (text ++ (c ∷ []))) pile c b
    (λ e f. record {
      piled = r.piled;
      behind = refl;
      text = rw f (rw (e, f) at (further pile b [] text c r).text);
    })
    (begun_read pile b text c r)
step_read (Digits pile b base digits) text c r =
    by_digit (λ z. HasRead z (text ++ (c ∷ []))) pile c b base digits
    (λ e. (rw (number_more base digits c) (further pile b (number_text base digits) text c r.0), all_more base digits c r.1 e))
    (λ e. ended_read pile b base digits text c r.0 r.1)
step_read (Has pile x) text c r = followed_read pile x text c r
step_read Stuck text c r = tt

-- at the end
finished_read : (s : State) (text : List ℕ) (x : Constant) → HasRead s text → finished s ≡ Formed x → (constant_text x ≡ text) × (right x ≡ true)
unfolding finished HasRead pile_text
finished_read (Wants pile b) text x r e = absurd (no_constant e)
finished_read (Digits [] b base []) text x r e = absurd (no_constant e)
finished_read (Digits [] b base (d ∷ ds)) text x r e =
    let same : put b (Number base (d ∷ ds)) ≡ x = cc in
    let s = number_spelled [] b base d ds text r.0 r.1 in
    rw (← same) (s.text, s.formed)
finished_read (Digits (y ∷ pile) b base digits) text x r e = absurd (no_constant e)
finished_read (Has [] y) text x r e =
    let same : y ≡ x = cc in
    rw (← same) (r.text, r.formed)
finished_read (Has (b ∷ pile) y) text x r e = absurd (no_constant e)
finished_read Stuck text x r e = absurd (no_constant e)

pub read_spelled : (rest : List ℕ) (s : State) (text : List ℕ) (x : Constant) → HasRead s text → read_from s rest ≡ Formed x
    → (constant_text x ≡ text ++ rest) × (right x ≡ true)
unfolding read_from
read_spelled [] s text x r e = rw (append-nil text) (finished_read s text x r e)
read_spelled (c ∷ cs) s text x r e =
    let all = read_spelled cs (step s c) (text ++ (c ∷ [])) x (step_read s text c r) e in
    (all.0 ∙ append_assoc text (c ∷ []) cs, all.1)

pub begin_read : HasRead (Wants [] Nothing) []
unfolding HasRead pile_right pile_text behind_right behind_text
begin_read = record { piled = refl; behind = refl; text = refl }

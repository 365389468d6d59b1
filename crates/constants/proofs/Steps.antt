-- A step of the reading by cases: what holds of each state that a character can lead to holds of the one that it leads to.
-- Assumes nothing.
use Prim.Native.Nat.{ℕ, ◌≤◌}
use mathlib.Core.Bool.{Bool, true, false, ◌||◌, ◌&&◌, false≢true}
use mathlib.Core.List.{List, [], ◌∷◌, ◌++◌}
use mathlib.Core.Path.{◌≡◌, refl}
use native.Mathlib.Omega.{arith}
use borrow.Author.Tests.{eqb-true, ne_eqb, leb-true}
use lib.Dec.{eqb, leb}
use Rattle.constants.specs.Constant.{Constant, is_decimal, is_digit}
use Rattle.constants.specs.declared.Base.{Base}
use Rattle.constants.specs.declared.Base.TheVariants.{Decimal, Hexadecimal}
use Rattle.constants.specs.Reading.{Behind, Nothing, Sign, Joined, Less, State, Wants, Digits, Stuck, state_if, begun, wanted, closed, followed, ended}

pub both : (t u : Bool) → (t && u) ≡ true → (t ≡ true) × (u ≡ true)
both true u e = (refl, e)
both false u e = absurd (false≢true e)

pub either : (t u : Bool) (P : Type 0) → (t || u) ≡ true → (t ≡ true → P) → (u ≡ true → P) → P
either true u P e f g = f refl
either false u P e f g = g e

-- no character before 0 is a digit
pub decimal_from : (c : ℕ) → is_decimal c ≡ true → 48 ≤ c
unfolding is_decimal
decimal_from c e = leb-true 48 c (both (leb 48 c) (leb c 57) e).0

letter_from : (c : ℕ) → (leb 65 c && leb c 70) ≡ true → 48 ≤ c
letter_from c e = omega (arith, leb-true 65 c (both (leb 65 c) (leb c 70) e).0)

pub digit_from : (base : Base) (c : ℕ) → is_digit base c ≡ true → 48 ≤ c
unfolding is_digit
digit_from Decimal c e = decimal_from c e
digit_from Hexadecimal c e =
    either (is_decimal c) (leb 65 c && leb c 70) (48 ≤ c) e (decimal_from c) (letter_from c)

pub digit_not : (c k : ℕ) → 48 ≤ c → k ≤ 47 → eqb c k ≡ false
digit_not c k h l = ne_eqb c k (λ e. omega arith)

by_test : (P : State → Type 0) (s other : State) (t : Bool) → (t ≡ true → P s) → (t ≡ false → P other) → P (state_if t s other)
unfolding state_if
by_test P s other true f g = f refl
by_test P s other false f g = g refl

module _ (P : State → Type 0) (pile : List Behind) (c : ℕ) where
  pub by_begun : (b : Behind) → (c ≡ 40 → P (Wants (b ∷ pile) Nothing)) → (c ≡ 36 → P (Digits pile b Hexadecimal []))
      → (is_decimal c ≡ true → P (Digits pile b Decimal (c ∷ []))) → (eqb c 40 ≡ false → eqb c 36 ≡ false → is_decimal c ≡ false → P Stuck)
      → P (begun pile b c)
  unfolding begun
  by_begun b opens dollar decimal none =
      by_test P _ _ (eqb c 40) (λ e. opens (eqb-true c 40 e))
      (λ e. by_test P _ _ (eqb c 36) (λ f. dollar (eqb-true c 36 f))
      (λ f. by_test P _ _ (is_decimal c) decimal (none e f)))

  pub by_wanted : (b : Behind) → (b ≡ Nothing → c ≡ 45 → P (Wants pile Sign)) → P (begun pile b c) → P (wanted pile b c)
  unfolding wanted
  by_wanted Nothing sign term = by_test P _ _ (eqb c 45) (λ e. sign refl (eqb-true c 45 e)) (λ e. term)
  by_wanted Sign sign term = term
  by_wanted (Joined x) sign term = term
  by_wanted (Less x) sign term = term

  pub by_followed : (x : Constant) → (c ≡ 43 → P (Wants pile (Joined x))) → (c ≡ 45 → P (Wants pile (Less x))) → (c ≡ 41 → P (closed pile x))
      → (eqb c 43 ≡ false → eqb c 45 ≡ false → eqb c 41 ≡ false → P Stuck) → P (followed pile x c)
  unfolding followed
  by_followed x plus minus closes none =
      by_test P _ _ (eqb c 43) (λ e. plus (eqb-true c 43 e))
      (λ e. by_test P _ _ (eqb c 45) (λ f. minus (eqb-true c 45 f))
      (λ f. by_test P _ _ (eqb c 41) (λ g. closes (eqb-true c 41 g)) (none e f)))

  pub by_digit : (b : Behind) (base : Base) (digits : List ℕ) → (is_digit base c ≡ true → P (Digits pile b base (digits ++ (c ∷ []))))
      → (is_digit base c ≡ false → P (ended pile b base digits c))
      → P (state_if (is_digit base c) (Digits pile b base (digits ++ (c ∷ []))) (ended pile b base digits c))
  by_digit b base digits = by_test P _ _ (is_digit base c)

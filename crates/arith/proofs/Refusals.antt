-- The order of refusals: the answer is 0 exactly if no test holds, and the k-th number exactly when the k-th test is the first
-- that holds.
-- Assumes nothing.
use Rattle.std.proofs.Common.{◌≡◌, ℕ, zero, suc, ◌<◌, ◌≤◌, Bool, true, false, not, ◌&&◌, eqb, leb, ◌≢◌, ◌⊎◌, ◌↔◌, List, [], ◌∷◌, length, sym, refl, inl, inr, ⊎_elim, arith, leb-true}
use mathlib.Core.Bool.{and-eq-true_iff}
use borrow.Author.Tests.{eqb-false, not-true}
use Rattle.arith.specs.Refusals.{Refusal, number_or, code_of, unless_refused}

-- no test of a list holds
abbrev pub NoneHolds : List Refusal → Type 0
NoneHolds [] = Unit {0}
NoneHolds (r ∷ rs) = (r.holds ≡ false) × NoneHolds rs

-- the k-th test of a list holds, and none before it
abbrev pub First : List Refusal → ℕ → Type 0
First [] k = ⊥
First (r ∷ rs) zero = r.holds ≡ true
First (r ∷ rs) (suc k) = (r.holds ≡ false) × First rs k

abbrev pub number_at : List Refusal → ℕ → ℕ
number_at [] k = 0
number_at (r ∷ rs) zero = r.number
number_at (r ∷ rs) (suc k) = number_at rs k

-- the numbers of a list differ from 0 and from each other
abbrev pub is_new : ℕ → List Refusal → Bool
is_new n [] = not (eqb n 0)
is_new n (r ∷ rs) = not (eqb n r.number) && is_new n rs

abbrev pub distinct : List Refusal → Bool
distinct [] = true
distinct (r ∷ rs) = is_new r.number rs && distinct rs

-- where the tests lead

pub none_code : (rs : List Refusal) → NoneHolds rs → code_of rs ≡ 0
unfolding code_of number_or
none_code [] h = refl
none_code (r ∷ rs) h = rw h.0 (none_code rs h.1)

pub first_code : (rs : List Refusal) (k : ℕ) → First rs k → code_of rs ≡ number_at rs k
unfolding code_of number_or
first_code [] k h = absurd h
first_code (r ∷ rs) zero h = rw h
first_code (r ∷ rs) (suc k) h = rw h.0 (first_code rs k h.1)

-- an answer is the first number or that of the others

module _ (r : Refusal) (rs : List Refusal) (n : ℕ) where
  head_at : (t : Bool) → r.holds ≡ t → number_or t r.number (code_of rs) ≡ n
      → ((r.holds ≡ true) × (r.number ≡ n)) ⊎ ((r.holds ≡ false) × (code_of rs ≡ n))
  unfolding number_or
  head_at true h e = inl (h, e)
  head_at false h e = inr (h, e)

  head : code_of (r ∷ rs) ≡ n → ((r.holds ≡ true) × (r.number ≡ n)) ⊎ ((r.holds ≡ false) × (code_of rs ≡ n))
  unfolding code_of
  head = head_at r.holds refl

-- a number that a list does not have

new_head : (n : ℕ) (r : Refusal) (rs : List Refusal) → is_new n (r ∷ rs) ≡ true → (r.number ≢ n) × (is_new n rs ≡ true)
new_head n r rs e =
    let both = (and-eq-true_iff (not (eqb n r.number)) (is_new n rs)).0 e in
    (λ z. eqb-false n r.number (not-true _ both.0) (sym z), both.1)

new_zero : (n : ℕ) (rs : List Refusal) → is_new n rs ≡ true → n ≢ 0
new_zero n [] e = eqb-false n 0 (not-true _ e)
new_zero n (r ∷ rs) e = new_zero n rs (new_head n r rs e).1

new_code : (n : ℕ) (rs : List Refusal) → is_new n rs ≡ true → code_of rs ≢ n
unfolding code_of
new_code n [] e = λ z. new_zero n [] e (sym z)
new_code n (r ∷ rs) e =
    let h = new_head n r rs e in λ z. ⊎_elim (λ w. h.0 w.1) (λ w. new_code n rs h.1 w.1) (head r rs n z)

new_number : (n : ℕ) (rs : List Refusal) (k : ℕ) → is_new n rs ≡ true → k < length rs → number_at rs k ≢ n
new_number n [] k e l = absurd (omega arith)
new_number n (r ∷ rs) zero e l = (new_head n r rs e).0
new_number n (r ∷ rs) (suc k) e l = new_number n rs k (new_head n r rs e).1 (omega arith)

-- and back from the answer to the tests

distinct_head : (r : Refusal) (rs : List Refusal) → distinct (r ∷ rs) ≡ true → (is_new r.number rs ≡ true) × (distinct rs ≡ true)
distinct_head r rs = (and-eq-true_iff (is_new r.number rs) (distinct rs)).0

code_none : (rs : List Refusal) → distinct rs ≡ true → code_of rs ≡ 0 → NoneHolds rs
code_none [] d e = tt
code_none (r ∷ rs) d e =
    let both = distinct_head r rs d in
    ⊎_elim (λ w. absurd (new_zero r.number rs both.0 w.1)) (λ w. (w.0, code_none rs both.1 w.1)) (head r rs 0 e)

code_first : (rs : List Refusal) (k : ℕ) → distinct rs ≡ true → k < length rs → code_of rs ≡ number_at rs k → First rs k
code_first [] k d l e = absurd (omega arith)
code_first (r ∷ rs) zero d l e =
    ⊎_elim (λ w. w.0) (λ w. absurd (new_code r.number rs (distinct_head r rs d).0 w.1)) (head r rs r.number e)
code_first (r ∷ rs) (suc k) d l e =
    let both = distinct_head r rs d in
    ⊎_elim (λ w. absurd (new_number r.number rs k both.0 (omega arith) (sym w.1)))
    (λ w. (w.0, code_first rs k both.1 (omega arith) w.1))
    (head r rs (number_at rs k) e)

-- what holds of what follows and of every refused answer holds of the answer
module _ {A : Type 0} (P : A → Type 0) (next : Unit {0} → A) (refused : ℕ → A) where
  pub by_code : ((n : ℕ) → P (refused (suc n))) → P (next tt) → (n : ℕ) → P (unless_refused n next refused)
  unfolding unless_refused
  by_code r q zero = q
  by_code r q (suc n) = r n

-- the bounds of a list's numbers are the bounds of its answer

abbrev pub within : ℕ → ℕ → List Refusal → Bool
within lo hi [] = true
within lo hi (r ∷ rs) = (leb lo r.number && leb r.number hi) && within lo hi rs

-- an answer that is 0 or within them
abbrev pub Within : ℕ → ℕ → ℕ → Type 0
Within lo hi n = (n ≢ 0 → lo ≤ n) × (n ≤ hi)

pub code_within : (lo hi : ℕ) (rs : List Refusal) → within lo hi rs ≡ true → Within lo hi (code_of rs)
unfolding code_of
code_within lo hi [] e = (λ n. absurd (n refl), omega arith)
code_within lo hi (r ∷ rs) e =
    let both = (and-eq-true_iff (leb lo r.number && leb r.number hi) (within lo hi rs)).0 e in
    let bounds = (and-eq-true_iff (leb lo r.number) (leb r.number hi)).0 both.0 in
    let rest = code_within lo hi rs both.1 in
    ⊎_elim (λ w. rw (← w.1) (λ _. leb-true _ _ bounds.0, leb-true _ _ bounds.1)) (λ w. rw (← w.1) rest)
    (head r rs (code_of (r ∷ rs)) refl)

-- exactly when

pub refused_none : (rs : List Refusal) → distinct rs ≡ true → (code_of rs ≡ 0) ↔ NoneHolds rs
refused_none rs d = (code_none rs d, none_code rs)

pub refused_first : (rs : List Refusal) (k : ℕ) → distinct rs ≡ true → k < length rs
    → (code_of rs ≡ number_at rs k) ↔ First rs k
refused_first rs k d l = (code_first rs k d l, first_code rs k)

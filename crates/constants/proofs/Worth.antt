-- Numbers: one more digit at the end, and that the digits in front, as many as there are, are what the reading takes for a number.
-- Assumes nothing.
use Rattle.std.proofs.Common.{cond}
use Prim.Native.Nat.{ℕ, suc, ◌+◌, ◌*◌, ◌≤◌}
use mathlib.Core.Bool.{Bool, true, false}
use mathlib.Core.List.{List, [], ◌∷◌, ◌++◌, map, append_assoc, append-nil}
use mathlib.Core.Path.{◌≡◌, refl, sym, ap, ◌∙◌}
use native.Mathlib.Nat.{pow-zero, pow-suc, mul-one, mul-le-mul_left}
use native.Mathlib.Numerals.{one-add}
use native.Mathlib.Omega.{arith}
use lib.Dec.{lit≤}
use lib.ListN.{length, take, drop, length-append, length-map}
use Rattle.std.proofs.lemmas.List.{take-append-drop}
use Rattle.digits.specs.Digits.{worth_of}
use Rattle.constants.specs.Constant.{Number, Constant, is_digit, all_digits, digit_of, base_of, worth}
use Rattle.constants.specs.declared.Base.{Base}
use Rattle.constants.specs.declared.Base.TheVariants.{Decimal, Hexadecimal}
use Rattle.constants.specs.Reading.{Behind, put, State, Digits, Has, Stuck, state_if, step, ended, finished, NoConstant, Formed, read_from}
use Rattle.constants.specs.Sums.{digits_end, NoDigit, Spans}
use Rattle.constants.proofs.Steps.{both}

-- one more digit
pub all_more : (base : Base) (digits : List ℕ) (c : ℕ) → all_digits base digits ≡ true → is_digit base c ≡ true → all_digits base (digits ++ (c ∷ [])) ≡ true
unfolding all_digits
all_more base [] c e f = rw f
all_more base (d ∷ ds) c e f =
    let digits = both (is_digit base d) (all_digits base ds) e in
    rw digits.0 (all_more base ds c digits.1 f)

worth_more : (base : ℕ) (digits : List ℕ) (c : ℕ) → worth_of base (map digit_of (digits ++ (c ∷ []))) ≡ worth_of base (map digit_of digits) * base + digit_of c
unfolding worth_of
worth_more base [] c = rw (pow-zero, mul-one) (omega arith)
worth_more base (d ∷ ds) c =
    let one : length (map digit_of (ds ++ (c ∷ []))) ≡ suc (length (map digit_of ds)) =
    rw (length-map (ds ++ (c ∷ [])) digit_of, length-map ds digit_of, length-append ds (c ∷ [])) (omega arith) in
    rw (worth_more base ds c, one, pow-suc) (omega arith)

pub worth_digit : (base : Base) (digits : List ℕ) (c : ℕ)
    → worth base (digits ++ (c ∷ [])) ≡ worth base digits * base_of base + digit_of c
unfolding worth
worth_digit base digits c = worth_more (base_of base) digits c

-- with more digits a number is no smaller
grown : (n b d : ℕ) → 1 ≤ b → n ≤ n * b + d
grown n b d h = let more : n * 1 ≤ n * b = mul-le-mul_left n h in omega arith

some_base : (base : Base) → 1 ≤ base_of base
unfolding base_of
some_base Decimal = lit≤ tt
some_base Hexadecimal = lit≤ tt

pub worth_grows : (base : Base) (digits more : List ℕ) → worth base digits ≤ worth base (digits ++ more)
worth_grows base digits [] = rw (append-nil digits) (omega arith)
worth_grows base digits (c ∷ cs) =
    let one : worth base digits ≤ worth base (digits ++ (c ∷ [])) =
    rw (worth_digit base digits c) (grown (worth base digits) (base_of base) (digit_of c) (some_base base)) in
    let all = worth_grows base (digits ++ (c ∷ [])) cs in
    omega (arith, one, rw (append_assoc digits (c ∷ []) cs) at all)

-- the digits in front, as many as there are
module _ (base : Base) (c : ℕ) (cs : List ℕ) (n : ℕ) where
  all_one : (t : Bool) → is_digit base c ≡ t → all_digits base (take n cs) ≡ true
      → all_digits base (take (cond t (1 + n) 0) (c ∷ cs)) ≡ true
  unfolding all_digits
  all_one true e more = rw (one-add n, e) more
  all_one false e more = refl

  ends_one : (t : Bool) → is_digit base c ≡ t → NoDigit base (drop n cs) → NoDigit base (drop (cond t (1 + n) 0) (c ∷ cs))
  unfolding NoDigit
  ends_one true e more = rw (one-add n) more
  ends_one false e more = e

all_in : (base : Base) (text : List ℕ) → all_digits base (take (digits_end base text) text) ≡ true
unfolding all_digits
all_in base [] = refl
all_in base (c ∷ cs) = all_one base c cs (digits_end base cs) _ refl (all_in base cs)

ends_in : (base : Base) (text : List ℕ) → NoDigit base (drop (digits_end base text) text)
unfolding NoDigit
ends_in base [] = tt
ends_in base (c ∷ cs) = ends_one base c cs (digits_end base cs) _ refl (ends_in base cs)

pub digits_span : (base : Base) (text : List ℕ) → Spans base text (take (digits_end base text) text) (drop (digits_end base text) text)
digits_span base text =
    record { spans = sym (take-append-drop (digits_end base text) text); all = all_in base text; ends = ends_in base text }

-- no constant begins so
pub stuck : (text : List ℕ) → read_from Stuck text ≡ NoConstant
unfolding read_from finished step
stuck [] = refl
stuck (c ∷ cs) = stuck cs

pub no_constant : {x : Constant} → NoConstant ≡ Formed x → ⊥
no_constant e = let apart : ◌≡◌ {A = ℕ} 0 1 = cc in omega arith

-- a digit goes to the others, and another character ends them
module _ (pile : List Behind) (b : Behind) (base : Base) (digits : List ℕ) (c : ℕ) where
  pub digit_step : is_digit base c ≡ true → step (Digits pile b base digits) c ≡ Digits pile b base (digits ++ (c ∷ []))
  unfolding step state_if
  digit_step e = rw e

  pub other_step : is_digit base c ≡ false → step (Digits pile b base digits) c ≡ ended pile b base digits c
  unfolding step state_if
  other_step e = rw e

-- what the reading takes for a number
module _ (pile : List Behind) (b : Behind) (base : Base) where
  pub digits_read : (done digits rest : List ℕ) → all_digits base digits ≡ true
      → read_from (Digits pile b base done) (digits ++ rest) ≡ read_from (Digits pile b base (done ++ digits)) rest
  unfolding read_from all_digits
  digits_read done [] rest e = rw (append-nil done)
  digits_read done (d ∷ ds) rest e =
      let digits = both (is_digit base d) (all_digits base ds) e in
      ap (λ (s : State). read_from s (ds ++ rest)) (digit_step pile b base done d digits.0)
      ∙ digits_read (done ++ (d ∷ [])) ds rest digits.1
      ∙ ap (λ (l : List ℕ). read_from (Digits pile b base l) rest) (append_assoc done (d ∷ []) ds)

  number_finished : (p : List Behind) (d : ℕ) (ds : List ℕ) → finished (Digits p b base (d ∷ ds)) ≡ finished (Has p (put b (Number base (d ∷ ds))))
  unfolding finished
  number_finished [] d ds = refl
  number_finished (x ∷ p) d ds = refl

  pub number_ends : (d : ℕ) (ds rest : List ℕ) → NoDigit base rest
      → read_from (Digits pile b base (d ∷ ds)) rest ≡ read_from (Has pile (put b (Number base (d ∷ ds)))) rest
  unfolding read_from step ended NoDigit
  number_ends d ds [] e = number_finished pile d ds
  number_ends d ds (c ∷ cs) e = ap (λ (s : State). read_from s cs) (other_step pile b base (d ∷ ds) c e)

  none_finished : (p : List Behind) → finished (Digits p b base []) ≡ NoConstant
  unfolding finished
  none_finished [] = refl
  none_finished (x ∷ p) = refl

  pub none_read : (rest : List ℕ) → NoDigit base rest → read_from (Digits pile b base []) rest ≡ NoConstant
  unfolding read_from ended NoDigit
  none_read [] e = none_finished pile
  none_read (c ∷ cs) e = ap (λ (s : State). read_from s cs) (other_step pile b base [] c e) ∙ stuck cs

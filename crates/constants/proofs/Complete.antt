-- The text of a right constant is read as that constant.
-- Assumes nothing.
use Prim.Native.Nat.{ℕ}
use mathlib.Core.Bool.{true, false, false≢true}
use mathlib.Core.List.{List, [], ◌∷◌, ◌++◌, append_assoc, append-nil}
use mathlib.Core.Path.{◌≡◌, refl, sym, ap, ◌∙◌}
use lib.Dec.{eqb, lit≤}
use Rattle.digits.specs.Ascii.{ascii}
use Rattle.constants.specs.Constant.{Term, Number, Within, Constant, Plain, Negated, Plus, Minus, number_text, term_text, constant_text, is_decimal, is_digit, all_digits, is_number, right_term, right}
use Rattle.constants.specs.declared.Base.{Base}
use Rattle.constants.specs.declared.Base.TheVariants.{Decimal, Hexadecimal}
use Rattle.constants.specs.Reading.{Behind, Nothing, Sign, Joined, Less, put, State, Wants, Digits, Has, state_if, begun, wanted, closed, followed, step, finished, Formed, read_from, read_of}
use Rattle.constants.specs.Sums.{NoDigit}
use Rattle.constants.proofs.Steps.{both, decimal_from, digit_not}
use Rattle.constants.proofs.Worth.{digits_read, number_ends}

-- no digit of either base stands in front
abbrev Ends : List ℕ → Type 0
Ends rest = (base : Base) → NoDigit base rest

at_end : Ends []
unfolding NoDigit
at_end base = tt

-- +, - and ) end a number
ends_by : (c : ℕ) (rest : List ℕ) → is_digit Decimal c ≡ false → is_digit Hexadecimal c ≡ false → Ends (c ∷ rest)
unfolding NoDigit
ends_by c rest e f Decimal = e
ends_by c rest e f Hexadecimal = f

-- a term begins with no minus
wants_term : (pile : List Behind) (b : Behind) (c : ℕ) → eqb c 45 ≡ false → step (Wants pile b) c ≡ begun pile b c
unfolding step wanted state_if
wants_term pile Nothing c e = rw e
wants_term pile Sign c e = refl
wants_term pile (Joined x) c e = refl
wants_term pile (Less x) c e = refl

begun_digit : (pile : List Behind) (b : Behind) (c : ℕ) → is_decimal c ≡ true → begun pile b c ≡ Digits pile b Decimal (c ∷ [])
unfolding begun state_if
begun_digit pile b c e =
    let h = decimal_from c e in
    rw (digit_not c 40 h (lit≤ tt), digit_not c 36 h (lit≤ tt), e)

number_read : (base : Base) (digits : List ℕ) → is_number base digits ≡ true → (pile : List Behind) (b : Behind) (rest : List ℕ) → Ends rest
    → read_from (Wants pile b) (number_text base digits ++ rest) ≡ read_from (Has pile (put b (Number base digits))) rest
unfolding is_number number_text read_from ascii all_digits is_digit begun state_if
number_read base [] e pile b rest ends = absurd (false≢true e)
number_read Decimal (d ∷ ds) e pile b rest ends =
    let digits = both (is_decimal d) (all_digits Decimal ds) e in
    ap (λ (s : State). read_from s (ds ++ rest))
    (wants_term pile b d (digit_not d 45 (decimal_from d digits.0) (lit≤ tt)) ∙ begun_digit pile b d digits.0)
    ∙ digits_read pile b Decimal (d ∷ []) ds rest digits.1
    ∙ number_ends pile b Decimal d ds rest (ends Decimal)
number_read Hexadecimal (d ∷ ds) e pile b rest ends =
    ap (λ (s : State). read_from s (d ∷ (ds ++ rest))) (wants_term pile b 36 refl)
    ∙ digits_read pile b Hexadecimal [] (d ∷ ds) rest e
    ∙ number_ends pile b Hexadecimal d ds rest (ends Hexadecimal)

-- behind a constant
then_plus : (pile : List Behind) (x : Constant) (rest : List ℕ) → read_from (Has pile x) (43 ∷ rest) ≡ read_from (Wants pile (Joined x)) rest
unfolding read_from step followed state_if
then_plus pile x rest = refl

then_minus : (pile : List Behind) (x : Constant) (rest : List ℕ) → read_from (Has pile x) (45 ∷ rest) ≡ read_from (Wants pile (Less x)) rest
unfolding read_from step followed state_if
then_minus pile x rest = refl

then_closed : (pile : List Behind) (b : Behind) (x : Constant) (rest : List ℕ)
    → read_from (Has (b ∷ pile) x) (41 ∷ rest) ≡ read_from (Has pile (put b (Within x))) rest
unfolding read_from step followed closed state_if
then_closed pile b x rest = refl

opens : (pile : List Behind) (b : Behind) (rest : List ℕ) → read_from (Wants pile b) (40 ∷ rest) ≡ read_from (Wants (b ∷ pile) Nothing) rest
unfolding read_from begun state_if
opens pile b rest = ap (λ (s : State). read_from s rest) (wants_term pile b 40 refl)

signs : (pile : List Behind) (rest : List ℕ) → read_from (Wants pile Nothing) (45 ∷ rest) ≡ read_from (Wants pile Sign) rest
unfolding read_from step wanted state_if
signs pile rest = refl

plus_ends : (rest : List ℕ) → Ends (43 ∷ rest)
unfolding is_digit is_decimal
plus_ends rest = ends_by 43 rest refl refl

minus_ends : (rest : List ℕ) → Ends (45 ∷ rest)
unfolding is_digit is_decimal
minus_ends rest = ends_by 45 rest refl refl

closed_ends : (rest : List ℕ) → Ends (41 ∷ rest)
unfolding is_digit is_decimal
closed_ends rest = ends_by 41 rest refl refl

-- a term, and a constant
mutual
  unfolding right_term term_text right constant_text put ascii

  term_read : (t : Term) → right_term t ≡ true → (pile : List Behind) (b : Behind) (rest : List ℕ) → Ends rest
      → read_from (Wants pile b) (term_text t ++ rest) ≡ read_from (Has pile (put b t)) rest
  term_read (Number base digits) e pile b rest ends = number_read base digits e pile b rest ends
  term_read (Within x) e pile b rest ends =
      opens pile b ((constant_text x ++ (41 ∷ [])) ++ rest)
      ∙ ap (read_from (Wants (b ∷ pile) Nothing)) (append_assoc (constant_text x) (41 ∷ []) rest)
      ∙ constant_read x e (b ∷ pile) (41 ∷ rest) (closed_ends rest)
      ∙ then_closed pile b x rest

  constant_read : (x : Constant) → right x ≡ true → (pile : List Behind) (rest : List ℕ) → Ends rest
      → read_from (Wants pile Nothing) (constant_text x ++ rest) ≡ read_from (Has pile x) rest
  constant_read (Plain t) e pile rest ends = term_read t e pile Nothing rest ends
  constant_read (Negated t) e pile rest ends = signs pile (term_text t ++ rest) ∙ term_read t e pile Sign rest ends
  constant_read (Plus x t) e pile rest ends =
      let rights = both (right x) (right_term t) e in
      ap (read_from (Wants pile Nothing)) (append_assoc (constant_text x) (43 ∷ term_text t) rest)
      ∙ constant_read x rights.0 pile (43 ∷ (term_text t ++ rest)) (plus_ends (term_text t ++ rest))
      ∙ then_plus pile x (term_text t ++ rest)
      ∙ term_read t rights.1 pile (Joined x) rest ends
  constant_read (Minus x t) e pile rest ends =
      let rights = both (right x) (right_term t) e in
      ap (read_from (Wants pile Nothing)) (append_assoc (constant_text x) (45 ∷ term_text t) rest)
      ∙ constant_read x rights.0 pile (45 ∷ (term_text t ++ rest)) (minus_ends (term_text t ++ rest))
      ∙ then_minus pile x (term_text t ++ rest)
      ∙ term_read t rights.1 pile (Less x) rest ends

pub whole_read : (x : Constant) → right x ≡ true → read_of (constant_text x) ≡ Formed x
unfolding read_of read_from finished
whole_read x e =
    ap (read_from (Wants [] Nothing)) (sym (append-nil (constant_text x))) ∙ constant_read x e [] [] at_end

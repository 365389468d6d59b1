-- A text is read as a constant exactly if it is that of the constant, in one way; and what is answered goes by that.
-- Assumes nothing.
use Prim.Native.Nat.{ℕ, zero, suc, ◌≤◌}
use mathlib.Core.Bool.{Bool, true, false, ◌&&◌, not, false≢true}
use mathlib.Core.List.{List}
use mathlib.Core.Path.{◌≡◌, refl, sym, ap, subst, ◌∙◌}
use native.Mathlib.Omega.{arith}
use lib.Dec.{lit≤}
use lib.IntN.{ℤ, pos, negsuc}
use Rattle.constants.specs.Constant.{Term, Number, Within, Constant, Plain, Negated, Plus, Minus, constant_text, right_term, right, term_value, value_of, nests_term, nests, small_term, small}
use Rattle.constants.specs.Reading.{Wants, Nothing, Read, NoConstant, Formed, read_of}
use Rattle.constants.specs.Answer.{deepest, in_range, found_if, signed, found_in, found_of}
use Rattle.constants.specs.Theorems.{Spells, Exact, OneWay, NoFormExactly, DeepExactly, LargeExactly, ValueExactly, nested, Sixteen, Seventeen}
use Rattle.constants.specs.Answer.{Found}
use Rattle.constants.specs.Answer.{NoForm, Deep, Large, Above, Below}
use Rattle.constants.proofs.Steps.{both}
use Rattle.constants.proofs.Spelled.{read_spelled, begin_read}
use Rattle.constants.proofs.Complete.{whole_read}

pub exact : Exact
unfolding read_of
exact text c = (
  λ e. let all = read_spelled text (Wants _ Nothing) _ c begin_read e in record { spelled = all.0; formed = all.1 },
  λ s. ap read_of (sym s.spelled) ∙ whole_read c s.formed,
)

pub one_way : OneWay
one_way text c d s t =
    let both : Formed c ≡ Formed d = sym ((exact text c).1 s) ∙ (exact text d).1 t in
    cc

-- the answers are apart
code : Found → ℕ
code NoForm = 0
code Deep = 1
code Large = 2
code (Above n) = 3
code (Below n) = 4

value_code : (v : ℤ) → 3 ≤ code (signed v)
unfolding code signed
value_code (pos n) = lit≤ tt
value_code (negsuc n) = lit≤ tt

value_one : (v w : ℤ) → signed v ≡ signed w → v ≡ w
unfolding signed
value_one (pos n) (pos m) e = cc
value_one (pos n) (negsuc m) e = cc
value_one (negsuc n) (pos m) e = cc
value_one (negsuc n) (negsuc m) e = cc

-- what is answered of a constant, by the two tests and its value
judged : Bool → Bool → ℤ → Found
judged few fits v = found_if (not few) Deep (found_if (not fits) Large (signed v))

abbrev fits_of : Constant → Bool
fits_of c = small c && in_range (value_of c)

abbrev judged_of : Constant → Found
judged_of c = judged (nests c deepest) (fits_of c) (value_of c)

formed_found : (c : Constant) → found_in (Formed c) ≡ judged_of c
unfolding found_in judged
formed_found c = refl

some_form : (few fits : Bool) (v : ℤ) → judged few fits v ≡ NoForm → ⊥
unfolding judged found_if code
some_form true true v e = omega (arith, value_code v, ap code e)
some_form true false v e = omega (arith, ap code e)
some_form false fits v e = omega (arith, ap code e)

judged_deep : (few fits : Bool) (v : ℤ) → judged few fits v ≡ Deep → few ≡ false
unfolding judged found_if code
judged_deep true true v e = absurd (omega (arith, value_code v, ap code e))
judged_deep true false v e = absurd (omega (arith, ap code e))
judged_deep false fits v e = refl

judged_large : (few fits : Bool) (v : ℤ) → judged few fits v ≡ Large → (few ≡ true) × (fits ≡ false)
unfolding judged found_if code
judged_large true true v e = absurd (omega (arith, value_code v, ap code e))
judged_large true false v e = (refl, refl)
judged_large false fits v e = absurd (omega (arith, ap code e))

judged_value : (few fits : Bool) (v w : ℤ) → judged few fits v ≡ signed w → (few ≡ true) × (fits ≡ true) × (v ≡ w)
unfolding judged found_if code
judged_value true true v w e = (refl, refl, value_one v w e)
judged_value true false v w e = absurd (omega (arith, value_code w, ap code e))
judged_value false fits v w e = absurd (omega (arith, value_code w, ap code e))

-- an answer other than that there is no form is that of a constant which the text is
module _ (text : List ℕ) where
  read_by : (P : Found → Type 0) → (P NoForm → ⊥) → (r : Read) → read_of text ≡ r → P (found_in r)
      → (c : Constant) × Spells c text × P (judged_of c)
  unfolding found_in
  read_by P other NoConstant q p = absurd (other p)
  read_by P other (Formed c) q p = (c, (exact text c).0 q, subst P (formed_found c) p)

  found_by_lem : (P : Found → Type 0) → (P NoForm → ⊥) → P (found_of text)
      → (c : Constant) × Spells c text × P (judged_of c)
  unfolding found_of
  found_by_lem P other e = read_by P other (read_of text) refl e

  found_of_lem : (c : Constant) → Spells c text → found_of text ≡ judged_of c
  unfolding found_of
  found_of_lem c s = ap found_in ((exact text c).1 s) ∙ formed_found c

  no_form : (r : Read) → read_of text ≡ r → ((c : Constant) → Spells c text → ⊥) → found_in r ≡ NoForm
  unfolding found_in
  no_form NoConstant q f = refl
  no_form (Formed c) q f = absurd (f c ((exact text c).0 q))

pub no_form_exactly : NoFormExactly
unfolding found_of
no_form_exactly text = (
  λ e c s. some_form (nests c deepest) (fits_of c) (value_of c) (sym (found_of_lem text c s) ∙ e),
  λ f. no_form text (read_of text) refl f,
)

pub deep_exactly : DeepExactly
unfolding judged found_if code
deep_exactly text = (
  λ e. let is = found_by_lem text (λ f. f ≡ Deep) (λ q. omega (arith, ap code q)) e in
      (is.0, is.1, judged_deep (nests is.0 deepest) (fits_of is.0) (value_of is.0) is.2),
  λ is. found_of_lem text is.0 is.1 ∙ rw is.2,
)

pub large_exactly : LargeExactly
unfolding judged found_if code
large_exactly text = (
  λ e. let is = found_by_lem text (λ f. f ≡ Large) (λ q. omega (arith, ap code q)) e in
      let tests = judged_large (nests is.0 deepest) (fits_of is.0) (value_of is.0) is.2 in
      (is.0, is.1, tests.0, tests.1),
  λ is. found_of_lem text is.0 is.1 ∙ rw (is.2, is.3),
)

pub value_exactly : ValueExactly
unfolding judged found_if code
value_exactly text v = (
  λ e. let is = found_by_lem text (λ f. f ≡ signed v) (λ q. omega (arith, value_code v, ap code q)) e in
      let tests = judged_value (nests is.0 deepest) (fits_of is.0) (value_of is.0) v is.2 in
      (is.0, is.1, tests.0, tests.1, tests.2),
  λ is. found_of_lem text is.0 is.1 ∙ rw (is.2, is.3) (ap signed is.4),
)

-- parentheses around a constant
nested_right : (n : ℕ) (c : Constant) → right (nested n c) ≡ right c
unfolding nested right right_term
nested_right zero c = refl
nested_right (suc n) c = nested_right n c

spells_itself : (c : Constant) → right c ≡ true → Spells c (constant_text c)
spells_itself c e = record { spelled = refl; formed = e }

nested_found : (n : ℕ) (c : Constant) → right c ≡ true
    → found_of (constant_text (nested n c)) ≡ judged_of (nested n c)
nested_found n c e = found_of_lem (constant_text (nested n c)) (nested n c) (spells_itself (nested n c) (nested_right n c ∙ e))

term_nests : (t : Term) (n : ℕ) → nests_term t 0 ≡ true → nests_term t n ≡ true
unfolding nests_term
term_nests (Number base digits) n e = refl
term_nests (Within x) n e = absurd (false≢true e)

nests_more : (c : Constant) (n : ℕ) → nests c 0 ≡ true → nests c n ≡ true
unfolding nests
nests_more (Plain t) n e = term_nests t n e
nests_more (Negated t) n e = term_nests t n e
nests_more (Plus c t) n e =
    let tests = both (nests c 0) (nests_term t 0) e in
    rw (nests_more c n tests.0, term_nests t n tests.1)
nests_more (Minus c t) n e =
    let tests = both (nests c 0) (nests_term t 0) e in
    rw (nests_more c n tests.0, term_nests t n tests.1)

pub sixteen : Sixteen
unfolding nested nests nests_term small small_term value_of term_value
sixteen c e h =
    nested_found 16 c e
    ∙ ap (λ (few : Bool). judged few (fits_of c) (value_of c)) (h ∙ sym (nests_more c deepest h))
    ∙ sym (found_of_lem (constant_text c) c (spells_itself c e))

pub seventeen : Seventeen
unfolding judged found_if nested nests nests_term
seventeen c e = nested_found 17 c e

-- When a line is at fault, and by which refusal; and that no line is of two forms.
-- Assumes nothing.
use Prim.Native.Nat.{ℕ, zero, suc, ◌≤◌}
use mathlib.Core.Bool.{Bool, true, false, ◌||◌, ◌&&◌, true≢false}
use mathlib.Core.List.{List, [], ◌∷◌, ◌++◌}
use mathlib.Core.Logic.{◌≢◌}
use mathlib.Core.Path.{◌≡◌, refl, sym, ◌∙◌, ap}
use native.Mathlib.Omega.{arith}
use borrow.Author.Tests.{le-leb, lt-leb, leb-true, eq-eqb, ne_eqb, eqb-true, eqb-false}
use lib.Dec.{eqb, leb, leb-suc-suc}
use lib.IntN.{ℤ, pos, negsuc, neg_ℤ}
use lib.Signed.{le_z}
use Rattle.arith.specs.Refusals.{◌when◌, code_of, unless_refused, order}
use Rattle.arith.specs.Words.{further}
use Rattle.digits.specs.Ascii.{ascii}
use Rattle.constants.specs.declared.Base.{Base}
use Rattle.constants.specs.declared.Base.TheVariants.{Decimal, Hexadecimal}
use Rattle.constants.specs.Constant.{Term, Number, Within, Constant, Plain, Negated, Plus, Minus, number_text, term_text, constant_text, is_decimal, is_digit, all_digits, is_number, right_term, right, value_of, nests, small}
use Rattle.constants.specs.Reading.{Read, NoConstant, Formed as Reads, read_of}
use Rattle.constants.specs.Answer.{deepest, in_range, found_if, signed, found_in, found_of}
use Rattle.constants.specs.Answer.{Above}
use Rattle.constants.proofs.Steps.{either}
use Rattle.constants.proofs.Complete.{whole_read}
use Rattle.constants.proofs.Exact.{exact, one_way}
use Rattle.spellings.specs.Outline.{begins, ends, outline_in, constant_in, spelled_by}
use Rattle.spellings.specs.Rows.{Row, row_by, no_row, slot_in, slot_at}
use Rattle.spellings.specs.Exact.{none, is_constant, Takes, Spells, Spelled}
use Rattle.spellings.specs.declared.Slot.{Slot}
use Rattle.spellings.specs.declared.Slot.TheVariants.{Bare, N8, N16, High, E8, Target, U3, Vec}
use Rattle.spellings.proofs.Outline.{both}
use Rattle.spellings.proofs.Exact.{row_spells, spelled_has, one_reading}
use Rattle.assembler.specs.Ranges.{highest, lowest, number_in, reached}
use Rattle.assembler.specs.Lines.{Fault, Bytes, standing, found_in as found_in_line, verdict_if, valued_by, verdict_by, verdict_of}
use Rattle.assembler.specs.Exact.{Put, Nothing, This, put_text, is_bare, SuitsIf, OfForm, value_in, nests_in, small_in, inside, mod_word, number_at, line_refusals, form_verdict, Formless, Formed, NotFormless, OneForm}
use Rattle.assembler.specs.Judging.{within}
use Rattle.assembler.proofs.Back.{verdict_by_lem, none_append}

-- the range of a slot, by the sign of a value
low_pos : (low n : ℕ) → le_z (neg_ℤ (pos low)) (pos n) ≡ true
low_pos zero n = le-leb 0 n (omega arith)
low_pos (suc low) n = refl

low_neg : (low n : ℕ) → le_z (neg_ℤ (pos low)) (negsuc n) ≡ leb (suc n) low
low_neg zero n = sym (lt-leb (suc n) 0 (omega arith))
low_neg (suc low) n = sym (leb-suc-suc n low)

and_true : (t : Bool) → (t && true) ≡ t
and_true true = refl
and_true false = refl

inside_is : (slot : Slot) (v : ℤ) → within slot v ≡ inside slot v
unfolding inside
inside_is slot (pos n) = rw (low_pos (lowest slot) n) refl
inside_is slot (negsuc n) = rw (low_neg (lowest slot) n, and_true (leb (suc n) (lowest slot))) refl

-- every range lies within that of n16
ranges : (slot : Slot) → (highest slot ≤ 65535) × (lowest slot ≤ 32768)
unfolding highest lowest
ranges Bare = (omega arith, omega arith)
ranges N8 = (omega arith, omega arith)
ranges N16 = (omega arith, omega arith)
ranges High = (omega arith, omega arith)
ranges E8 = (omega arith, omega arith)
ranges Target = (omega arith, omega arith)
ranges U3 = (omega arith, omega arith)
ranges Vec = (omega arith, omega arith)

within_range : (slot : Slot) (v : ℤ) → within slot v ≡ true → in_range v ≡ true
unfolding in_range
within_range slot (pos n) h =
    let n_low = leb-true n (highest slot) h in
    let top = (ranges slot).0 in
    le-leb n 65535 (omega (arith, n_low, top))
within_range slot (negsuc n) h =
    let n_low = leb-true (suc n) (lowest slot) h in
    let bottom = (ranges slot).1 in
    rw (le-leb n 32767 (omega (arith, n_low, bottom))) refl

signed_verdict : (a row : ℕ) (slot : Slot) (v : ℤ) → verdict_by a row slot (signed v) ≡ valued_by a row slot (within slot v) (mod_word v)
unfolding verdict_by signed mod_word
signed_verdict a row slot (pos n) = refl
signed_verdict a row slot (negsuc n) = refl

-- a constant of right digits, by its tests
module _ (a row : ℕ) (slot : Slot) (c : Constant) where
  abbrev reaches : Bool
  reaches = reached slot (number_in (further 2 a) slot (mod_word (value_of c)))

  taken_is : (i t : Bool) → within slot (value_of c) ≡ i → reaches ≡ t → nests c deepest ≡ true → small c ≡ true
      → valued_by a row slot (within slot (value_of c)) (mod_word (value_of c)) ≡ form_verdict a row slot (This c)
  unfolding valued_by verdict_if form_verdict line_refusals order nests_in small_in value_in number_at
  taken_is true true ei et en es = rw (en, es, sym (inside_is slot (value_of c)), ei, et) refl
  taken_is true false ei et en es = rw (en, es, sym (inside_is slot (value_of c)), ei, et) refl
  taken_is false true ei et en es = rw (en, es, sym (inside_is slot (value_of c)), ei) refl
  taken_is false false ei et en es = rw (en, es, sym (inside_is slot (value_of c)), ei) refl

  by_tests : (n s r i : Bool) → nests c deepest ≡ n → small c ≡ s → in_range (value_of c) ≡ r → within slot (value_of c) ≡ i
      → verdict_by a row slot (found_in (Reads c)) ≡ form_verdict a row slot (This c)
  unfolding found_in found_if verdict_by form_verdict line_refusals order nests_in small_in value_in number_at
  by_tests false s r i en es er ei = rw en refl
  by_tests true false r i en es er ei = rw (en, es) refl
  by_tests true true false true en es er ei = absurd (true≢false (sym (within_range slot (value_of c) ei) ∙ er))
  by_tests true true false false en es er ei = rw (en, es, er, sym (inside_is slot (value_of c)), ei) refl
  by_tests true true true i en es er ei =
      (rw (en, es, er) refl) ∙ signed_verdict a row slot (value_of c) ∙ taken_is i reaches ei refl en es

  right_verdict : verdict_by a row slot (found_in (Reads c)) ≡ form_verdict a row slot (This c)
  right_verdict = by_tests (nests c deepest) (small c) (in_range (value_of c)) (within slot (value_of c)) refl refl refl refl

bare_verdict : (a row : ℕ) → verdict_by a row Bare (Above 0) ≡ form_verdict a row Bare Nothing
unfolding verdict_by valued_by verdict_if highest number_in reached form_verdict line_refusals order nests_in small_in value_in number_at inside mod_word lowest
bare_verdict a row = refl

-- a constant of right digits can stand in the place of one: it begins as a constant does, and nothing in it ends one
digit_range : (b : Base) (c : ℕ) → is_digit b c ≡ true → (48 ≤ c) × (c ≤ 70)
unfolding is_digit is_decimal
digit_range Decimal c h =
    let each = both (leb 48 c) (leb c 57) h in
    let low = leb-true 48 c each.0 in
    let high = leb-true c 57 each.1 in
    (low, omega (arith, high))
digit_range Hexadecimal c h =
    either (leb 48 c && leb c 57) (leb 65 c && leb c 70) ((48 ≤ c) × (c ≤ 70)) h
    (λ d.
    let each = both (leb 48 c) (leb c 57) d in
    let low = leb-true 48 c each.0 in
    let high = leb-true c 57 each.1 in
    (low, omega (arith, high)))
    (λ l.
    let each = both (leb 65 c) (leb c 70) l in
    let low = leb-true 65 c each.0 in
    let high = leb-true c 70 each.1 in
    (omega (arith, low), high))

digit_inner : (b : Base) (c : ℕ) → is_digit b c ≡ true → ends c ≡ false
unfolding ends
digit_inner b c h =
    let range = digit_range b c h in
    let comma : c ≢ 44 = λ e. omega (arith, e, range.0) in
    let bracket : c ≢ 93 = λ e. omega (arith, e, range.1) in
    rw (ne_eqb c 44 comma, ne_eqb c 93 bracket) refl

digits_inner : (b : Base) (ds : List ℕ) → all_digits b ds ≡ true → none ends ds ≡ true
unfolding all_digits
digits_inner b [] h = refl
digits_inner b (d ∷ ds) h =
    let each = both (is_digit b d) (all_digits b ds) h in
    rw (digit_inner b d each.0, digits_inner b ds each.1) refl

number_inner : (b : Base) (ds : List ℕ) → is_number b ds ≡ true → none ends (number_text b ds) ≡ true
unfolding is_number number_text ascii ends
number_inner Decimal [] h = refl
number_inner Decimal (d ∷ ds) h = digits_inner Decimal (d ∷ ds) h
number_inner Hexadecimal [] h = refl
number_inner Hexadecimal (d ∷ ds) h = digits_inner Hexadecimal (d ∷ ds) h

joined_inner : (xs : List ℕ) (c : ℕ) (ys : List ℕ) → ends c ≡ false → none ends xs ≡ true → none ends ys ≡ true → none ends (xs ++ (c ∷ ys)) ≡ true
joined_inner xs c ys e h k = none_append ends xs (c ∷ ys) h (rw (e, k) refl)

mutual
  unfolding right constant_text ascii ends

  term_inner : (t : Term) → right_term t ≡ true → none ends (term_text t) ≡ true
  term_inner (Number b ds) h = number_inner b ds h
  term_inner (Within c) h = joined_inner (constant_text c) 41 [] refl (constant_inner c h) refl

  constant_inner : (c : Constant) → right c ≡ true → none ends (constant_text c) ≡ true
  constant_inner (Plain t) h = term_inner t h
  constant_inner (Negated t) h = term_inner t h
  constant_inner (Plus c t) h =
      let each = both (right c) (right_term t) h in
      joined_inner (constant_text c) 43 (term_text t) refl (constant_inner c each.0) (term_inner t each.1)
  constant_inner (Minus c t) h =
      let each = both (right c) (right_term t) h in
      joined_inner (constant_text c) 45 (term_text t) refl (constant_inner c each.0) (term_inner t each.1)

abbrev starts : List ℕ → Bool
starts [] = false
starts (c ∷ cs) = begins c

starts_more : (xs ys : List ℕ) → starts xs ≡ true → starts (xs ++ ys) ≡ true
starts_more [] ys h = absurd (true≢false (sym h))
starts_more (x ∷ xs) ys h = h

or_true : (t : Bool) → (t || true) ≡ true
or_true true = refl
or_true false = refl

digit_begins : (c : ℕ) → is_digit Decimal c ≡ true → begins c ≡ true
unfolding is_digit is_decimal begins
digit_begins c h = rw (h, or_true (eqb c 45), or_true (eqb c 40), or_true (eqb c 36)) refl

number_starts : (b : Base) (ds : List ℕ) → is_number b ds ≡ true → starts (number_text b ds) ≡ true
unfolding is_number number_text ascii begins all_digits
number_starts Decimal [] h = absurd (true≢false (sym h))
number_starts Decimal (d ∷ ds) h = digit_begins d (both (is_digit Decimal d) (all_digits Decimal ds) h).0
number_starts Hexadecimal [] h = absurd (true≢false (sym h))
number_starts Hexadecimal (d ∷ ds) h = refl

term_starts : (t : Term) → right_term t ≡ true → starts (term_text t) ≡ true
unfolding right constant_text ascii begins
term_starts (Number b ds) h = number_starts b ds h
term_starts (Within c) h = refl

constant_starts : (c : Constant) → right c ≡ true → starts (constant_text c) ≡ true
unfolding right constant_text ascii begins
constant_starts (Plain t) h = term_starts t h
constant_starts (Negated t) h = refl
constant_starts (Plus c t) h = starts_more (constant_text c) _ (constant_starts c (both (right c) (right_term t) h).0)
constant_starts (Minus c t) h = starts_more (constant_text c) _ (constant_starts c (both (right c) (right_term t) h).0)

as_constant : (t : List ℕ) → starts t ≡ true → none ends t ≡ true → is_constant t ≡ true
as_constant [] h k = h
as_constant (c ∷ cs) h k = rw (h, k) refl

right_constant : (c : Constant) → right c ≡ true → is_constant (constant_text c) ≡ true
right_constant c h = as_constant (constant_text c) (constant_starts c h) (constant_inner c h)

-- so a form is a row that spells the line
put_takes : (slot : Slot) (p : Put) → SuitsIf (is_bare slot) p → Takes slot (put_text p)
unfolding is_bare put_text
put_takes Bare Nothing h = refl
put_takes Bare (This c) h = absurd h
put_takes N8 Nothing h = absurd h
put_takes N8 (This c) h = right_constant c h
put_takes N16 Nothing h = absurd h
put_takes N16 (This c) h = right_constant c h
put_takes High Nothing h = absurd h
put_takes High (This c) h = right_constant c h
put_takes E8 Nothing h = absurd h
put_takes E8 (This c) h = right_constant c h
put_takes Target Nothing h = absurd h
put_takes Target (This c) h = right_constant c h
put_takes U3 Nothing h = absurd h
put_takes U3 (This c) h = right_constant c h
put_takes Vec Nothing h = absurd h
put_takes Vec (This c) h = right_constant c h

form_spells : (r : Row) (p : Put) (line : List ℕ) → OfForm r p line → Spells r (put_text p) line
form_spells r p line f =
    record { listed = f.listed; some = f.some; takes = put_takes (slot_in r.spelling.operands) p f.suits; is = f.is }

stands_bare : (slot : Slot) (t : List ℕ) → is_bare slot ≡ true → (standing slot t ≡ Above 0) × (slot ≡ Bare)
unfolding is_bare standing
stands_bare Bare t h = (refl, refl)
stands_bare N8 t h = absurd (true≢false (sym h))
stands_bare N16 t h = absurd (true≢false (sym h))
stands_bare High t h = absurd (true≢false (sym h))
stands_bare E8 t h = absurd (true≢false (sym h))
stands_bare Target t h = absurd (true≢false (sym h))
stands_bare U3 t h = absurd (true≢false (sym h))
stands_bare Vec t h = absurd (true≢false (sym h))

stands_slot : (slot : Slot) (t : List ℕ) → is_bare slot ≡ false → standing slot t ≡ found_of t
unfolding is_bare standing
stands_slot Bare t h = absurd (true≢false h)
stands_slot N8 t h = refl
stands_slot N16 t h = refl
stands_slot High t h = refl
stands_slot E8 t h = refl
stands_slot Target t h = refl
stands_slot U3 t h = refl
stands_slot Vec t h = refl

bare_takes : (slot : Slot) (t : List ℕ) → is_bare slot ≡ true → Takes slot t → t ≡ []
unfolding is_bare
bare_takes Bare t h e = e
bare_takes N8 t h e = absurd (true≢false (sym h))
bare_takes N16 t h e = absurd (true≢false (sym h))
bare_takes High t h e = absurd (true≢false (sym h))
bare_takes E8 t h e = absurd (true≢false (sym h))
bare_takes Target t h e = absurd (true≢false (sym h))
bare_takes U3 t h e = absurd (true≢false (sym h))
bare_takes Vec t h e = absurd (true≢false (sym h))

-- a line of a form is never 12
fault_12 : (n : ℕ) → Fault n ≡ Fault 12 → n ≡ 12
fault_12 n e = cc

bytes_12 : (bytes : List ℕ) → Bytes bytes ≡ Fault 12 → ⊥
bytes_12 bytes e = let z : ◌≡◌ {A = ℕ} 0 1 = cc in omega arith

refusal_other : (t u : Bool) (bytes : List ℕ) → unless_refused (code_of (13 when t ∷ 14 when u ∷ [])) (λ _. Bytes bytes) Fault ≢ Fault 12
unfolding order
refusal_other true u bytes e = let z = fault_12 13 e in omega (arith, z)
refusal_other false true bytes e = let z = fault_12 14 e in omega (arith, z)
refusal_other false false bytes e = bytes_12 bytes e

verdict_other : (a row : ℕ) (slot : Slot) (p : Put) → form_verdict a row slot p ≢ Fault 12
unfolding form_verdict line_refusals
verdict_other a row slot p e = refusal_other _ _ _ e

-- what stands in the place of a row's constant
put_found : (t : Bool) (a row : ℕ) (slot : Slot) (p : Put) → is_bare slot ≡ t → SuitsIf t p
    → verdict_by a row slot (standing slot (put_text p)) ≡ form_verdict a row slot p
unfolding put_text
put_found true a row slot Nothing e h =
    let bare = stands_bare slot [] e in rw (bare.0, bare.1) (bare_verdict a row)
put_found true a row slot (This c) e h = absurd h
put_found false a row slot Nothing e h = absurd h
put_found false a row slot (This c) e h =
    rw (stands_slot slot (constant_text c) e) (unfold found_of in rw (whole_read c h) (right_verdict a row slot c))

pub formed : Formed
formed a r p line f =
    let told = spelled_has r (put_text p) line (form_spells r p line f) in
    verdict_by_lem a line told.some
    ∙ (rw (told.slot, sym told.text) (put_found (is_bare (slot_in r.spelling.operands)) a (row_by (outline_in line)) (slot_in r.spelling.operands) p refl f.suits))

-- where there is no form: no row, or no constant in its place
module _ (a : ℕ) (line : List ℕ) (no_form : (r : Row) (p : Put) → OfForm r p line → ⊥) where
  without_row : row_by (outline_in line) ≡ no_row → verdict_of a line ≡ Fault 12
  unfolding verdict_of found_in_line found_if verdict_by
  without_row e = rw (eq-eqb (row_by (outline_in line)) no_row e) refl

  module _ (s : Spelled line) (some : row_by (outline_in line) ≢ no_row) where
    abbrev slot : Slot
    slot = slot_in s.row.spelling.operands

    slot_is : slot_at (row_by (outline_in line)) ≡ slot
    slot_is = (spelled_has s.row (constant_in line) line s.spells).slot

    form_of : (p : Put) → constant_in line ≡ put_text p → SuitsIf (is_bare slot) p → OfForm s.row p line
    form_of p e h = record { listed = s.spells.listed; some = s.spells.some; suits = h; is = s.spells.is ∙ ap (λ (t : List ℕ). spelled_by t s.row.spelling) e }

    no_constant : (read : Read) → read_of (constant_in line) ≡ read → is_bare slot ≡ false → verdict_of a line ≡ Fault 12
    no_constant NoConstant e bare =
        verdict_by_lem a line some
        ∙ (rw (slot_is, stands_slot slot (constant_in line) bare) (unfold found_of found_in verdict_by in rw e refl))
    no_constant (Reads c) e bare =
        let told = (exact (constant_in line) c).0 e in
        absurd (no_form s.row (This c) (form_of (This c) (unfold put_text in sym told.spelled) (rw bare told.formed)))

    by_slot : (t : Bool) → is_bare slot ≡ t → verdict_of a line ≡ Fault 12
    by_slot true bare =
        absurd (no_form s.row Nothing (form_of Nothing (unfold put_text in bare_takes slot (constant_in line) bare s.spells.takes) (rw bare tt)))
    by_slot false bare = no_constant (read_of (constant_in line)) refl bare

  by_row : (t : Bool) → eqb (row_by (outline_in line)) no_row ≡ t → verdict_of a line ≡ Fault 12
  by_row true e = without_row (eqb-true _ _ e)
  by_row false e =
      let some = eqb-false _ _ e in
      let s = row_spells line some in
      by_slot s some (is_bare (slot s some)) refl

pub formless : Formless
formless a line no_form = by_row a line no_form (eqb (row_by (outline_in line)) no_row) refl

pub not_formless : NotFormless
not_formless a r p line f e = verdict_other a (row_by (outline_in line)) (slot_in r.spelling.operands) p (sym (formed a r p line f) ∙ e)

-- what stands in one slot with one text is one
one_put : (t : Bool) (p p' : Put) → SuitsIf t p → SuitsIf t p' → put_text p ≡ put_text p' → p ≡ p'
one_put true Nothing Nothing h h' e = refl
one_put true Nothing (This c) h h' e = absurd h'
one_put true (This c) p' h h' e = absurd h
one_put false Nothing p' h h' e = absurd h
one_put false (This c) Nothing h h' e = absurd h'
one_put false (This c) (This c') h h' e =
    let text : constant_text c ≡ constant_text c' = unfold put_text in e in
    ap This (one_way (constant_text c) c c' (record { spelled = refl; formed = h }) (record { spelled = sym text; formed = h' }))

pub one_form : OneForm
one_form r r' p p' line f f' =
    let spells = form_spells r p line f in
    let spells' = form_spells r' p' line f' in
    let one = one_reading r r' (put_text p) (put_text p') line spells spells' in
    let slots = sym (spelled_has r (put_text p) line spells).slot ∙ (spelled_has r' (put_text p') line spells').slot in
    (one_put (is_bare (slot_in r.spelling.operands)) p p' f.suits (rw (sym slots) at f'.suits) one.0, one.1)

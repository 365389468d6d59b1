-- A spelling with a text in the place of its constant: what stands before it, the text, and what stands behind it. Where the text is like
-- a constant the line falls apart into these, and has the spelling's outline; and a line that has the outline is such a one.
-- Assumes nothing.
use Prim.Native.Nat.{ℕ}
use mathlib.Core.Bool.{Bool, true, false, ◌&&◌, true≢false}
use mathlib.Core.List.{List, [], ◌∷◌, ◌++◌, append_assoc, append-nil}
use mathlib.Core.Path.{◌≡◌, refl, sym, ◌∙◌, ap}
use native.Mathlib.Omega.{arith}
use Rattle.digits.specs.Ascii.{ascii, space}
use Rattle.listing.specs.Spelling.{Kind, n8, n16, at_n16, at_high, e8, sp_plus_e8, target, u3, vec, Shown, Named, Of, Spelling, bracketed, around, comma_text, operands_text, spelling_by}
use Rattle.spellings.specs.Outline.{before_in, constant_in, behind_in, mark, marked, outline_in, shown_by, spelled_by, outline_of}
use Rattle.spellings.specs.Rows.{slot_of, slot_in}
use Rattle.spellings.specs.Exact.{is_constant, Takes}
use Rattle.spellings.proofs.Outline.{both, free, ended, around_apart, free_apart, parts_join, Parts, Without, With, parts, mark_of, mark_is_constant, no_mark, outline_apart}

-- a text without a place for a constant, and one with such a place
pub data Cut : Type 0 where
  Plain : List ℕ → Cut
  Holds : List ℕ → List ℕ → Cut

abbrev pub cut_text : List ℕ → Cut → List ℕ
cut_text t (Plain xs) = xs
cut_text t (Holds pre post) = pre ++ (t ++ post)

abbrev pub led : List ℕ → Cut → Cut
led xs (Plain ys) = Plain (xs ++ ys)
led xs (Holds pre post) = Holds (xs ++ pre) post

led_text : (t xs : List ℕ) (c : Cut) → xs ++ cut_text t c ≡ cut_text t (led xs c)
led_text t xs (Plain ys) = refl
led_text t xs (Holds pre post) = sym (append_assoc xs pre (t ++ post))

-- what stands around a constant
abbrev ahead_of : Kind → List ℕ
ahead_of n8 = []
ahead_of n16 = []
ahead_of at_n16 = ascii "["
ahead_of at_high = ascii "["
ahead_of e8 = []
ahead_of sp_plus_e8 = ascii "SP+"
ahead_of target = []
ahead_of u3 = []
ahead_of vec = []

abbrev after_of : Kind → List ℕ
after_of n8 = []
after_of n16 = []
after_of at_n16 = ascii "]"
after_of at_high = ascii "]"
after_of e8 = []
after_of sp_plus_e8 = []
after_of target = []
after_of u3 = []
after_of vec = []

around_is : (k : Kind) (t rest : List ℕ) → around k t ++ rest ≡ ahead_of k ++ (t ++ (after_of k ++ rest))
unfolding around bracketed ascii
around_is n8 t rest = refl
around_is n16 t rest = refl
around_is at_n16 t rest = ap (λ (l : List ℕ). 91 ∷ l) (append_assoc t (93 ∷ []) rest)
around_is at_high t rest = ap (λ (l : List ℕ). 91 ∷ l) (append_assoc t (93 ∷ []) rest)
around_is e8 t rest = refl
around_is sp_plus_e8 t rest = refl
around_is target t rest = refl
around_is u3 t rest = refl
around_is vec t rest = refl

-- operands of which none is a constant, and of which one at most is
abbrev pub all_names : List Shown → Bool
all_names [] = true
all_names (Named t ∷ xs) = all_names xs
all_names (Of k n ∷ xs) = false

abbrev pub one_constant : List Shown → Bool
one_constant [] = true
one_constant (Named t ∷ xs) = one_constant xs
one_constant (Of k n ∷ xs) = all_names xs

-- operands and a spelling, by the place of their constant
abbrev lead_cut : Shown → List Shown → Cut → Cut
lead_cut (Named t) xs rest = led (ascii t) rest
lead_cut (Of k n) xs rest = Holds (ahead_of k) (after_of k ++ comma_text (shown_by []) xs)

abbrev comma_cut : List Shown → Cut
comma_cut [] = Plain []
comma_cut (x ∷ xs) = led (ascii ",") (lead_cut x xs (comma_cut xs))

abbrev operands_cut : List Shown → Cut
operands_cut [] = Plain []
operands_cut (x ∷ xs) = led (space ∷ []) (lead_cut x xs (comma_cut xs))

abbrev pub cut_of : Spelling → Cut
cut_of s = led (ascii s.name) (operands_cut s.operands)

module _ (t : List ℕ) where
  names_text : (xs : List Shown) → all_names xs ≡ true → comma_text (shown_by t) xs ≡ comma_text (shown_by []) xs
  unfolding comma_text shown_by
  names_text [] h = refl
  names_text (Named x ∷ xs) h = rw (names_text xs h)
  names_text (Of k n ∷ xs) h = absurd (true≢false (sym h))

  lead_text : (x : Shown) (xs : List Shown) → one_constant (x ∷ xs) ≡ true
      → (one_constant xs ≡ true → comma_text (shown_by t) xs ≡ cut_text t (comma_cut xs))
      → shown_by t x ++ comma_text (shown_by t) xs ≡ cut_text t (lead_cut x xs (comma_cut xs))
  unfolding shown_by
  lead_text (Named x) xs h known = rw (known h) (led_text t (ascii x) (comma_cut xs))
  lead_text (Of k n) xs h known = rw (names_text xs h) (around_is k t (comma_text (shown_by []) xs))

  comma_text_lem : (xs : List Shown) → one_constant xs ≡ true → comma_text (shown_by t) xs ≡ cut_text t (comma_cut xs)
  unfolding comma_text
  comma_text_lem [] h = refl
  comma_text_lem (x ∷ xs) h = rw (lead_text x xs h (comma_text_lem xs)) (led_text t (ascii ",") (lead_cut x xs (comma_cut xs)))

  operands_text_lem : (xs : List Shown) → one_constant xs ≡ true → operands_text (shown_by t) xs ≡ cut_text t (operands_cut xs)
  unfolding operands_text
  operands_text_lem [] h = refl
  operands_text_lem (x ∷ xs) h = rw (lead_text x xs h (comma_text_lem xs)) (led_text t (space ∷ []) (lead_cut x xs (comma_cut xs)))

  pub spelled_text : (s : Spelling) → one_constant s.operands ≡ true → spelled_by t s ≡ cut_text t (cut_of s)
  unfolding spelled_by spelling_by
  spelled_text s h = rw (operands_text_lem s.operands h) (led_text t (ascii s.name) (operands_cut s.operands))

-- a text in the place of a constant, where there is one
abbrev pub Fills : Cut → List ℕ → Type 0
Fills (Plain xs) t = t ≡ []
Fills (Holds pre post) t = is_constant t ≡ true

led_fills : (xs : List ℕ) (c : Cut) (t : List ℕ) → Fills (led xs c) t ≡ Fills c t
led_fills xs (Plain ys) t = refl
led_fills xs (Holds pre post) t = refl

slot_fills : (k : Kind) (t : List ℕ) → (is_constant t ≡ true) ≡ Takes (slot_of k) t
unfolding slot_of
slot_fills n8 t = refl
slot_fills n16 t = refl
slot_fills at_n16 t = refl
slot_fills at_high t = refl
slot_fills e8 t = refl
slot_fills sp_plus_e8 t = refl
slot_fills target t = refl
slot_fills u3 t = refl
slot_fills vec t = refl

lead_fills : (x : Shown) (xs : List Shown) (t : List ℕ) → Fills (comma_cut xs) t ≡ Takes (slot_in xs) t
    → Fills (lead_cut x xs (comma_cut xs)) t ≡ Takes (slot_in (x ∷ xs)) t
unfolding slot_in
lead_fills (Named x) xs t known = led_fills (ascii x) (comma_cut xs) t ∙ known
lead_fills (Of k n) xs t known = slot_fills k t

comma_fills : (xs : List Shown) (t : List ℕ) → Fills (comma_cut xs) t ≡ Takes (slot_in xs) t
unfolding slot_in
comma_fills [] t = refl
comma_fills (x ∷ xs) t = led_fills (ascii ",") (lead_cut x xs (comma_cut xs)) t ∙ lead_fills x xs t (comma_fills xs t)

operands_fills : (xs : List Shown) (t : List ℕ) → Fills (operands_cut xs) t ≡ Takes (slot_in xs) t
unfolding slot_in
operands_fills [] t = refl
operands_fills (x ∷ xs) t = led_fills (space ∷ []) (lead_cut x xs (comma_cut xs)) t ∙ lead_fills x xs t (comma_fills xs t)

pub spelling_fills : (s : Spelling) (t : List ℕ) → Fills (cut_of s) t ≡ Takes (slot_in s.operands) t
spelling_fills s t = led_fills (ascii s.name) (operands_cut s.operands) t ∙ operands_fills s.operands t

-- a cut that a line's own parts show: nothing before begins a constant, and what stands behind ends one
abbrev pub well_cut : Cut → Bool
well_cut (Plain xs) = free xs
well_cut (Holds pre post) = free pre && ended post

cut_apart : (c : Cut) (t : List ℕ) → well_cut c ≡ true → Fills c t → (constant_in (cut_text t c) ≡ t) × (outline_in (cut_text t c) ≡ cut_text (mark ∷ []) c)
unfolding outline_in marked
cut_apart (Plain xs) t w f =
    let a = free_apart xs w in
    (a.constant_is ∙ sym f, rw (a.before_is, a.constant_is, a.behind_is, append-nil))
cut_apart (Holds pre post) t w f =
    let each = both (free pre) (ended post) w in
    let a = around_apart pre t post each.0 f each.1 in
    (a.constant_is, rw (a.before_is, a.constant_is, a.behind_is, mark_of t f))

-- and back: a line that has the outline
module _ (line : List ℕ) where
  constant_like : Parts line → (marked (constant_in line) ≡ mark ∷ []) → is_constant (constant_in line) ≡ true
  unfolding marked
  constant_like (Without f) e =
      let z : ◌≡◌ {A = ℕ} 0 1 = cc (ap marked (free_apart line f).constant_is) in
      absurd (omega arith)
  constant_like (With f is e') e = is

  joined_back : (pre t post : List ℕ) → before_in line ≡ pre → constant_in line ≡ t → behind_in line ≡ post → line ≡ pre ++ (t ++ post)
  joined_back pre t post a b d = rw (a, b, d) at (sym (parts_join line))

  cut_back : (c : Cut) → well_cut c ≡ true → outline_in line ≡ cut_text (mark ∷ []) c
      → (line ≡ cut_text (constant_in line) c) × Fills c (constant_in line)
  cut_back (Plain xs) w e =
      let a = outline_apart line (parts line) in
      let b = free_apart xs w in
      let none = no_mark (constant_in line) (sym a.constant_is ∙ ap constant_in e ∙ b.constant_is) in (
        joined_back xs [] [] (sym a.before_is ∙ ap before_in e ∙ b.before_is) none
            (sym a.behind_is ∙ ap behind_in e ∙ b.behind_is)
            ∙ append-nil xs,
        none,
      )
  cut_back (Holds pre post) w e =
      let each = both (free pre) (ended post) w in
      let a = outline_apart line (parts line) in
      let b = around_apart pre (mark ∷ []) post each.0 mark_is_constant each.1 in (
        joined_back pre (constant_in line) post (sym a.before_is ∙ ap before_in e ∙ b.before_is) refl
            (sym a.behind_is ∙ ap behind_in e ∙ b.behind_is),
        constant_like (parts line) (sym a.constant_is ∙ ap constant_in e ∙ b.constant_is),
      )

-- a spelling whose constant's place a line shows
abbrev pub well_spelled : Spelling → Bool
well_spelled s = one_constant s.operands && well_cut (cut_of s)

module _ (s : Spelling) (w : well_spelled s ≡ true) where
  two : (one_constant s.operands ≡ true) × (well_cut (cut_of s) ≡ true)
  two = both (one_constant s.operands) (well_cut (cut_of s)) w

  pub spelled_constant : (t : List ℕ) → Takes (slot_in s.operands) t → constant_in (spelled_by t s) ≡ t
  spelled_constant t h = rw (spelled_text t s two.0) (cut_apart (cut_of s) t two.1 (rw (spelling_fills s t) h)).0

  pub spelled_outline : (t : List ℕ) → Takes (slot_in s.operands) t → outline_in (spelled_by t s) ≡ outline_of s
  unfolding outline_of
  spelled_outline t h = rw (spelled_text t s two.0, spelled_text (mark ∷ []) s two.0) (cut_apart (cut_of s) t two.1 (rw (spelling_fills s t) h)).1

  pub spelled_back : (line : List ℕ) → outline_in line ≡ outline_of s → (line ≡ spelled_by (constant_in line) s) × Takes (slot_in s.operands) (constant_in line)
  unfolding outline_of
  spelled_back line e =
      let back = cut_back line (cut_of s) two.1 (e ∙ spelled_text (mark ∷ []) s two.0) in
      (back.0 ∙ sym (spelled_text (constant_in line) s two.0), rw (spelling_fills s (constant_in line)) at back.1)

-- Places in a text and in a table: those that std's `position` finds; and step by step, how far a search has come, how far an entry agrees
-- with a text, and how many entries do not.
-- Assumes nothing.
use Prim.Native.Nat.{ℕ, suc, ◌+◌, ◌-◌, ◌*◌, ◌≤◌, ◌<◌, zero}
use mathlib.Core.Bool.{Bool, true, false, not, ◌||◌, true≢false, cond}
use mathlib.Core.List.{List, [], ◌∷◌}
use mathlib.Core.Path.{◌≡◌, refl, sym, ◌∙◌, ap}
use native.Mathlib.Nat.{add-zero}
use native.Mathlib.Numerals.{add-one}
use native.Mathlib.Omega.{arith}
use borrow.Author.Tests.{le-leb, lt-leb, eqb-true, ltb-true, ltb-false, eq-eqb, ne_eqb}
use lib.Dec.{eqb, leb, ltb}
use lib.ListN.{length, get_or, take, drop, drop_of_length-le, length-drop}
use lib.Seq.{drop-cons, drop-drop}
use Rattle.listing.specs.Forms.{number_if, text_if}
use Rattle.spellings.specs.Outline.{up_to, on_from}
use Rattle.spellings.specs.Rows.{same, unless}
use Rattle.spellings.specs.Lookup.{letters_of, place_in}
use Rattle.std.specs.Prelude.{Option, Some, None, position}
use Rattle.std.specs.List.{position_or_len}
use Rattle.std.specs.Option.{unwrap_or}
use Rattle.std.specs.Cmp.Lexicographic.{pointwise}
use Rattle.std.proofs.lemmas.List.Recursion.{is_position_or_len}
use Rattle.std.proofs.lemmas.List.Sums.{prefix_len-le-length}
use Rattle.spellings.proofs.Fallen.{cut_most, nothing_behind, all_before, some_behind, before_cut, behind_cut}

-- a number that none is, and one that some is
pub unless_none : (none k : ℕ) → None ≡ unless none k → k ≡ none
unless_none none k h = go (eqb k none) refl h
  where
    go : (t : Bool) → eqb k none ≡ t → ◌≡◌ {A = Option ℕ} None (cond t None (Some k)) → k ≡ none
    go true e h = eqb-true k none e
    go false e h = cc

pub unless_some : (none k x : ℕ) → Some x ≡ unless none k → x ≡ k
unless_some none k x h = go (eqb k none) h
  where
    go : (t : Bool) → ◌≡◌ {A = Option ℕ} (Some x) (cond t None (Some k)) → x ≡ k
    go true h = cc
    go false h = cc

-- a search for the first character of a kind
module _ (passes : ℕ → Bool) where
  up_to_if : (t : Bool) (c : ℕ) (cs : List ℕ) → length (text_if t [] (c ∷ cs)) ≡ cond t 0 (1 + length cs)
  unfolding text_if
  up_to_if true c cs = refl
  up_to_if false c cs = omega arith

  up_to_length : (text : List ℕ) → length (up_to passes text) ≡ position_or_len passes text
  unfolding up_to
  up_to_length text = is_position_or_len (λ xs. length (up_to passes xs)) passes refl (λ c cs. up_to_if (passes c) c (up_to passes cs)) text

  module _ (text : List ℕ) where
    abbrev place : ℕ
    place = position_or_len passes text

    most : place ≤ length text
    most = omega (arith, up_to_length text, cut_most passes text)

    abbrev found : Bool → Option ℕ
    found t = cond t (Some place) None

    stop_if : (t : Bool) → ltb place (length text) ≡ t → unwrap_or (found t) (length text) ≡ length (up_to passes text)
    stop_if true e = sym (up_to_length text)
    stop_if false e = let h = ltb-false place (length text) e in omega (arith, most, up_to_length text)

    -- where it stops, at the end if there is none
    pub stop_is : unwrap_or (position passes text) (length text) ≡ length (up_to passes text)
    stop_is = stop_if (ltb place (length text)) refl

    none_if : (t : Bool) → ltb place (length text) ≡ t → None ≡ found t → length (up_to passes text) ≡ length text
    none_if true e h = cc
    none_if false e h = let over = ltb-false place (length text) e in omega (arith, most, up_to_length text)

    -- where there is none the text is before it
    pub none_found : None ≡ position passes text → (up_to passes text ≡ text) × (on_from passes text ≡ [])
    none_found h =
        let whole = none_if (ltb place (length text)) refl h in
        (all_before passes text whole, nothing_behind passes text whole)

    some_if : (n : ℕ) (t : Bool) → ltb place (length text) ≡ t → Some n ≡ found t
        → (n ≡ length (up_to passes text)) × (length (up_to passes text) < length text)
    some_if n true e h =
        let within = ltb-true place (length text) e in
        let at : n ≡ place = cc in
        (omega (arith, up_to_length text), omega (arith, up_to_length text))
    some_if n false e h = absurd (cc)

    -- where there is one, it cuts the text in two
    pub record CutAt (n : ℕ) : Type 0 where
      pub within : n < length text
      pub before : take n text ≡ up_to passes text
      pub mark : ℕ
      pub behind : on_from passes text ≡ mark ∷ drop (n + 1) text

    pub some_found : (n : ℕ) → Some n ≡ position passes text → CutAt n
    some_found n h =
        let at = some_if n (ltb place (length text)) refl h in
        let some = some_behind passes text (λ e. let z : 0 < 0 = omega (arith, at.1) in absurd (omega arith)) in
        let rest : drop (n + 1) text ≡ some.1 =
        sym (drop-drop 1 n text) ∙ ap (λ k. drop 1 (drop k text)) at.0 ∙ ap (drop 1) (behind_cut passes text ∙ some.2) in
        record {
          within = omega (arith, at.0, at.1);
          before = ap (λ k. take k text) at.0 ∙ before_cut passes text;
          mark = some.0;
          behind = rw rest some.2;
        }

-- a table of entries, five characters each, as a list of their letters
abbrev pub letters_in : ℕ → List ℕ → List (List ℕ)
letters_in zero entries = []
letters_in (suc n) entries = letters_of (take 5 entries) ∷ letters_in n (drop 5 entries)

same_is : (xs ys : List ℕ) → same xs ys ≡ pointwise eqb xs ys
unfolding same
same_is [] [] = refl
same_is [] (y ∷ ys) = refl
same_is (x ∷ xs) [] = refl
same_is (x ∷ xs) (y ∷ ys) = rw (same_is xs ys)

-- a number up to a bound, told as std does and as a number that may be none
told_if : (k n : ℕ) → k ≤ n → cond (ltb k n) (Some k) None ≡ unless n k
told_if k n h = go (ltb k n) refl
  where
    go : (t : Bool) → ltb k n ≡ t → cond t (Some k) None ≡ unless n k
    go true e = let below = ltb-true k n e in rw (ne_eqb k n (λ e. omega arith))
    go false e = let over = ltb-false k n e in rw (eq-eqb k n (omega arith))

module _ (text : List ℕ) where
  abbrev is_text : List ℕ → Bool
  is_text e = pointwise eqb e text

  letters_length : (n : ℕ) (entries : List ℕ) → length (letters_in n entries) ≡ n
  letters_length zero entries = refl
  letters_length (suc n) entries = ap suc (letters_length n (drop 5 entries))

  next_if : (t : Bool) (k : ℕ) → number_if t 0 (suc k) ≡ cond (not t) (1 + k) 0
  unfolding number_if
  next_if true k = refl
  next_if false k = omega arith

  place_is : (n : ℕ) (entries : List ℕ) → place_in n entries text ≡ position_or_len is_text (letters_in n entries)
  unfolding place_in
  place_is zero entries = refl
  place_is (suc n) entries =
      rw (place_is n (drop 5 entries), same_is (letters_of (take 5 entries)) text)
      (next_if (pointwise eqb (letters_of (take 5 entries)) text) (position_or_len is_text (letters_in n (drop 5 entries))))

  pub place_found : (n : ℕ) (entries : List ℕ) → position is_text (letters_in n entries) ≡ unless n (place_in n entries text)
  place_found n entries =
      rw (letters_length n entries, ← place_is n entries)
      (told_if (place_in n entries text) n (omega (
        arith,
        place_is n entries,
        letters_length n entries,
        prefix_len-le-length (λ e. not (is_text e)) (letters_in n entries),
      )))

-- what is left of a text is its next character and what is left behind it
here : (text : List ℕ) (i : ℕ) → i < length text → drop i text ≡ get_or text i 0 ∷ drop (i + 1) text
here text i h = rw (add-one i) (drop-cons text i 0 h)

-- a search
module _ (passes : ℕ → Bool) (text : List ℕ) (i : ℕ) where
  pub search_stops : i < length text → passes (get_or text i 0) ≡ true → i ≡ i + length (up_to passes (drop i text))
  unfolding up_to text_if
  search_stops h e = rw (here text i h, e) (sym (add-zero i))

  pub search_goes : i < length text → passes (get_or text i 0) ≡ false
      → i + length (up_to passes (drop i text)) ≡ i + 1 + length (up_to passes (drop (i + 1) text))
  unfolding up_to text_if
  search_goes h e = rw (here text i h, e) (omega arith)

  pub search_ends : length text ≤ i → i ≡ i + length (up_to passes (drop i text))
  unfolding up_to
  search_ends h = rw (drop_of_length-le text {i = i} h) (sym (add-zero i))

-- an entry and a text from a place on
abbrev agrees : List ℕ → List ℕ → ℕ → Bool
agrees entry text i = same (letters_of (drop i entry)) (drop i text)

entry_short : (e : ℕ) (es : List ℕ) (t : Bool) → eqb e 46 ≡ t → t ≡ same (letters_of (e ∷ es)) []
unfolding letters_of up_to text_if same
entry_short e es true h = rw h
entry_short e es false h = rw h

entry_other : (e t : ℕ) (es ts : List ℕ) (u v : Bool) → eqb e 46 ≡ u → eqb e t ≡ v → (u || not v) ≡ true
    → false ≡ same (letters_of (e ∷ es)) (t ∷ ts)
unfolding letters_of up_to text_if same
entry_other e t es ts true v p q h = rw p
entry_other e t es ts false true p q h = absurd (true≢false (sym h))
entry_other e t es ts false false p q h = rw (p, q)

entry_same : (e t : ℕ) (es ts : List ℕ) (u v : Bool) → eqb e 46 ≡ u → eqb e t ≡ v → (u || not v) ≡ false
    → same (letters_of (e ∷ es)) (t ∷ ts) ≡ same (letters_of es) ts
unfolding letters_of up_to text_if same
entry_same e t es ts true v p q h = absurd (true≢false h)
entry_same e t es ts false true p q h = rw (p, q)
entry_same e t es ts false false p q h = absurd (true≢false h)

entry_left : (ts : List ℕ) (n i : ℕ) → length ts ≡ n - i → leb n i ≡ same [] ts
unfolding same
entry_left [] n i h = le-leb n i (omega arith)
entry_left (t ∷ ts) n i h = lt-leb n i (omega arith)

module _ (entry text : List ℕ) (i : ℕ) where
  pub text_over : i < length entry → length text ≤ i → eqb (get_or entry i 0) 46 ≡ agrees entry text i
  text_over h over =
      rw (here entry i h, drop_of_length-le text {i = i} over) (entry_short (get_or entry i 0) (drop (i + 1) entry) (eqb (get_or entry i 0) 46) refl)

  pub letters_differ : i < length entry → i < length text → (eqb (get_or entry i 0) 46 || not (eqb (get_or entry i 0) (get_or text i 0))) ≡ true
      → false ≡ agrees entry text i
  letters_differ h k e =
      rw (here entry i h, here text i k)
      (entry_other (get_or entry i 0) (get_or text i 0) (drop (i + 1) entry) (drop (i + 1) text) _ _ refl refl e)

  pub letters_agree : i < length entry → i < length text → (eqb (get_or entry i 0) 46 || not (eqb (get_or entry i 0) (get_or text i 0))) ≡ false
      → agrees entry text i ≡ agrees entry text (i + 1)
  letters_agree h k e =
      rw (here entry i h, here text i k)
      (entry_same (get_or entry i 0) (get_or text i 0) (drop (i + 1) entry) (drop (i + 1) text) _ _ refl refl e)

  pub entry_over : length entry ≤ i → leb (length text) i ≡ agrees entry text i
  unfolding letters_of up_to
  entry_over over = rw (drop_of_length-le entry {i = i} over) (entry_left (drop i text) (length text) i (length-drop i text))

-- the entries of a table from a place on
module _ (count : ℕ) (table text : List ℕ) (k : ℕ) where
  abbrev pub count_from : ℕ
  count_from = k + place_in (count - k) (drop (5 * k) table) text

  next_entry : k < count
      → count_from ≡ k + number_if (same (letters_of (take 5 (drop (5 * k) table))) text) 0 (suc (place_in (count - (k + 1)) (drop 5 (drop (5 * k) table)) text))
  unfolding place_in
  next_entry h =
      let more : count - k ≡ suc (count - (k + 1)) = omega arith in
      rw more

  pub entry_found : k < count → same (letters_of (take 5 (drop (5 * k) table))) text ≡ true → k ≡ count_from
  unfolding number_if
  entry_found h e = sym (rw e at (next_entry h) ∙ add-zero k)

  pub entry_passed : k < count → same (letters_of (take 5 (drop (5 * k) table))) text ≡ false
      → count_from ≡ k + 1 + place_in (count - (k + 1)) (drop (5 * (k + 1)) table) text
  unfolding number_if
  entry_passed h e =
      let five : 5 * (k + 1) ≡ 5 * k + 5 = omega arith in
      rw (five, ← drop-drop 5 (5 * k) table) (rw e at (next_entry h) ∙ omega arith)

  pub entries_over : count ≤ k → k ≡ count_from
  unfolding place_in
  entries_over h =
      let over : count - k ≡ 0 = omega arith in
      rw over (sym (add-zero k))

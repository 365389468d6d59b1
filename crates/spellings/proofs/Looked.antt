-- The code's way of finding a row finds the row of every outline. antt computes that each row of the table is found by its outline, and of
-- all names and operands together that what is found has that outline.
-- Assumes nothing.
use Prim.Native.Nat.{ℕ, zero, suc, ◌+◌, ◌*◌, ◌≤◌, ◌<◌}
use mathlib.Core.Bool.{Bool, true, false, not, ◌||◌, ◌&&◌}
use mathlib.Core.List.{List, [], ◌∷◌, ◌++◌, Memᴰ, append-nil}
use mathlib.Core.Logic.{◌≢◌}
use mathlib.Core.Path.{◌≡◌, refl, sym, ◌∙◌, ap, ap₂}
use native.Mathlib.Omega.{arith}
use borrow.Author.Tests.{eqb-true, eqb-false, ltb-true, not-true}
use lib.Dec.{eqb, ltb}
use lib.ListN.{take, drop}
use lib.Seq.{drop-drop}
use Rattle.digits.specs.Ascii.{ascii, space}
use Rattle.insn.specs.Grid.{grid}
use Rattle.insn.proofs.Entries.{tabulate}
use Rattle.listing.specs.Forms.{number_if, text_if}
use Rattle.listing.specs.Spelling.{spellings, data_of}
use Rattle.listing.specs.declared.Edition.TheVariants.{Old, New}
use Rattle.spellings.specs.Outline.{up_to, on_from, shown_by, spelled_by, outline_of}
use Rattle.spellings.specs.Rows.{Row, row_of, unprefixed, prefixed, table, same, no_row, first_in, row_by}
use Rattle.spellings.specs.Lookup.{is_space, is_comma, letters_of, place_in, bares, names, operands, bare_in, name_in, operand_in, alone_row, single_row, double_row, operands_row, named_row, lookup, lookups}
use Rattle.spellings.proofs.Outline.{both, stops, on_found, rejoin}
use Rattle.spellings.proofs.Table.{first_row, every, every_append, every_at, same_true, row_told}
use Rattle.spellings.proofs.Exact.{first_of}

-- each row is found by its outline
finds : Row → Bool
finds r = same (outline_of r.spelling) [] || eqb (lookup (outline_of r.spelling)) (first_row r.number)

finds_new : every finds (tabulate (unprefixed New) 0 256) ≡ true
unfolding every finds grid spellings ascii number_if text_if shown_by spelled_by outline_of unprefixed prefixed same up_to on_from lookups
finds_new = refl

finds_prefixed : every finds (tabulate prefixed 0 256) ≡ true
unfolding every finds grid spellings ascii number_if text_if shown_by spelled_by outline_of unprefixed prefixed same up_to on_from lookups
finds_prefixed = refl

finds_old : every finds (tabulate (unprefixed Old) 0 256 ++ (row_of 512 (data_of 0) ∷ [])) ≡ true
unfolding every finds grid spellings ascii number_if text_if shown_by spelled_by outline_of unprefixed prefixed same up_to on_from lookups
finds_old = refl

-- every number below a bound passes a test
all_below : ℕ → (ℕ → Bool) → Bool
all_below zero test = true
all_below (suc n) test = test n && all_below n test

-- an entry of a table, and the texts that entries make
entry_at : List ℕ → ℕ → List ℕ
entry_at entries k = letters_of (take 5 (drop (5 * k) entries))

abbrev one_text : List ℕ → List ℕ → List ℕ
one_text name a = name ++ (space ∷ a)

abbrev two_text : List ℕ → List ℕ → List ℕ → List ℕ
two_text name a b = name ++ (space ∷ (a ++ (44 ∷ b)))

-- where a row is found, the entries are there and their text has a row
abbrev sound_if : Bool → Bool → List ℕ → Bool
sound_if true there text = true
sound_if false there text = there && not (eqb (first_in table text) no_row)

abbrev sound_alone : ℕ → Bool
sound_alone k = sound_if (eqb (alone_row k) no_row) (ltb k 15) (entry_at bares k)

abbrev sound_single : ℕ → ℕ → Bool
sound_single n a = sound_if (eqb (single_row n a) no_row) (ltb n 34 && ltb a 24) (one_text (entry_at names n) (entry_at operands a))

abbrev sound_double : ℕ → ℕ → ℕ → Bool
sound_double n a b =
    sound_if (eqb (double_row n a b) no_row) (ltb n 34 && (ltb a 24 && ltb b 24))
    (two_text (entry_at names n) (entry_at operands a) (entry_at operands b))

alone_sound : all_below 16 sound_alone ≡ true
unfolding all_below entry_at grid spellings ascii number_if text_if shown_by spelled_by outline_of unprefixed prefixed table first_in same up_to on_from lookups
alone_sound = refl

single_sound : all_below 35 (λ n. all_below 25 (sound_single n)) ≡ true
unfolding all_below entry_at grid spellings ascii number_if text_if shown_by spelled_by outline_of unprefixed prefixed table first_in same up_to on_from lookups
single_sound = refl

double_sound : all_below 35 (λ n. all_below 25 (λ a. all_below 25 (sound_double n a))) ≡ true
unfolding all_below entry_at grid spellings ascii number_if text_if shown_by spelled_by outline_of unprefixed prefixed table first_in same up_to on_from lookups
double_sound = refl

all_found : every finds table ≡ true
unfolding table
all_found =
    every_append finds (tabulate (unprefixed New) 0 256) _ finds_new
    (every_append finds (tabulate prefixed 0 256) (tabulate (unprefixed Old) 0 256 ++ (row_of 512 (data_of 0) ∷ [])) finds_prefixed finds_old)

found_if_lem : (t : Bool) (outline : List ℕ) (k : ℕ) → same outline [] ≡ t → outline ≢ [] → (t || eqb (lookup outline) k) ≡ true → lookup outline ≡ k
found_if_lem true outline k e some h = absurd (some (same_true outline [] e))
found_if_lem false outline k e some h = eqb-true (lookup outline) k h

row_found : (r : Row) → Memᴰ r table → outline_of r.spelling ≢ [] → lookup (outline_of r.spelling) ≡ first_row r.number
unfolding finds
row_found r m some =
    found_if_lem (same (outline_of r.spelling) []) (outline_of r.spelling) (first_row r.number) refl some (every_at finds m all_found)

-- every number below the bound does pass
below_if : (n k : ℕ) (t : Bool) → eqb k n ≡ t → (test : ℕ → Bool) → all_below (suc n) test ≡ true
    → ((k : ℕ) → k < n → test k ≡ true) → k < suc n → test k ≡ true
unfolding all_below
below_if n k true e test all known h = ap test (eqb-true k n e) ∙ (both (test n) (all_below n test) all).0
below_if n k false e test all known h = let other = eqb-false k n e in known k (omega arith)

at_below : (n : ℕ) (test : ℕ → Bool) → all_below n test ≡ true → (k : ℕ) → k < n → test k ≡ true
at_below zero test all k h = absurd (omega arith)
at_below (suc n) test all k h =
    below_if n k (eqb k n) refl test all
    (at_below n test (unfold all_below in (both (test n) (all_below n test) all).1)) h

-- the entry that a text is
module _ (text : List ℕ) where
  most_if : (t : Bool) (n k : ℕ) → k ≤ n → number_if t 0 (suc k) ≤ suc n
  unfolding number_if
  most_if true n k h = omega arith
  most_if false n k h = omega arith

  place_most : (n : ℕ) (entries : List ℕ) → place_in n entries text ≤ n
  unfolding place_in
  place_most zero entries = omega arith
  place_most (suc n) entries = most_if (same (letters_of (take 5 entries)) text) n _ (place_most n (drop 5 entries))

  on_by_five : (entries : List ℕ) (k : ℕ) → entry_at (drop 5 entries) k ≡ entry_at entries (suc k)
  unfolding entry_at
  on_by_five entries k =
      let five : 5 * suc k ≡ 5 + 5 * k = omega arith in
      rw (five, drop-drop (5 * k) 5 entries)

  place_if : (t : Bool) (n : ℕ) (entries : List ℕ) → same (letters_of (take 5 entries)) text ≡ t → (k : ℕ)
      → (k < n → text ≡ entry_at (drop 5 entries) k) → number_if t 0 (suc k) < suc n → text ≡ entry_at entries (number_if t 0 (suc k))
  unfolding number_if
  place_if true n entries e k known h = unfold entry_at in sym (same_true (letters_of (take 5 entries)) text e)
  place_if false n entries e k known h = known (omega arith) ∙ on_by_five entries k

  place_is : (n : ℕ) (entries : List ℕ) → place_in n entries text < n → text ≡ entry_at entries (place_in n entries text)
  unfolding place_in
  place_is zero entries h = absurd (omega arith)
  place_is (suc n) entries h =
      place_if (same (letters_of (take 5 entries)) text) n entries refl (place_in n (drop 5 entries) text) (place_is n (drop 5 entries)) h

-- what is found has a row
sound_if_lem : (t there : Bool) (r : ℕ) (text : List ℕ) → eqb r no_row ≡ t → sound_if t there text ≡ true → r ≢ no_row
    → (there ≡ true) × (first_in table text ≢ no_row)
sound_if_lem true there r text e h some = absurd (some (eqb-true r no_row e))
sound_if_lem false there r text e h some =
    let each = both there (not (eqb (first_in table text) no_row)) h in
    (each.0, eqb-false (first_in table text) no_row (not-true (eqb (first_in table text) no_row) each.1))

HasRow : List ℕ → Type 0
HasRow text = first_in table text ≢ no_row

alone_has : (text : List ℕ) → alone_row (bare_in text) ≢ no_row → HasRow text
unfolding HasRow bare_in
alone_has text some =
    let k = place_in 15 bares text in
    let most = place_most text 15 bares in
    let sound = sound_if_lem _ (ltb k 15) (alone_row k) (entry_at bares k) refl (at_below 16 sound_alone alone_sound k (omega arith)) some in
    rw (place_is text 15 bares (ltb-true k 15 sound.0)) sound.1

single_has : (name a : List ℕ) → single_row (name_in name) (operand_in a) ≢ no_row → HasRow (one_text name a)
unfolding HasRow name_in operand_in
single_has name a some =
    let n = place_in 34 names name in
    let k = place_in 24 operands a in
    let most-n = place_most name 34 names in
    let most-k = place_most a 24 operands in
    let all = at_below 25 (sound_single n) (at_below 35 (λ n. all_below 25 (sound_single n)) single_sound n (omega arith)) k (omega arith) in
    let sound = sound_if_lem _ (ltb n 34 && ltb k 24) (single_row n k) (one_text (entry_at names n) (entry_at operands k)) refl all some in
    let there = both (ltb n 34) (ltb k 24) sound.0 in
    let name_is = place_is name 34 names (ltb-true n 34 there.0) in
    let a_is = place_is a 24 operands (ltb-true k 24 there.1) in
    λ e. sound.1 (ap (first_in table) (ap₂ one_text (sym name_is) (sym a_is)) ∙ e)

double_has : (name a b : List ℕ) → double_row (name_in name) (operand_in a) (operand_in b) ≢ no_row → HasRow (two_text name a b)
unfolding HasRow name_in operand_in
double_has name a b some =
    let n = place_in 34 names name in
    let k = place_in 24 operands a in
    let m = place_in 24 operands b in
    let most-n = place_most name 34 names in
    let most-k = place_most a 24 operands in
    let most-m = place_most b 24 operands in
    let all-n = at_below 35 (λ n. all_below 25 (λ a. all_below 25 (sound_double n a))) double_sound n (omega arith) in
    let all = at_below 25 (sound_double n k) (at_below 25 (λ a. all_below 25 (sound_double n a)) all-n k (omega arith)) m (omega arith) in
    let sound =
    sound_if_lem _ (ltb n 34 && (ltb k 24 && ltb m 24)) (double_row n k m) (two_text (entry_at names n) (entry_at operands k) (entry_at operands m)) refl
    all some in
    let there = both (ltb n 34) (ltb k 24 && ltb m 24) sound.0 in
    let two = both (ltb k 24) (ltb m 24) there.1 in
    let name_is = place_is name 34 names (ltb-true n 34 there.0) in
    let a_is = place_is a 24 operands (ltb-true k 24 two.0) in
    let b-is = place_is b 24 operands (ltb-true m 24 two.1) in
    λ e. sound.1
    (ap₂ (λ (x y : List ℕ). first_in table (two_text x y (entry_at operands m))) (sym name_is) (sym a_is)
    ∙ ap (λ (y : List ℕ). first_in table (two_text name a y)) (sym b-is)
    ∙ e)

-- a text falls apart at its space and its comma
operands_have : (name first second : List ℕ) → stops is_comma second ≡ true → operands_row (name_in name) first second ≢ no_row
    → HasRow (name ++ (space ∷ (first ++ second)))
unfolding operands_row
operands_have name first [] h some = rw (append-nil first) (single_has name first some)
operands_have name first (c ∷ second) h some = rw (eqb-true c 44 h) (double_has name first second some)

named_has : (name rest : List ℕ) → stops is_space rest ≡ true → named_row name rest ≢ no_row → HasRow (name ++ rest)
unfolding named_row
named_has name [] h some = rw (append-nil name) (alone_has name some)
named_has name (c ∷ rest) h some =
    rw (eqb-true c space h, ← rejoin is_comma rest)
    (operands_have name (up_to is_comma rest) (on_from is_comma rest) (on_found is_comma rest) some)

lookup_has : (text : List ℕ) → lookup text ≢ no_row → HasRow text
unfolding lookup
lookup_has text some = rw (rejoin is_space text) at (named_has (up_to is_space text) (on_from is_space text) (on_found is_space text) some)

-- so the code's row is the row of any text
module _ (text : List ℕ) (some : text ≢ []) where
  by_table_lem : HasRow text → lookup text ≡ first_in table text
  unfolding HasRow
  by_table_lem has =
      let f = first_of table text has in
      let some_row : outline_of f.row.spelling ≢ [] = λ e. some (sym f.outlined ∙ e) in
      let looked = row_found f.row f.listed some_row in
      let told = (row_told f.row f.listed some_row).first in
      rw f.outlined at (looked ∙ sym told)

  neither : first_in table text ≡ no_row → (t : Bool) → eqb (lookup text) no_row ≡ t → lookup text ≡ first_in table text
  unfolding HasRow
  neither none true e = eqb-true (lookup text) no_row e ∙ sym none
  neither none false e = absurd (lookup_has text (eqb-false (lookup text) no_row e) none)

  either : (t : Bool) → eqb (first_in table text) no_row ≡ t → lookup text ≡ first_in table text
  unfolding HasRow
  either true e = neither (eqb-true (first_in table text) no_row e) (eqb (lookup text) no_row) refl
  either false e = by_table_lem (eqb-false (first_in table text) no_row e)

nothing_looked : lookup [] ≡ no_row
unfolding number_if text_if same up_to on_from ascii lookups
nothing_looked = refl

pub lookup_is : (text : List ℕ) → lookup text ≡ row_by text
unfolding row_by
lookup_is [] = nothing_looked
lookup_is (c ∷ cs) = either (c ∷ cs) (λ e. let z : ◌≡◌ {A = ℕ} 0 1 = cc in omega arith) (eqb (first_in table (c ∷ cs)) no_row) refl

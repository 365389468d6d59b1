-- How a line falls apart: what stands before a constant has no character that begins one, and what stands behind it begins with one that
-- ends it. So a spelling with a text in the place of its constant falls apart into what stands around it and that text, and has the
-- spelling's outline.
-- Assumes nothing.
use Prim.Native.Nat.{ℕ, ◌<◌}
use mathlib.Core.Bool.{Bool, true, false, not, ◌||◌, ◌&&◌, and-eq-true_iff, true≢false}
use mathlib.Core.List.{List, [], ◌∷◌, ◌++◌, append-nil}
use mathlib.Core.Path.{◌≡◌, refl, sym, ◌∙◌, ap}
use native.Mathlib.Omega.{arith}
use borrow.Author.Tests.{eqb-true, not-true}
use lib.Dec.{eqb}
use lib.ListN.{length}
use Rattle.listing.specs.Forms.{text_if}
use Rattle.spellings.specs.Outline.{begins, ends, up_to, on_from, before_in, constant_in, behind_in, mark, marked, outline_in}
use Rattle.spellings.specs.Exact.{none, is_constant}

pub both : (t u : Bool) → (t && u) ≡ true → (t ≡ true) × (u ≡ true)
both t u = (and-eq-true_iff t u).0

-- where no character of a text passes, a search goes on behind it
module _ (passes : ℕ → Bool) where
  up_past : (xs rest : List ℕ) → none passes xs ≡ true → up_to passes (xs ++ rest) ≡ xs ++ up_to passes rest
  unfolding up_to text_if
  up_past [] rest h = refl
  up_past (c ∷ cs) rest h =
      let each = both (not (passes c)) (none passes cs) h in
      rw (not-true (passes c) each.0, up_past cs rest each.1) refl

  on_past : (xs rest : List ℕ) → none passes xs ≡ true → on_from passes (xs ++ rest) ≡ on_from passes rest
  unfolding on_from text_if
  on_past [] rest h = refl
  on_past (c ∷ cs) rest h =
      let each = both (not (passes c)) (none passes cs) h in
      rw (not-true (passes c) each.0) (on_past cs rest each.1)

  -- a text that is empty or begins with a character that passes
  abbrev pub stops : List ℕ → Bool
  stops [] = true
  stops (c ∷ cs) = passes c

  up_stops : (xs : List ℕ) → stops xs ≡ true → up_to passes xs ≡ []
  unfolding up_to text_if
  up_stops [] h = refl
  up_stops (c ∷ cs) h = rw h

  on_stops : (xs : List ℕ) → stops xs ≡ true → on_from passes xs ≡ xs
  unfolding on_from text_if
  on_stops [] h = refl
  on_stops (c ∷ cs) h = rw h

  -- what is found is such a text, and what stands before it has no such character
  found_if_lem : (t : Bool) (c : ℕ) (cs : List ℕ) → passes c ≡ t → stops (on_from passes cs) ≡ true → stops (text_if t (c ∷ cs) (on_from passes cs)) ≡ true
  unfolding text_if
  found_if_lem true c cs e rest = e
  found_if_lem false c cs e rest = rest

  pub on_found : (xs : List ℕ) → stops (on_from passes xs) ≡ true
  unfolding on_from
  on_found [] = refl
  on_found (c ∷ cs) = found_if_lem (passes c) c cs refl (on_found cs)

  none_if : (t : Bool) (c : ℕ) (cs : List ℕ) → passes c ≡ t → none passes cs ≡ true → none passes (text_if t [] (c ∷ cs)) ≡ true
  unfolding text_if
  none_if true c cs e rest = refl
  none_if false c cs e rest = rw e rest

  up_none : (xs : List ℕ) → none passes (up_to passes xs) ≡ true
  unfolding up_to
  up_none [] = refl
  up_none (c ∷ cs) = none_if (passes c) c (up_to passes cs) refl (up_none cs)

  -- the two parts are the text
  rejoin_if : (t : Bool) (c : ℕ) (cs front back : List ℕ) → front ++ back ≡ cs → text_if t [] (c ∷ front) ++ text_if t (c ∷ cs) back ≡ c ∷ cs
  unfolding text_if
  rejoin_if true c cs front back e = refl
  rejoin_if false c cs front back e = ap (λ (l : List ℕ). c ∷ l) e

  pub rejoin : (xs : List ℕ) → up_to passes xs ++ on_from passes xs ≡ xs
  unfolding up_to on_from
  rejoin [] = refl
  rejoin (c ∷ cs) = rejoin_if (passes c) c cs (up_to passes cs) (on_from passes cs) (rejoin cs)

-- a text without a constant, and what stands behind a constant
abbrev pub free : List ℕ → Bool
free xs = none begins xs

abbrev pub ended : List ℕ → Bool
ended xs = stops ends xs

-- the parts of a line
pub record Apart (line before constant behind : List ℕ) : Type 0 where
  pub before_is : before_in line ≡ before
  pub constant_is : constant_in line ≡ constant
  pub behind_is : behind_in line ≡ behind

starts : (t rest : List ℕ) → is_constant t ≡ true → stops begins (t ++ rest) ≡ true
starts [] rest h = absurd (true≢false (sym h))
starts (c ∷ cs) rest h = (both (begins c) (none ends (c ∷ cs)) h).0

unended : (t : List ℕ) → is_constant t ≡ true → none ends t ≡ true
unended [] h = refl
unended (c ∷ cs) h = (both (begins c) (none ends (c ∷ cs)) h).1

module _ (pre t post : List ℕ) (f : free pre ≡ true) (is : is_constant t ≡ true) (e : ended post ≡ true) where
  from_constant : on_from begins (pre ++ (t ++ post)) ≡ t ++ post
  from_constant = on_past begins pre (t ++ post) f ∙ on_stops begins (t ++ post) (starts t post is)

  pub around_apart : Apart (pre ++ (t ++ post)) pre t post
  unfolding before_in constant_in behind_in
  around_apart =
      record {
        before_is = rw (up_past begins pre (t ++ post) f, up_stops begins (t ++ post) (starts t post is), append-nil);
        constant_is = rw (from_constant, up_past ends t post (unended t is), up_stops ends post e, append-nil);
        behind_is = rw from_constant (on_past ends t post (unended t is) ∙ on_stops ends post e);
      }

pub free_apart : (pre : List ℕ) → free pre ≡ true → Apart pre pre [] []
unfolding before_in constant_in behind_in up_to on_from
free_apart pre f =
    let up = up_past begins pre [] f in
    let on = on_past begins pre [] f in
    record {
      before_is = rw append-nil at up;
      constant_is = rw (rw append-nil at on);
      behind_is = rw (rw append-nil at on);
    }

-- the three parts of a line are the line
pub parts_join : (line : List ℕ) → before_in line ++ (constant_in line ++ behind_in line) ≡ line
unfolding before_in constant_in behind_in
parts_join line = rw (rejoin ends (on_from begins line)) (rejoin begins line)

-- no character both begins a constant and ends one
ends_no_begin : (c : ℕ) (t u : Bool) → eqb c 44 ≡ t → eqb c 93 ≡ u → (t || u) ≡ true → begins c ≡ false
unfolding begins
ends_no_begin c true u p q h = rw (eqb-true c 44 p)
ends_no_begin c false true p q h = rw (eqb-true c 93 q)
ends_no_begin c false false p q h = absurd (true≢false (sym h))

begin_no_end : (c : ℕ) → begins c ≡ true → (t : Bool) → ends c ≡ t → t ≡ false
unfolding ends
begin_no_end c b true e = sym b ∙ ends_no_begin c (eqb c 44) (eqb c 93) refl refl e
begin_no_end c b false e = refl

-- a line without a constant, and one with a constant
pub data Parts (line : List ℕ) : Type 0 where
  Without : free line ≡ true → Parts line
  With : free (before_in line) ≡ true → is_constant (constant_in line) ≡ true → ended (behind_in line) ≡ true → Parts line

like_constant : (c : ℕ) (cs : List ℕ) → begins c ≡ true → is_constant (up_to ends (c ∷ cs)) ≡ true
unfolding up_to text_if
like_constant c cs b =
    let e = begin_no_end c b (ends c) refl in
    rw (e, b, e) (up_none ends cs)

pub parts : (line : List ℕ) → Parts line
unfolding before_in constant_in behind_in
parts line = go (on_from begins line) refl
  where
    go : (rest : List ℕ) → on_from begins line ≡ rest → Parts line
    go [] e =
        let whole : up_to begins line ≡ line = sym (append-nil (up_to begins line)) ∙ ap (λ (l : List ℕ). up_to begins line ++ l) (sym e) ∙ rejoin begins line in
        Without (rw whole at (up_none begins line))
    go (c ∷ cs) e =
        let found : begins c ≡ true = rw e at (on_found begins line) in
        With (up_none begins line) (rw e (like_constant c cs found)) (on_found ends (on_from begins line))

-- the outline of a line falls apart as the line does, with the mark in the place of the constant
free_outline : (line : List ℕ) → free line ≡ true → outline_in line ≡ line
unfolding outline_in marked
free_outline line f =
    let a = free_apart line f in
    rw (a.before_is, a.constant_is, a.behind_is, append-nil)

pub mark_of : (t : List ℕ) → is_constant t ≡ true → marked t ≡ mark ∷ []
unfolding marked
mark_of [] h = absurd (true≢false (sym h))
mark_of (c ∷ cs) h = refl

pub constant_length : (t : List ℕ) → is_constant t ≡ true → 0 < length t
constant_length [] h = absurd (true≢false (sym h))
constant_length (c ∷ cs) h = omega arith

pub mark_is_constant : is_constant (mark ∷ []) ≡ true
unfolding begins ends
mark_is_constant = refl

pub no_mark : (t : List ℕ) → marked t ≡ [] → t ≡ []
unfolding marked
no_mark [] h = refl
no_mark (c ∷ cs) h = let z : ◌≡◌ {A = ℕ} 0 1 = cc in absurd (omega arith)

pub outline_apart : (line : List ℕ) → Parts line → Apart (outline_in line) (before_in line) (marked (constant_in line)) (behind_in line)
unfolding marked
outline_apart line (Without f) =
    let a = free_apart line f in
    rw (free_outline line f, a.constant_is) (record { before_is = refl; constant_is = a.constant_is; behind_is = refl })
outline_apart line (With f is e) = unfold outline_in in rw (mark_of (constant_in line) is) (around_apart (before_in line) (mark ∷ []) (behind_in line) f mark_is_constant e)

-- The lines of a part, one after the other: the first takes one to three bytes from the front, and the others stand behind it.
-- Assumes nothing.
use Prim.Native.Nat.{ℕ, zero, suc, ◌+◌, ◌-◌, ◌≤◌, ◌<◌}
use mathlib.Core.Bool.{Bool, true, false, ◌||◌, true≢false}
use lib.Dec.{ltb}
use mathlib.Core.List.{List, [], ◌∷◌, ◌++◌}
use mathlib.Core.Path.{◌≡◌, refl, sym, ◌∙◌, ap}
use native.Mathlib.Omega.{arith}
use borrow.Author.Tests.{eqb-false, ltb-false}
use lib.ListN.{length, take, drop, length-drop}
use lib.Seq.{length-take-le, take_all, drop-nil, drop-drop}
use Rattle.arith.specs.Width.{sum_of}
use Rattle.arith.specs.Words.{further}
use Rattle.arith.proofs.Laws.{further_below}
use Rattle.insn.specs.Shapes.{shape_of, is_undefined}
use Rattle.insn.proofs.Laws.{length_most}
use Rattle.listing.specs.Lines.{Line, insn_in, size_in, is_data, line_if, line_of, lines_from, joined, line_text}
use Rattle.listing.specs.declared.Edition.{Edition}

-- addresses count on
pub further_none : (a : ℕ) → a < 65536 → further 0 a ≡ a
unfolding further sum_of
further_none a h = omega arith

pub further_more : (m n a : ℕ) → further m (further n a) ≡ further (n + m) a
unfolding further sum_of
further_more m n a = omega arith

pub or_left : (t u : Bool) → (t || u) ≡ false → t ≡ false
or_left true u e = e
or_left false u e = refl

pub or_right : (t u : Bool) → (t || u) ≡ false → u ≡ false
or_right true u e = absurd (true≢false e)
or_right false u e = e

pub whole : (bytes : List ℕ) → is_data bytes ≡ false → size_in bytes ≤ length bytes
unfolding is_data
whole bytes e =
    let cut = or_left (ltb (length bytes) (size_in bytes)) _ (or_right (is_undefined (insn_in bytes)) _ e) in
    ltb-false (length bytes) (size_in bytes) cut

-- one to three bytes, which are the first
pub record Counted (l : Line) (bytes : List ℕ) : Type 0 where
  pub some : 1 ≤ length l.bytes
  pub few : length l.bytes ≤ 3
  pub fits : length l.bytes ≤ length bytes
  pub front : l.bytes ≡ take (length l.bytes) bytes

pub size_some : (bytes : List ℕ) → is_data bytes ≡ false → 1 ≤ size_in bytes
unfolding is_data size_in
size_some bytes e = omega (arith, eqb-false (shape_of (insn_in bytes)).bytes 0 (or_left (is_undefined (insn_in bytes)) _ e))

pub size_few : (bytes : List ℕ) → size_in bytes ≤ 3
unfolding size_in
size_few bytes = length_most (insn_in bytes)

counted_if : (t : Bool) (e : Edition) (a : ℕ) (bytes : List ℕ) → 0 < length bytes → is_data bytes ≡ t → Counted (line_if t e a bytes) bytes
unfolding line_if
counted_if true e a bytes h d =
    let size = length-take-le 1 bytes h in
    record { some = rw size (omega arith); few = rw size (omega arith); fits = rw size h; front = rw size refl }
counted_if false e a bytes h d =
    let size = length-take-le (size_in bytes) bytes (whole bytes d) in
    record { some = rw size (size_some bytes d); few = rw size (size_few bytes); fits = rw size (whole bytes d); front = rw size refl }

pub counted : (e : Edition) (a : ℕ) (bytes : List ℕ) → 0 < length bytes → Counted (line_of e a bytes) bytes
unfolding line_of
counted e a bytes h = counted_if (is_data bytes) e a bytes h refl

-- bytes that belong to the line before are passed over
passed : (e : Edition) (a few : ℕ) (bytes : List ℕ) → a < 65536 → lines_from e a few bytes ≡ lines_from e (further few a) 0 (drop few bytes)
unfolding lines_from
passed e a few [] h = rw (drop-nil few)
passed e a zero (b ∷ bytes) h = rw (further_none a h)
passed e a (suc few) (b ∷ bytes) h =
    let on : further few (further 1 a) ≡ further (suc few) a = further_more few 1 a ∙ ap (λ n. further n a) (omega arith) in
    rw on at (passed e (further 1 a) few bytes (further_below 1 a))

-- the first line, and those behind it
pub line_first : (e : Edition) (a : ℕ) (bytes : List ℕ) → a < 65536 → 0 < length bytes
    → lines_from e a 0 bytes
    ≡ line_of e a bytes ∷ lines_from e (further (length (line_of e a bytes).bytes) a) 0 (drop (length (line_of e a bytes).bytes) bytes)
unfolding lines_from
line_first e a [] h some = absurd (omega arith)
line_first e a (b ∷ bytes) h some = first (length (line_of e a (b ∷ bytes)).bytes) (counted e a (b ∷ bytes) some).some
  where
    first : (k : ℕ) → 1 ≤ k
        → line_of e a (b ∷ bytes) ∷ lines_from e (further 1 a) (k - 1) bytes
        ≡ line_of e a (b ∷ bytes) ∷ lines_from e (further k a) 0 (drop k (b ∷ bytes))
    first zero p = absurd (omega arith)
    first (suc k) p =
        let on : further k (further 1 a) ≡ further (suc k) a = further_more k 1 a ∙ ap (λ n. further n a) (omega arith) in
        let less : suc k - 1 ≡ k = omega arith in
        ap (λ (ls : List Line). line_of e a (b ∷ bytes) ∷ ls) (rw less (rw on at (passed e (further 1 a) k bytes (further_below 1 a))))

-- what is left of a part from a place on, as the code lends it
abbrev pub rest_from : ℕ → List ℕ → List ℕ
rest_from from part = take (length part - from) (drop from part)

pub rest_is : (from : ℕ) (part : List ℕ) → rest_from from part ≡ drop from part
rest_is from part = take_all (length part - from) (drop from part) (omega (arith, length-drop from part))

-- the line at a place of a part, how many bytes it has, and the text of what is left there
abbrev pub line_here : Edition → List ℕ → ℕ → ℕ → Line
line_here e part from a = line_of e a (rest_from from part)

abbrev pub count_here : Edition → List ℕ → ℕ → ℕ → ℕ
count_here e part from a = length (line_here e part from a).bytes

abbrev pub text_left : Edition → List ℕ → ℕ → ℕ → List ℕ
text_left e part from a = joined line_text (lines_from e a 0 (drop from part))

module _ (e : Edition) (part : List ℕ) (from a : ℕ) (address : a < 65536) (here : from < length part) where
  abbrev count : ℕ
  count = count_here e part from a

  pub left_here : 0 < length (rest_from from part)
  left_here = rw (rest_is from part, length-drop from part) (omega arith)

  pub few_here : count ≤ 3
  few_here = (counted e a (rest_from from part) left_here).few

  pub some_here : 1 ≤ count
  some_here = (counted e a (rest_from from part) left_here).some

  pub on_here : from + count ≤ length part
  on_here =
      let fits = (counted e a (rest_from from part) left_here).fits in
      let room : length (rest_from from part) ≡ length part - from = rw (rest_is from part) (length-drop from part) in
      omega arith

  pub text_here : text_left e part from a ≡ line_text (line_here e part from a) ++ text_left e part (from + count) (further count a)
  unfolding joined
  text_here =
      let rest : drop count (rest_from from part) ≡ drop (from + count) part =
      ap (drop count) (rest_is from part) ∙ drop-drop count from part in
      ap (λ (bs : List ℕ). joined line_text (lines_from e a 0 bs)) (sym (rest_is from part))
      ∙ ap (joined line_text) (line_first e a (rest_from from part) address left_here)
      ∙ ap (λ (bs : List ℕ). line_text (line_here e part from a) ++ joined line_text (lines_from e (further count a) 0 bs)) rest

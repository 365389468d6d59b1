-- Texts written one after the other are written as one text.
-- Assumes nothing.
use Prim.Native.Nat.{ℕ, suc, ◌+◌, ◌-◌, ◌<◌, ◌≤◌}
use mathlib.Core.Bool.{Bool, true, false}
use mathlib.Core.List.{List, [], ◌∷◌, ◌++◌}
use mathlib.Core.Path.{◌≡◌, refl, sym, ◌∙◌, ap}
use lib.Dec.{ltb}
use native.Mathlib.Nat.{zero-add}
use native.Mathlib.Numerals.{add-one}
use native.Mathlib.Omega.{arith}
use borrow.Author.Tests.{lt-ltb}
use lib.ListN.{length, get_or, drop, drop_of_length-le, set, length-set}
use lib.Seq.{drop-cons, sets, sets-eq}
use Rattle.listing.specs.Lines.{joined}
use Rattle.listing.specs.Written.{Cursor, cursor, pushed_if, pushed, written, Reaches}

pub written_append : (xs ys : List ℕ) (c : Cursor) → written (xs ++ ys) c ≡ written ys (written xs c)
unfolding written
written_append [] ys c = refl
written_append (x ∷ xs) ys c = written_append xs ys (pushed x c)

-- an output keeps its length
pushed_length : (b : ℕ) (c : Cursor) → length (pushed b c).out ≡ length c.out
unfolding pushed
pushed_length b c = go (ltb c.at (length c.out))
  where
    go : (t : Bool) → length (pushed_if t b c).out ≡ length c.out
    go true = unfold pushed_if in length-set c.out c.at b
    go false = unfold pushed_if in refl

pub written_length : (t : List ℕ) (c : Cursor) → length (written t c).out ≡ length c.out
unfolding written
written_length [] c = refl
written_length (b ∷ t) c = written_length t (pushed b c) ∙ pushed_length b c

pub kept : (t : List ℕ) (c : Cursor) {at : ℕ} {out : List ℕ} → Reaches (written t c) at out → length out ≡ length c.out
kept t c r = rw r.left (written_length t c)

-- what is so of a cursor is so of the one that was reached
reached : {at : ℕ} {out : List ℕ} (P : Cursor → Type 0) (c : Cursor) → Reaches c at out → P (cursor at out) → P c
reached P c r h = rw (r.place, r.left) at h

-- a text, and another behind it
pub then : (t u : List ℕ) (c : Cursor) {at at' : ℕ} {out out' : List ℕ}
    → Reaches (written t c) at out → Reaches (written u (cursor at out)) at' out' → Reaches (written (t ++ u) c) at' out'
then t u c {at' = at'} {out' = out'} first next =
    rw (written_append t u c) (reached (λ (d : Cursor). Reaches (written u d) at' out') (written t c) first next)

-- a byte is a text
pub byte_text : (b : ℕ) (c : Cursor) {at : ℕ} {out : List ℕ} → Reaches (pushed b c) at out → Reaches (written (b ∷ []) c) at out
unfolding written
byte_text b c r = r

-- nothing is written by nothing
pub nothing : (at : ℕ) (out : List ℕ) → Reaches (written [] (cursor at out)) at out
unfolding written
nothing at out = record { place = refl; left = refl }

-- what a match has told of a number is written as that number is
pub told : (text : ℕ → List ℕ) {m k : ℕ} (c : Cursor) {at : ℕ} {out : List ℕ} → m ≡ k → Reaches (written (text k) c) at out
    → Reaches (written (text m) c) at out
told text c e r = rw e r

-- a part of k from n on has k
pub span : (n k : ℕ) → n + k - n ≡ k
span n k = omega arith

-- texts of each of a list: what is left of it, written behind the first of what was left, gives the same
pub each_next : (text : ℕ → List ℕ) (xs : List ℕ) (i : ℕ) (c whole : Cursor) {at : ℕ} {out : List ℕ} → i < length xs
    → Reaches (written (text (get_or xs i 0)) c) at out → written (joined text (drop i xs)) c ≡ whole
    → written (joined text (drop (i + 1) xs)) (cursor at out) ≡ whole
unfolding joined
each_next text xs i c whole h r w =
    rw (r.place, r.left, add-one)
    (rw (drop-cons xs i 0 h, written_append (text (get_or xs i 0)) (joined text (drop (suc i) xs)) c) at w)

-- until nothing is left
pub finished : (text : ℕ → List ℕ) (xs : List ℕ) (i : ℕ) (whole : Cursor) {at : ℕ} {out : List ℕ} → length xs ≤ i
    → written (joined text (drop i xs)) (cursor at out) ≡ whole → Reaches whole at out
unfolding joined written
finished text xs i whole h w =
    let e = rw (drop_of_length-le xs {i = i} h) at w in
    rw (sym e) (record { place = refl; left = refl })

-- where there is room for all of it, a text is written whole, from its place on

pushed_here : (b at : ℕ) (out : List ℕ) → at < length out → pushed b (cursor at out) ≡ cursor (at + 1) (set out at b)
unfolding pushed pushed_if
pushed_here b at out h = rw (lt-ltb at (length out) h)

pub written_whole : (t : List ℕ) (at : ℕ) (out : List ℕ) → at + length t ≤ length out
    → written t (cursor at out) ≡ cursor (at + length t) (sets out at t)
unfolding written
written_whole [] at out h = let e : at ≡ at + 0 = omega arith in λ i. cursor (e i) out
written_whole (b ∷ t) at out h =
    let here : at < length out = omega arith in
    let kept = length-set out at b in
    let rest = written_whole t (at + 1) (set out at b) (omega (arith, kept)) in
    let on : at + 1 + length t ≡ at + suc (length t) = omega arith in
    let next : at + 1 ≡ suc at = omega arith in
    rw (pushed_here b at out here) (rest ∙ (λ i. cursor (on i) (sets (set out at b) (next i) t)))

-- at the front
pub written_front : (t out : List ℕ) {at : ℕ} {left : List ℕ} → length t ≤ length out → Reaches (written t (cursor 0 out)) at left
    → (at ≡ length t) × (left ≡ t ++ drop (length t) out)
written_front t out h r =
    let none = zero-add (length t) in
    let fits : 0 + length t ≤ length out = omega arith in
    let whole = written_whole t 0 out fits in
    let place = r.place ∙ ap (λ (c : Cursor). c.at) whole in
    let text = r.left ∙ ap (λ (c : Cursor). c.out) whole ∙ sets-eq t out 0 fits in
    (place ∙ none, rw none at text)

-- What a writer writes, one text after the other, is one text.
-- Assumes nothing.
use Prim.Native.Nat.{ℕ, zero, suc, ◌+◌, ◌≤◌, ◌<◌}
use mathlib.Core.List.{List, [], ◌∷◌, ◌++◌, map}
use mathlib.Core.Path.{◌≡◌, refl, sym, ◌∙◌, ap, subst}
use native.Mathlib.Nat.{le_of_suc-le-suc}
use native.Mathlib.Omega.{arith}
use lib.ListN.{length, get_or, take, drop, length-append}
use Rattle.std.proofs.Common.{append_assoc, append-nil}
use Rattle.std.proofs.lemmas.List.{take_more, map-append}
use Rattle.listing.specs.Lines.{joined}
use Rattle.listing.specs.Written.{Cursor, cursor, cursor_of, written, Reaches, Writes}
use Rattle.listing.specs.declared.writing.Writer.{Writer}
use Rattle.listing.proofs.Texts.{then, written_front}

-- a text, and another behind it
pub after : {t u : List ℕ} {a b c : Writer} → Writes t a b → Writes u b c → Writes (t ++ u) a c
after {t = t} {u = u} {a = a} first next =
    record { reaches = then t u (cursor_of a) first.reaches next.reaches; same = next.same ∙ first.same; lies = next.lies ∙ first.lies }

-- nothing is written by nothing
pub unwritten : (w : Writer) → Writes [] w w
unfolding written
unwritten w = record { reaches = record { place = refl; left = refl }; same = refl; lies = refl }

-- what a match has told of a number is written as that number is
pub told : (text : ℕ → List ℕ) {m k : ℕ} {a b : Writer} → m ≡ k → Writes (text k) a b → Writes (text m) a b
told text e w = rw e w

-- the texts of each of a list, and of one more
pub joined_more : {A : Type 0} (text : A → List ℕ) (xs : List A) (x : A) → joined text (xs ++ x ∷ []) ≡ joined text xs ++ text x
unfolding joined
joined_more text [] x = append-nil (text x)
joined_more text (y ∷ ys) x = ap (λ (t : List ℕ). text y ++ t) (joined_more text ys x) ∙ sym (append_assoc (text y) (joined text ys) (text x))

pub each_more : {A : Type 0} (text : A → List ℕ) (xs : List A) (x : A) {a b c : Writer}
    → Writes (joined text xs) a b → Writes (text x) b c → Writes (joined text (xs ++ x ∷ [])) a c
each_more text xs x before one = rw (joined_more text xs x) (after before one)

-- the same of what a list is seen as
module _ {A B : Type 0} (text : B → List ℕ) (f : A → B) (xs : List A) (x : A) where
  pub each_mapped : {a b c : Writer} → Writes (joined text (map f xs)) a b → Writes (text (f x)) b c → Writes (joined text (map f (xs ++ x ∷ []))) a c
  each_mapped before one = rw (map-append f xs (x ∷ [])) (each_more text (map f xs) (f x) before one)

  pub length_mapped : length (joined text (map f (xs ++ x ∷ []))) ≡ length (joined text (map f xs)) + length (text (f x))
  length_mapped = rw (map-append f xs (x ∷ []), joined_more text (map f xs) (f x)) (length-append (joined text (map f xs)) (text (f x)))

-- a turn of a loop over a list of numbers
pub each_next : (text : ℕ → List ℕ) (xs : List ℕ) (i : ℕ) {a b c : Writer} → i < length xs
    → Writes (joined text (take i xs)) a b → Writes (text (get_or xs i 0)) b c → Writes (joined text (take (i + 1) xs)) a c
each_next text xs i here before one = rw (take_more xs i 0 here) (each_more text (take i xs) (get_or xs i 0) before one)

-- at the front of an output that has room for it, a text is written whole
pub fresh : (t out : List ℕ) {a b : Writer} → cursor_of a ≡ cursor 0 out → Writes t a b → length t ≤ length out
    → (b.at ≡ length t) × (b.out.now ≡ t ++ drop (length t) out)
fresh t out {b = b} starts w fits =
    written_front t out fits (subst (λ (c : Cursor). Reaches (written t c) b.at b.out.now) starts w.reaches)

-- some of the first texts and the next are no longer than all of them
pub front_length : {A : Type 0} (text : A → List ℕ) (xs : List A) (i : ℕ) (d : A) → i < length xs
    → length (joined text (take i xs)) + length (text (get_or xs i d)) ≤ length (joined text xs)
unfolding joined
front_length text [] i d here = absurd (omega arith)
front_length text (x ∷ xs) zero d here = omega (arith, length-append (text x) (joined text xs))
front_length text (x ∷ xs) (suc i) d here =
    let rest = front_length text xs i d (le_of_suc-le-suc here) in
    omega (arith, rest, length-append (text x) (joined text xs), length-append (text x) (joined text (take i xs)))

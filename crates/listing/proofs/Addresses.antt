-- Each line stands at the first address and as many bytes further as the lines before it have, modulo 65,536.
-- Assumes nothing.
use Prim.Native.Nat.{ℕ, zero, suc, ◌+◌, ◌-◌, ◌<◌}
use mathlib.Core.Bool.{Bool, true, false}
use mathlib.Core.List.{List, [], ◌∷◌}
use mathlib.Core.Path.{◌≡◌, refl, sym, ◌∙◌, ap}
use native.Mathlib.Nat.{le_of_suc-le-suc}
use native.Mathlib.Omega.{arith}
use lib.ListN.{length, get_or, take, length-append}
use Rattle.arith.specs.Words.{further}
use Rattle.arith.proofs.Laws.{further_below}
use Rattle.listing.specs.Lines.{Line, is_data, line_if, line_of, lines_from, lines_of, joined}
use Rattle.listing.specs.declared.Edition.{Edition}
use Rattle.listing.proofs.Order.{further_none, further_more, counted}
use Rattle.listing.proofs.Whole.{bytes_of}

stands_if : (t : Bool) (e : Edition) (a : ℕ) (bytes : List ℕ) → (line_if t e a bytes).address ≡ a
unfolding line_if
stands_if true e a bytes = refl
stands_if false e a bytes = refl

pub stands : (e : Edition) (a : ℕ) (bytes : List ℕ) → (line_of e a bytes).address ≡ a
unfolding line_of
stands e a bytes = stands_if (is_data bytes) e a bytes

-- one further and then some is the whole way further
onward : (a n m : ℕ) → n ≡ 1 + m → further m (further 1 a) ≡ further n a
onward a n m e = rw e (further_more m 1 a)

address_from : (e : Edition) (a few : ℕ) (bytes : List ℕ) → a < 65536 → (i : ℕ) (d : Line) → i < length (lines_from e a few bytes)
    → (get_or (lines_from e a few bytes) i d).address ≡ further (few + length (bytes_of (take i (lines_from e a few bytes)))) a
unfolding lines_from joined
address_from e a few [] h i d here = absurd (omega arith)
address_from e a (suc few) (b ∷ bytes) h i d here =
    address_from e (further 1 a) few bytes (further_below 1 a) i d here ∙ onward a _ _ (omega arith)
address_from e a zero (b ∷ bytes) h zero d here = stands e a (b ∷ bytes) ∙ sym (further_none a h)
address_from e a zero (b ∷ bytes) h (suc i) d here =
    let line = line_of e a (b ∷ bytes) in
    let some = (counted e a (b ∷ bytes) (omega arith)).some in
    let rest = lines_from e (further 1 a) (length line.bytes - 1) bytes in
    let all = length-append line.bytes (bytes_of (take i rest)) in
    address_from e (further 1 a) (length line.bytes - 1) bytes (further_below 1 a) i d (le_of_suc-le-suc here)
    ∙ onward a _ _ (omega (arith, all, some))

pub line_address : (e : Edition) (first : ℕ) (part : List ℕ) → first < 65536 → (i : ℕ) (d : Line) → i < length (lines_of e first part)
    → (get_or (lines_of e first part) i d).address ≡ further (length (bytes_of (take i (lines_of e first part)))) first
unfolding lines_of
line_address e first part h i d here =
    address_from e first 0 part h i d here ∙ ap (λ n. further n first) (omega arith)

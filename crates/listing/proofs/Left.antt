-- What is left of a part: the line that comes next, one to three bytes from the front, and the lines behind it.
-- Assumes nothing.
use Prim.Native.Nat.{ℕ, ◌+◌, ◌≤◌, ◌<◌}
use mathlib.Core.List.{List, [], ◌∷◌, ◌++◌}
use mathlib.Core.Path.{◌≡◌, refl, ap}
use native.Mathlib.Omega.{arith}
use lib.ListN.{length, length-append}
use Rattle.arith.specs.Words.{further}
use Rattle.listing.specs.Lines.{Line, line_of, lines_from, joined, line_text}
use Rattle.listing.specs.Left.{line_in}
use Rattle.listing.specs.declared.Edition.{Edition}
use Rattle.listing.specs.declared.Reading.{Reading}
use Rattle.listing.proofs.Order.{counted, line_first, rest_from, rest_is}

pub none_left : (e : Edition) (a : ℕ) (bytes : List ℕ) → length bytes ≡ 0 → lines_from e a 0 bytes ≡ []
unfolding lines_from
none_left e a [] h = refl
none_left e a (b ∷ bytes) h = absurd (omega arith)

module _ (e : Edition) (a : ℕ) (bytes : List ℕ) (some : 0 < length bytes) (r : Reading) (read : line_in r ≡ line_of e a bytes) where
  same_length : length r.bytes.now ≡ length (line_of e a bytes).bytes
  same_length = ap (λ (l : Line). length l.bytes) read

  pub fits_here : length r.bytes.now ≤ length bytes
  fits_here = omega (arith, same_length, (counted e a bytes some).fits)

  pub few_here : length r.bytes.now < 65536
  few_here = omega (arith, same_length, (counted e a bytes some).few)

  pub one_less : a < 65536
      → lines_from e a 0 bytes ≡ line_in r ∷ lines_from e (further (length r.bytes.now) a) 0 (rest_from (length r.bytes.now) bytes)
  one_less h = rw (rest_is (length r.bytes.now) bytes, same_length, read) (line_first e a bytes h some)

pub some_left : (e : Edition) (a : ℕ) (bytes : List ℕ) → 0 < length bytes → lines_from e a 0 bytes ≡ [] → ⊥
unfolding lines_from
some_left e a [] h none = absurd (omega arith)
some_left e a (b ∷ bytes) h none = absurd (cc)

pub at_end : (lines : List Line) → lines ≡ [] → length (joined line_text lines) ≡ 0
unfolding joined
at_end lines none = rw none refl

-- of the lines that are left, the first and the others
module _ {all others : List Line} {l : Line} (first : all ≡ l ∷ others) where
  pub fewer : length others < length all
  fewer = omega (arith, ap length first)

  pub text_on : joined line_text all ≡ line_text l ++ joined line_text others
  unfolding joined
  text_on = rw first refl

  pub length_on : length (joined line_text all) ≡ length (line_text l) + length (joined line_text others)
  length_on = rw text_on (length-append (line_text l) (joined line_text others))

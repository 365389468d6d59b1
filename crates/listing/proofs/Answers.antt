-- When a listing is refused and when it is done, and what it leaves: 11 exactly where the edition number is neither 1 nor 2, else 10
-- exactly where the output is too short for the whole text.
-- Assumes nothing.
use Prim.Native.Nat.{ℕ, ◌*◌, ◌≤◌, ◌<◌}
use mathlib.Core.Bool.{true, false, ◌||◌}
use mathlib.Core.List.{List, ◌++◌}
use mathlib.Core.Path.{◌≡◌}
use native.Mathlib.Omega.{arith}
use borrow.Author.Tests.{le-ltb, lt-ltb}
use lib.Dec.{eqb}
use lib.ListN.{length, drop}
use Rattle.arith.specs.Refusals.{order}
use Rattle.digits.proofs.Places.{ByteList}
use Rattle.listing.specs.Lines.{listing_of, most_listed}
use Rattle.listing.specs.Answer.{Answer, edition_of, room_refusals, list_refusals, list_unless, list_into, list_by, list_of}
use Rattle.listing.proofs.Room.{listing_most}

-- what a refused listing answers and leaves, and what one that is done
abbrev pub refused_by : ℕ → List ℕ → Answer
refused_by n out = record { listed = record { code = n; length = 0 }; out = out }

abbrev pub done_with : List ℕ → List ℕ → Answer
done_with text out = record { listed = record { code = 0; length = length text }; out = text ++ drop (length text) out }

-- a text into an output
module _ (text out : List ℕ) where
  pub into_short : length out < length text → list_into text out ≡ refused_by 10 out
  unfolding list_into list_unless room_refusals order
  into_short h = rw (lt-ltb (length out) (length text) h)

  pub into_room : length text ≤ length out → list_into text out ≡ done_with text out
  unfolding list_into list_unless room_refusals order
  into_room h = rw (le-ltb (length out) (length text) h)

module _ (edition first : ℕ) (part out : List ℕ) where
  abbrev text : List ℕ
  text = listing_of (edition_of edition) first part

  -- 11 comes first, whatever the part and the output
  pub no_such_edition : (eqb edition 1 || eqb edition 2) ≡ false → list_of edition first part out ≡ refused_by 11 out
  unfolding list_of list_by list_unless list_refusals room_refusals order
  no_such_edition k = rw k

  module _ (known : (eqb edition 1 || eqb edition 2) ≡ true) where
    pub by_room : list_of edition first part out ≡ list_into text out
    unfolding list_of list_by list_into list_unless list_refusals order
    by_room = rw known

    pub refused : length out < length text → list_of edition first part out ≡ refused_by 10 out
    refused h = rw by_room (into_short text out h)

    pub done : length text ≤ length out → list_of edition first part out ≡ done_with text out
    done h = rw by_room (into_room text out h)

    -- room of 19 characters for each byte is always enough
    pub enough : ByteList part → most_listed * length part ≤ length out → (list_of edition first part out).listed.code ≡ 0
    enough p h =
        let fits : length text ≤ length out = omega (arith, listing_most (edition_of edition) first part p) in rw (done fits)

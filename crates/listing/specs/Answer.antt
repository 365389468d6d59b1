-- What the listing answers: a code and the length written, and what it leaves in the output. Document 02, M-101 and M-102: 11 for
-- another edition number than 1 and 2, then 10 where the output is too short; everything then stays as it is.
-- Assumes nothing.
use Rattle.std.specs.Prelude.{ℕ, Bool, true, false, ◌||◌, not, List, [], ◌∷◌, ◌++◌, ◌≡◌, Result, Ok, Err, eqb, ltb, length, drop}
use Rattle.arith.specs.Refusals.{Refusal, ◌when◌, code_of, unless_refused}
use Rattle.listing.specs.Lines.{listing_of}
use Rattle.listing.specs.declared.Edition.{Edition}
use Rattle.listing.specs.declared.Edition.TheVariants.{Old, New}
use Rattle.arith.specs.Numbers.{number_of}
use Rattle.arith.specs.declared.Refusal as arith
use Rattle.arith.specs.declared.Refusal.TheVariants as refusal

-- what is answered: a code, and the length of the text that was written
pub record Listed : Type 0 where
  pub code : ℕ
  pub length : ℕ

-- what an answer of the code tells
unfoldable pub told_list : Result ℕ arith.Refusal → Listed
told_list (Ok n) = record { code = 0; length = n }
told_list (Err r) = record { code = number_of r; length = 0 }

-- an answer, and the output with it
pub record Answer : Type 0 where
  pub listed : Listed
  pub out : List ℕ

pub record Lists (a : Answer) (listed : Listed) (out : List ℕ) : Type 0 where
  pub answers : listed ≡ a.listed
  pub leaves : out ≡ a.out

-- the edition of a number: 1 is the old one and 2 the new one; no other has one, and is refused
unfoldable pub edition_if : Bool → Edition
edition_if true = Old
edition_if false = New

unfoldable pub edition_of : ℕ → Edition
edition_of number = edition_if (eqb number 1)

unfoldable pub numbered_if : Bool → ℕ → Result Edition arith.Refusal
numbered_if true number = Ok (edition_of number)
numbered_if false number = Err refusal.Edition

unfoldable pub numbered : ℕ → Result Edition arith.Refusal
numbered number = numbered_if (eqb number 1 || eqb number 2) number

-- the refusals, in their order
unfoldable pub room_refusals : List ℕ → List ℕ → List Refusal
room_refusals text out = 10 when ltb (length out) (length text) ∷ []

unfoldable pub list_refusals : ℕ → List ℕ → List ℕ → List Refusal
list_refusals edition text out = 11 when not (eqb edition 1 || eqb edition 2) ∷ room_refusals text out

-- the text at the front, and what was behind it
unfoldable pub list_unless : List Refusal → List ℕ → List ℕ → Answer
list_unless refusals text out =
    unless_refused (code_of refusals) (λ _. record { listed = record { code = 0; length = length text }; out = text ++ drop (length text) out })
    (λ n. record { listed = record { code = n; length = 0 }; out = out })

-- into an output, of which 10 alone is asked; and by an edition's number
unfoldable pub list_into : List ℕ → List ℕ → Answer
list_into text out = list_unless (room_refusals text out) text out

unfoldable pub list_by : ℕ → List ℕ → List ℕ → Answer
list_by edition text out = list_unless (list_refusals edition text out) text out

unfoldable pub list_of : ℕ → ℕ → List ℕ → List ℕ → Answer
list_of edition first part out = list_by edition (listing_of (edition_of edition) first part) out

-- The wording of a refusal number: that of document 01, "Refusal numbers", under "Given exactly when"; from 10 on that of the
-- requests in document 02.
-- Assumes nothing.
use Rattle.std.specs.Prelude.{ℕ, Bool, true, false, List, [], ◌∷◌, ◌++◌, leb, length, drop, get_or}
use Rattle.digits.specs.Ascii.{ascii}
use Rattle.machine.specs.Answers.{With}

-- from 0 on
unfoldable pub wordings : List (List ℕ)
wordings =
    ascii "done"
    ∷ ascii "memory length is not 65,536"
    ∷ ascii "low four bits of F are not 0"
    ∷ ascii "mode is Stopped when a step is due"
    ∷ ascii "the step would run an undefined opcode"
    ∷ ascii "budget above 1,048,576"
    ∷ ascii "head, image or output slice of wrong length"
    ∷ ascii "version byte is not 1"
    ∷ ascii "a block length is not 14, or not 65,536"
    ∷ ascii "IME code above 2, or mode code above 3"
    ∷ ascii "output too short"
    ∷ ascii "edition number is neither 1 nor 2"
    ∷ ascii "a line of no such form"
    ∷ ascii "nesting deeper than 16"
    ∷ ascii "number or value out of range"
    ∷ []

-- a number that the table does not have has no wording
unfoldable pub wording_of : ℕ → List ℕ
wording_of number = get_or wordings number []

-- a wording goes to the front of a slice that has room for all of it, and nothing goes to a shorter one
unfoldable pub put_if : Bool → List ℕ → List ℕ → List ℕ
put_if true told out = told ++ drop (length told) out
put_if false told out = out

-- the answer is how many bytes the wording has
unfoldable pub tell_of : List ℕ → List ℕ → With ℕ
tell_of told out = record { out = length told; mem = put_if (leb (length told) (length out)) told out }

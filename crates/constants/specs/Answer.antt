-- What is answered of a text: that it is no constant, that its parentheses are nested deeper than 16, that a number or the value is out
-- of range, or its value. Document 02, M-103, in the order of its refusals.
-- Assumes nothing.
use Rattle.std.specs.Prelude.{ℕ, suc, Bool, true, false, ◌&&◌, not, List, ℤ, pos, negsuc, neg_ℤ, Result, Ok, Err}
use Rattle.std.specs.Int.Signed.{le_z}
use Rattle.constants.specs.Constant.{value_of, nests, small}
use Rattle.constants.specs.Reading.{Read, NoConstant, Formed, read_of}
use Rattle.arith.specs.declared.Refusal.{Refusal}
use Rattle.arith.specs.declared.Refusal.TheVariants.{Form, Nesting, Range}

-- what a text is: no constant; one whose parentheses are nested too deep; one with a number or a value out of range; or one whose value
-- is so far above 0 or below it
pub data Found : Type 0 where
  NoForm : Found
  Deep : Found
  Large : Found
  Above : ℕ → Found
  Below : ℕ → Found

-- the most parentheses that are open at once
abbrev pub deepest : ℕ
deepest = 16

-- the range of n16, which has that of every other operand in it
unfoldable pub in_range : ℤ → Bool
in_range v = le_z (negsuc 32767) v && le_z v (pos 65535)

unfoldable pub found_if : Bool → Found → Found → Found
found_if true f other = f
found_if false f other = other

-- a value by its sign: from 0 up, or as far below 0 as is said
unfoldable pub signed : ℤ → Found
signed (pos n) = Above n
signed (negsuc n) = Below (suc n)

unfoldable pub found_in : Read → Found
found_in NoConstant = NoForm
found_in (Formed c) =
    found_if (not (nests c deepest)) Deep (found_if (not (small c && in_range (value_of c))) Large (signed (value_of c)))

unfoldable pub found_of : List ℕ → Found
found_of text = found_in (read_of text)

-- the code's answer: the value, or the refusal
unfoldable pub answer_in : Found → Result ℤ Refusal
answer_in NoForm = Err Form
answer_in Deep = Err Nesting
answer_in Large = Err Range
answer_in (Above n) = Ok (pos n)
answer_in (Below n) = Ok (neg_ℤ (pos n))

unfoldable pub answer_of : List ℕ → Result ℤ Refusal
answer_of text = answer_in (found_of text)

-- The number of each refusal. Document 01, "Refusal numbers"; document 02, M-101 to M-103, for 10 to 14.
-- Assumes nothing.
use Rattle.std.specs.Prelude.{ℕ, Result, Ok, Err}
use Rattle.arith.specs.declared.Refusal.{Refusal}
use Rattle.arith.specs.declared.Refusal.TheVariants.{MemoryLength, LowFlags, Stopped, Undefined, Budget, Length, Version, BlockLength, Codes, Room, Edition, Form, Nesting, Range}

abbrev pub number_of : Refusal → ℕ
number_of MemoryLength = 1
number_of LowFlags = 2
number_of Stopped = 3
number_of Undefined = 4
number_of Budget = 5
number_of Length = 6
number_of Version = 7
number_of BlockLength = 8
number_of Codes = 9
number_of Room = 10
number_of Edition = 11
number_of Form = 12
number_of Nesting = 13
number_of Range = 14

-- the number of an answer: 0 is done
abbrev pub code_in : {A : Type 0} → Result A Refusal → ℕ
code_in (Ok x) = 0
code_in (Err r) = number_of r

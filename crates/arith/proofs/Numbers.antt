-- The numbers of the refusals: none is 0, which is done, and no two are the same; so a number determines the answer.
-- Assumes nothing.
use Rattle.std.proofs.Common.{◌≡◌, ◌≢◌, ℕ, refl, ap, ◌-◌, [], ◌∷◌, get_or}
use Rattle.arith.specs.Numbers.{number_of}
use Rattle.arith.specs.declared.Refusal.{Refusal}
use Rattle.arith.specs.declared.Refusal.TheVariants.{MemoryLength, LowFlags, Stopped, Undefined, Budget, Length, Version, BlockLength, Codes, Room, Edition, Form, Nesting, Range}

-- the refusal of a number
abbrev pub refusal_of : ℕ → Refusal
refusal_of n =
    get_or (MemoryLength ∷ LowFlags ∷ Stopped ∷ Undefined ∷ Budget ∷ Length ∷ Version ∷ BlockLength ∷ Codes ∷ Room ∷ Edition ∷ Form ∷ Nesting ∷ Range ∷ [])
    (n - 1) Range

pub number_back : (r : Refusal) → refusal_of (number_of r) ≡ r
number_back MemoryLength = refl
number_back LowFlags = refl
number_back Stopped = refl
number_back Undefined = refl
number_back Budget = refl
number_back Length = refl
number_back Version = refl
number_back BlockLength = refl
number_back Codes = refl
number_back Room = refl
number_back Edition = refl
number_back Form = refl
number_back Nesting = refl
number_back Range = refl

pub number_once : (r s : Refusal) → number_of r ≡ number_of s → r ≡ s
number_once r s e =
    let f = number_back r in
    let g = number_back s in
    let h : refusal_of (number_of r) ≡ refusal_of (number_of s) = ap refusal_of e in
    cc

pub number_some : (r : Refusal) → number_of r ≢ 0
number_some MemoryLength e = absurd (cc)
number_some LowFlags e = absurd (cc)
number_some Stopped e = absurd (cc)
number_some Undefined e = absurd (cc)
number_some Budget e = absurd (cc)
number_some Length e = absurd (cc)
number_some Version e = absurd (cc)
number_some BlockLength e = absurd (cc)
number_some Codes e = absurd (cc)
number_some Room e = absurd (cc)
number_some Edition e = absurd (cc)
number_some Form e = absurd (cc)
number_some Nesting e = absurd (cc)
number_some Range e = absurd (cc)

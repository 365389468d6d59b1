-- What a match on a slot tells where the slot is none of those it names.
-- Assumes nothing.
use Prim.Native.Nat.{ℕ}
use mathlib.Core.Bool.{true}
use mathlib.Core.List.{List}
use mathlib.Core.Logic.{◌≢◌}
use mathlib.Core.Path.{◌≡◌, refl}
use Rattle.constants.specs.Answer.{found_of}
use Rattle.spellings.specs.declared.Slot.{Slot}
use Rattle.spellings.specs.declared.Slot.TheVariants.{Bare, N8, N16, High, E8, Target, U3, Vec}
use Rattle.assembler.specs.Ranges.{number_in, reached}
use Rattle.assembler.specs.Lines.{standing}

-- JR's alone is counted from elsewhere
pub number_itself : (next w : ℕ) (s : Slot) → s ≢ Target → w ≡ number_in next s w
unfolding number_in
number_itself next w Bare t = refl
number_itself next w N8 t = refl
number_itself next w N16 t = refl
number_itself next w High t = refl
number_itself next w E8 t = refl
number_itself next w Target t = absurd (t refl)
number_itself next w U3 t = refl
number_itself next w Vec t = refl

-- LDH, JR and RST alone do not reach everything
pub reached_any : (n : ℕ) (s : Slot) → s ≢ High → s ≢ Target → s ≢ Vec → true ≡ reached s n
unfolding reached
reached_any n Bare h t v = refl
reached_any n N8 h t v = refl
reached_any n N16 h t v = refl
reached_any n High h t v = absurd (h refl)
reached_any n E8 h t v = refl
reached_any n Target h t v = absurd (t refl)
reached_any n U3 h t v = refl
reached_any n Vec h t v = absurd (v refl)

-- a constant stands wherever there is a slot
pub stands : (t : List ℕ) (s : Slot) → s ≢ Bare → found_of t ≡ standing s t
unfolding standing
stands t Bare b = absurd (b refl)
stands t N8 b = refl
stands t N16 b = refl
stands t High b = refl
stands t E8 b = refl
stands t Target b = refl
stands t U3 b = refl
stands t Vec b = refl

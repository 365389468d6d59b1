-- `is_bare` is true of three refusals, and of no other.
use Rattle.std.proofs.Common.{◌≡◌, ◌≢◌, refl, sym, ⊎_elim}
use mathlib.Core.Bool.{false}
use Rattle.arith.specs.Numbers.{number_of}
use Rattle.arith.specs.declared.Refusal.{Refusal}
use Rattle.arith.specs.declared.Refusal.TheVariants.{MemoryLength, LowFlags, Stopped, Undefined, Budget, Length, Version, BlockLength, Codes, Room, Edition, Form, Nesting, Range}
use Rattle.text.specs.Answer.{is_bare}
use Rattle.text.proofs.answer.is_bare.Goals as goal

others : (r : Refusal) → r ≢ MemoryLength → r ≢ LowFlags → r ≢ Budget → is_bare (number_of r) ≡ false
unfolding is_bare
others MemoryLength p q s = absurd (p refl)
others LowFlags p q s = absurd (q refl)
others Stopped p q s = refl
others Undefined p q s = refl
others Budget p q s = absurd (s refl)
others Length p q s = refl
others Version p q s = refl
others BlockLength p q s = refl
others Codes p q s = refl
others Room p q s = refl
others Edition p q s = refl
others Form p q s = refl
others Nesting p q s = refl
others Range p q s = refl

pub returns-in-MemoryLength : goal.returns-in-MemoryLength
unfolding is_bare
returns-in-MemoryLength c = ⊎_elim (λ e. rw e) (λ f. ⊎_elim (λ e. rw e) (λ e. rw e) f) c.in-MemoryLength.is

pub returns-in_default : goal.returns-in_default
returns-in_default c = sym (others _ c.in_default.not-MemoryLength c.in_default.not-LowFlags c.in_default.not-Budget)

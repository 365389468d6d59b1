-- Each public promise determines its answer: any two answers that meet it for the same arguments are one. The theorems speak of
-- `Post`, the claim that is read off a function's own `ensures`, so that a promise that says less does not have its theorem.
-- Assumes nothing.
use Rattle.std.proofs.Common.{◌≡◌, sym, ◌∙◌, Bool}
use Rattle.arith.specs.declared.Flag.TheVariants.{Z, C}
use Rattle.arith.proofs.bytes.operate.Reads as operate
use Rattle.arith.proofs.bytes.increase.Reads as increase
use Rattle.arith.proofs.bytes.decrease.Reads as decrease
use Rattle.arith.proofs.bytes.bit.Reads as bit
use Rattle.arith.proofs.bytes.reset.Reads as reset
use Rattle.arith.proofs.bytes.set.Reads as set
use Rattle.arith.proofs.bytes.test.Reads as test
use Rattle.arith.proofs.decimal.adjust.Reads as adjust
use Rattle.arith.proofs.flags.pack.Reads as pack
use Rattle.arith.proofs.Flag.is_set.Reads as is-set
use Rattle.arith.proofs.refused.U8FromRefusal.from.Reads as number
use Rattle.arith.proofs.rotates.rotate.Reads as rotate
use Rattle.arith.proofs.rotates.rotate_a.Reads as rotate-a
use Rattle.arith.proofs.words.word.Reads as word
use Rattle.arith.proofs.words.high.Reads as high
use Rattle.arith.proofs.words.low.Reads as low
use Rattle.arith.proofs.words.further.Reads as further
use Rattle.arith.proofs.words.back.Reads as back
use Rattle.arith.proofs.words.offset.Reads as offset
use Rattle.arith.proofs.words.add_hl.Reads as add-hl
use Rattle.arith.proofs.words.add_sp.Reads as add-sp

-- two that are the same as a third are one: the law that each theorem rests on
pub same : {A : Type 0} {x y v : A} → x ≡ v → y ≡ v → x ≡ y
same p q = p ∙ sym q

-- a promise about the arguments, the answer and the parameters at exit that determines the answer
abbrev pub OneAnswer : {K : Type 0} {A R E : K → Type 0} → ((κs : K) → A κs → R κs → E κs → Type 0) → Type 0
OneAnswer {K} {A} {R} {E} Post = (κs : K) (a : A κs) (x y : R κs) (e f : E κs) → Post κs a x e → Post κs a y f → x ≡ y

-- and one that also determines what is left in a lent slice, which `left` finds among the parameters at exit
abbrev pub OneOutcome : {K S : Type 0} {A R E : K → Type 0} → ((κs : K) → A κs → R κs → E κs → Type 0) → ((κs : K) → E κs → S) → Type 0
OneOutcome {K} {S} {A} {R} {E} Post left =
    (κs : K) (a : A κs) (x y : R κs) (e f : E κs) → Post κs a x e → Post κs a y f → (x ≡ y) × (left κs e ≡ left κs f)

pub operate_unique : OneAnswer operate.Post
operate_unique _ _ _ _ _ _ = same

pub increase_unique : OneAnswer increase.Post
increase_unique _ _ _ _ _ _ = same

pub decrease_unique : OneAnswer decrease.Post
decrease_unique _ _ _ _ _ _ = same

pub bit_unique : OneAnswer bit.Post
bit_unique _ _ _ _ _ _ = same

pub reset_unique : OneAnswer reset.Post
reset_unique _ _ _ _ _ _ = same

pub set_unique : OneAnswer set.Post
set_unique _ _ _ _ _ _ = same

pub test_unique : OneAnswer test.Post
test_unique _ _ _ _ _ _ = same

pub adjust_unique : OneAnswer adjust.Post
adjust_unique _ _ _ _ _ _ = same

pub pack_unique : OneAnswer pack.Post
pack_unique _ _ _ _ _ _ = same

pub is_set_unique : OneAnswer is-set.Post
is_set_unique _ _ _ _ _ _ = same

-- the same at the two flags that conditions look at: its first argument is the flag
pub zero_unique : (κs : _) (a : _) (x y : Bool) (e f : _) → is-set.Post κs (Z, a) x e → is-set.Post κs (Z, a) y f → x ≡ y
zero_unique κs a = is_set_unique κs (Z, a)

pub carry_unique : (κs : _) (a : _) (x y : Bool) (e f : _) → is-set.Post κs (C, a) x e → is-set.Post κs (C, a) y f → x ≡ y
carry_unique κs a = is_set_unique κs (C, a)

pub number_unique : OneAnswer number.Post
number_unique _ _ _ _ _ _ = same

pub rotate_unique : OneAnswer rotate.Post
rotate_unique _ _ _ _ _ _ = same

pub rotate_a_unique : OneAnswer rotate-a.Post
rotate_a_unique _ _ _ _ _ _ = same

pub word_unique : OneAnswer word.Post
word_unique _ _ _ _ _ _ = same

pub high_unique : OneAnswer high.Post
high_unique _ _ _ _ _ _ = same

pub low_unique : OneAnswer low.Post
low_unique _ _ _ _ _ _ = same

pub further_unique : OneAnswer further.Post
further_unique _ _ _ _ _ _ = same

pub back_unique : OneAnswer back.Post
back_unique _ _ _ _ _ _ = same

pub offset_unique : OneAnswer offset.Post
offset_unique _ _ _ _ _ _ = same

pub add_hl_unique : OneAnswer add-hl.Post
add_hl_unique _ _ _ _ _ _ = same

pub add_sp_unique : OneAnswer add-sp.Post
add_sp_unique _ _ _ _ _ _ = same

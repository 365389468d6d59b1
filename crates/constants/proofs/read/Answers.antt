-- `read` answers by the form, and where that is right by the sum of the whole.
use Prim.Native.Nat.{ℕ, ◌<◌, ◌^◌}
use borrow.Author.Tests.{eqb-true, not-false}
use mathlib.Core.Bool.{Bool, true, false, not}
use mathlib.Core.List.{List, [], ◌∷◌}
use mathlib.Core.Path.{◌≡◌, refl, sym, ap, ◌∙◌}
use mir.Syntax.{w128}
use native.Mathlib.Omega.{arith}
use lib.Dec.{eqb}
use lib.IntN.{ℤ, pos, negsuc}
use lib.ListN.{length}
use Rattle.std.specs.Prelude.{Ok, Err}
use Rattle.std.proofs.Common.{rules, SFits}
use Rattle.std.proofs.lemmas.Int.{to_z-of_z}
use Rattle.std.proofs.lemmas.Result.{err_from_is_err_and}
use Rattle.arith.specs.declared.Refusal.{Refusal}
use Rattle.arith.specs.declared.Refusal.TheVariants.{Form, Nesting, Range}
use Rattle.constants.specs.Constant.{Constant, value_of, nests, small}
use Rattle.constants.specs.Reading.{Has, state_if, step, followed, closed, finished, Read, NoConstant, Formed, read_from, read_of}
use Rattle.constants.specs.Answer.{deepest, in_range, Deep, Large, found_if, signed, found_in, found_of, answer_in, answer_of}
use Rattle.constants.specs.Forms.{form_if, form_in}
use Rattle.constants.specs.Sums.{sum_if, sum_in, goes_on, Opens, Summed, Sums}
use Rattle.constants.proofs.Worth.{stuck, no_constant}
use Rattle.constants.proofs.read.Goals as goal

-- what the form says of what is read
nesting : (t : Bool) (e : Refusal) (v : ℤ) (s : Bool) → form_if t (Ok tt) (Err Nesting) ≡ Err e
    → Err e ≡ answer_in (found_if (not t) Deep (found_if (not s) Large (signed v)))
unfolding form_if found_if answer_in
nesting true e v s f = cc
nesting false e v s f = let same : e ≡ Nesting = cc in ap Err same

refused : (r : Read) (e : Refusal) → form_in r ≡ Err e → Err e ≡ answer_in (found_in r)
unfolding form_in found_in answer_in
refused NoConstant e f = let same : e ≡ Form = cc in ap Err same
refused (Formed x) e f = nesting (nests x deepest) e (value_of x) _ f

shallow : (t : Bool) → form_if t (Ok tt) (Err Nesting) ≡ Ok tt → t ≡ true
unfolding form_if
shallow true f = refl
shallow false f = cc

right_form : (r : Read) → form_in r ≡ Ok tt → (x : Constant) × (r ≡ Formed x) × (nests x deepest ≡ true)
unfolding form_in
right_form NoConstant e = cc
right_form (Formed x) e = (x, refl, shallow (nests x deepest) e)

opens : (text : List ℕ) → form_in (read_of text) ≡ Ok tt → length text < 2 ^ 64 → Opens text 16
unfolding read_of
opens text e h =
    let right = right_form (read_of text) e in
    record { pile = []; whole = right.0; reads = right.1; fits = right.2; room = refl; short = h }

-- a number is too large
too_large : (text : List ℕ) → form_in (read_of text) ≡ Ok tt
    → ((x : Constant) → read_of text ≡ Formed x → small x ≡ false) → Err Range ≡ answer_of text
unfolding found_of answer_of found_in found_if answer_in
too_large text e large =
    let right = right_form (read_of text) e in
    rw (right.1, right.2, large right.0 right.1)

-- the sum of the whole is the whole
all_read : (l : List ℕ) (x y : Constant) → goes_on l ≡ false → read_from (Has [] y) l ≡ Formed x → read_from (Has [] y) l ≡ Formed y
unfolding goes_on read_from finished step followed closed state_if
all_read [] x y g e = refl
all_read (c ∷ cs) x y g e = absurd (no_constant (sym (stuck cs) ∙ rw (eqb-true c 41 (not-false (eqb c 41) g)) at e))

signed_answer : (v : ℤ) → answer_in (signed v) ≡ Ok v
unfolding signed answer_in
signed_answer (pos n) = refl
signed_answer (negsuc n) = refl

ranged : (t : Bool) (v : ℤ) → sum_if t v ≡ answer_in (found_if (not t) Large (signed v))
unfolding sum_if found_if
ranged true v = sym (signed_answer v)
ranged false v = unfold answer_in in refl

whole : (text rest : List ℕ) (v : ℤ) → form_in (read_of text) ≡ Ok tt → Summed text v rest → sum_in v ≡ answer_of text
unfolding read_of found_of answer_of found_in found_if sum_in
whole text rest v e sums =
    let right = right_form (read_of text) e in
    let read : read_of text ≡ Formed sums.sum =
    sums.reads [] ∙ all_read rest right.0 sums.sum sums.ends (sym (sums.reads []) ∙ right.1) in
    let one : Formed sums.sum ≡ Formed right.0 = sym read ∙ right.1 in
    let same : sums.sum ≡ right.0 = cc in
    let fits : nests sums.sum deepest ≡ true = rw same right.2 in
    rw (read, fits, sums.small, sums.is) (ranged (in_range (value_of sums.sum)) (value_of sums.sum))

pub returns-in_err-form : goal.returns-in_err-form
unfolding answer_of found_of
returns-in_err-form c =
    let p = err_from_is_err_and c.from_residual.result c.from_residual.ensures.1 in
    rw (p.1, p.2) (refused (read_of c.args.text.now) _ (sym c.in_err-form.ensures))

pub sum-requires : goal.sum-requires
sum-requires c = opens _ (sym c.in_ok-form.ensures) (omega arith)

pub returns-in_err-whole : goal.returns-in_err-whole
unfolding Sums read_of
returns-in_err-whole c =
    let p = err_from_is_err_and c.from_residual-in_err-whole.result c.from_residual-in_err-whole.ensures.1 in
    rw (p.1, p.2, c.in_err-whole.ensures.0) (too_large _ (sym c.in_ok-form.ensures) (c.in_err-whole.ensures.1 []))

pub returns : goal.returns
unfolding Sums
returns c =
    let fits : SFits w128 c.in_ok-whole.whole.value = search rules in
    let is = rw (to_z-of_z w128 c.in_ok-whole.whole.value fits) at c.in_range.ensures in
    is ∙ whole _ _ _ (sym c.in_ok-form.ensures) c.in_ok-whole.ensures

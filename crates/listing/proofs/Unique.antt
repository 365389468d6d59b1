-- The public promises determine the answers and what is left in the output: as in the crate arith, of `Post`.
-- Assumes nothing.
use Prim.Native.Nat.{ℕ}
use mathlib.Core.List.{List}
use mathlib.Core.Path.{◌≡◌, refl, sym, ap}
use Rattle.std.proofs.Common.{Result, Ok, Err}
use Rattle.arith.proofs.Numbers.{number_once, number_some}
use Rattle.arith.proofs.Unique.{same, OneAnswer, OneOutcome}
use Rattle.arith.specs.declared.Refusal.{Refusal}
use Rattle.listing.specs.Answer.{Listed, told_list}
use Rattle.listing.specs.declared.writing.Writer.{Writer}
use Rattle.listing.specs.Written.{Writes}
use Rattle.listing.proofs.EditionTryFromU32.try_from.Reads as edition
use Rattle.listing.proofs.list.Reads as list
use Rattle.listing.proofs.writing.Writer.push.Reads as push

-- what an answer tells determines it
pub told_once : (x y : Result ℕ Refusal) → told_list x ≡ told_list y → x ≡ y
unfolding told_list
told_once (Ok n) (Ok m) e = ap Ok (ap (λ (l : Listed). l.length) e)
told_once (Ok n) (Err r) e = absurd (number_some r (sym (ap (λ (l : Listed). l.code) e)))
told_once (Err r) (Ok m) e = absurd (number_some r (ap (λ (l : Listed). l.code) e))
told_once (Err r) (Err s) e = ap Err (number_once r s (ap (λ (l : Listed). l.code) e))

pub list_unique : OneOutcome list.Post (λ κs e. e.1.1.1.0.now)
list_unique _ _ x y _ _ p q = (told_once x y (same p.answers q.answers), same p.leaves q.leaves)

pub edition_unique : OneAnswer edition.Post
edition_unique _ _ _ _ _ _ = same

-- a writer that has written a text is one writer
pub written_once : {text : List ℕ} {old new new' : Writer} → Writes text old new → Writes text old new' → new ≡ new'
written_once p q i =
    record {
      out =
          record {
            ref_ptr = same p.lies q.lies i;
            ghost_name = same p.same q.same i;
            now = same p.reaches.left q.reaches.left i;
          };
      at = same p.reaches.place q.reaches.place i;
    }

pub push_unique : OneOutcome push.Post (λ κs e. e.0.now)
push_unique _ _ _ _ _ _ p q = (refl, written_once p q)

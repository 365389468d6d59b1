-- `list` refuses an edition that there is not, then a text for which there is no room, and else writes it.
use Prim.Native.Nat.{ℕ, ◌≤◌, ◌<◌}
use borrow.Author.Rules.{rules}
use borrow.Author.Tests.{leb-true, leb-false}
use mathlib.Core.Bool.{Bool, true, false, ◌||◌}
use mathlib.Core.List.{List, ◌++◌}
use mathlib.Core.Path.{◌≡◌, refl, ◌∙◌, ap}
use lib.Dec.{eqb, leb}
use lib.ListN.{length, drop}
use Rattle.std.proofs.Common.{Result, Ok, Err}
use Rattle.std.specs.Result.{IsErrAnd}
use Rattle.arith.specs.Numbers.{number_of}
use Rattle.arith.specs.declared.Refusal.{Refusal}
use Rattle.arith.specs.declared.Refusal.TheVariants as refusal
use Rattle.listing.specs.Answer.{Lists, told_list, edition_of, numbered_if, numbered, list_of}
use Rattle.listing.specs.Forms.{measured_if, measured_of}
use Rattle.listing.specs.Lines.{lines_of, listing_of}
use Rattle.listing.specs.Written.{cursor, cursor_of, Writes}
use Rattle.listing.specs.declared.Edition.{Edition}
use Rattle.listing.specs.declared.writing.Writer.{Writer}
use Rattle.listing.proofs.Answers.{no_such_edition, refused, done}
use Rattle.listing.proofs.Writers.{fresh}
use Rattle.listing.proofs.list.Goals as goal

-- what a number's edition says of the number
no_edition : (number : ℕ) (r : Refusal) (t : Bool) → (eqb number 1 || eqb number 2) ≡ t → Err r ≡ numbered_if t number
    → ((eqb number 1 || eqb number 2) ≡ false) × (number_of r ≡ 11)
unfolding numbered_if
no_edition number r true known e = absurd (cc)
no_edition number r false known e = let is : r ≡ refusal.Edition = cc in (known, ap number_of is)

some_edition : (number : ℕ) (edition : Edition) (t : Bool) → (eqb number 1 || eqb number 2) ≡ t → Ok edition ≡ numbered_if t number
    → ((eqb number 1 || eqb number 2) ≡ true) × (edition ≡ edition_of number)
unfolding numbered_if
some_edition number edition true known e = (known, cc)
some_edition number edition false known e = absurd (cc)

-- and what the measuring says of the room
fits : (size room n : ℕ) (t : Bool) → leb size room ≡ t → Ok n ≡ measured_if t size → (size ≤ room) × (n ≡ size)
unfolding measured_if
fits size room n true test e = (leb-true size room test, cc)
fits size room n false test e = absurd (cc)

too_long : (size room : ℕ) (r : Refusal) (t : Bool) → leb size room ≡ t → Err r ≡ measured_if t size → (room < size) × (number_of r ≡ 10)
unfolding measured_if
too_long size room r true test e = absurd (cc)
too_long size room r false test e = let is : r ≡ refusal.Room = cc in (leb-false size room test, ap number_of is)

-- a refusal that is handed on
handed : (x : Result ℕ Refusal) (r : Refusal) → IsErrAnd x (λ s. s ≡ r) → x ≡ Err r
handed (Ok n) r h = absurd h
handed (Err s) r h = ap Err h

module _ (number first : ℕ) (part out : List ℕ) where
  refuses : (x : Result ℕ Refusal) (r : Refusal) → Err r ≡ numbered number → IsErrAnd x (λ s. s ≡ r)
      → Lists (list_of number first part out) (told_list x) out
  unfolding numbered told_list
  refuses x r e h =
      let none = no_edition number r (eqb number 1 || eqb number 2) refl e in
      rw (handed x r h, none.1, no_such_edition number first part out none.0) (record { answers = refl; leaves = refl })

  module _ (edition : Edition) (there : Ok edition ≡ numbered number) where
    known : ((eqb number 1 || eqb number 2) ≡ true) × (edition ≡ edition_of number)
    unfolding numbered
    known = some_edition number edition (eqb number 1 || eqb number 2) refl there

    abbrev text : List ℕ
    text = listing_of edition first part

    no_room : (x : Result ℕ Refusal) (r : Refusal) → Err r ≡ measured_of (length text) (length out) → IsErrAnd x (λ s. s ≡ r)
        → Lists (list_of number first part out) (told_list x) out
    unfolding measured_of told_list
    no_room x r e h =
        let short = too_long (length text) (length out) r (leb (length text) (length out)) refl e in
        rw (handed x r h, short.1, refused number first part out known.0 (rw known.1 at short.0)) (record { answers = refl; leaves = refl })

    lists : (n : ℕ) (a b : Writer) {left : List ℕ} → Ok n ≡ measured_of (length text) (length out)
        → cursor_of a ≡ cursor 0 out → Writes text a b → left ≡ b.out.now
        → Lists (list_of number first part out) (told_list (Ok n)) left
    unfolding measured_of told_list
    lists n a b {left} e starts w is =
        let room = fits (length text) (length out) n (leb (length text) (length out)) refl e in
        let whole = (fresh text out starts w room.0).1 in
        let length_is = room.1 ∙ ap (λ (e : Edition). length (listing_of e first part)) known.1 in
        let text_is = ap (λ (e : Edition). listing_of e first part ++ drop (length (listing_of e first part)) out) known.1 in
        rw (done number first part out known.0 (rw known.1 at room.0))
        (record { answers = ap (λ k. record { code = 0; length = k }) length_is; leaves = is ∙ whole ∙ text_is })

pub returns-in_err-edition : goal.returns-in_err-edition
returns-in_err-edition c = refuses _ _ _ _ _ _ c.in_err-edition.ensures c.from_residual.ensures.1

pub returns-in_err-length : goal.returns-in_err-length
unfolding listing_of lines_of
returns-in_err-length c =
    no_room _ _ _ _ c.in_ok-edition.edition c.in_ok-edition.ensures _ _ (rw c.new-lines.ensures at c.in_err-length.ensures) c.from_residual-in_err-length.ensures.1

pub returns : goal.returns
unfolding listing_of lines_of
returns c =
    lists _ _ _ _ c.in_ok-edition.edition c.in_ok-edition.ensures _ _ _ (rw c.new-lines.ensures at c.in_ok-length.ensures)
    refl (rw c.new-lines.ensures at c.write.ensures) (search rules)

-- `first` finds the form, and reads data or the instruction.
use Prim.Native.Nat.{ℕ, ◌≤◌, ◌<◌}
use borrow.Author.Rules.{rules}
use mathlib.Core.Bool.{Bool, true, false}
use mathlib.Core.List.{List}
use mathlib.Core.Path.{◌≡◌, sym, ◌∙◌}
use lib.ListN.{length, take}
use lib.Seq.{length-take-le}
use Rattle.arith.specs.Words.{word_of, further}
use Rattle.digits.specs.Digits.{byte_in}
use Rattle.listing.specs.Lines.{Line, is_data, line_of, line_text}
use Rattle.listing.specs.Forms.{form_in, line_by, data_form, fields_if, fields_of, form_at, form_size, is_data_by, Forms}
use Rattle.listing.specs.declared.Edition.{Edition}
use Rattle.listing.proofs.Taken.{brief, data_is, data_by, form_below, insn_fits, insn_by}
use Rattle.listing.proofs.lines.Lines.first.Goals as goal

module _ (e : Edition) (a : ℕ) (bytes : List ℕ) (some : 0 < length bytes) (op n form size : ℕ) (t : Bool) (op_byte : op < 256) (n_byte : n < 256) (first : op ≡ byte_in 0 bytes) (second : n ≡ byte_in 1 bytes) (found : form ≡ form_at op n) (long : size ≡ form_size form) (test : t ≡ is_data_by form size (length bytes) op n) where
  one : byte_in 0 bytes < 256
  one = rw first at op_byte

  other : byte_in 1 bytes < 256
  other = rw second at n_byte

  told : t ≡ is_data bytes
  told = (rw (long, found, first, second) at test) ∙ data_is e a bytes some one other

  below : form < 50
  below = rw (found, first, second) (form_below e a bytes some one other)

  fits : t ≡ false → size ≤ length bytes
  fits d = rw (long, found, first, second) (insn_fits e a bytes some one other (sym told ∙ d))

  short_as : (l : Line) → l ≡ line_of e a bytes → length (line_text l) ≤ 26
  short_as l same = rw same (brief e a bytes some one other)

  module _ (table : List ℕ) (forms : Forms table) (text : List ℕ) where
    as_data : text ≡ form_in data_form table → t ≡ true
        → line_by a (take 1 bytes) text (record { edition = e; op = 0; n8 = op; n16 = 0; next = 0 })
        ≡ line_of e a bytes
    unfolding fields_if fields_of
    as_data there d = rw (there, first) (sym (data_by e a bytes some one other (sym told ∙ d) table forms))

    as_insn : (fields w next : ℕ) → text ≡ form_in form table → fields ≡ fields_of op n → w ≡ word_of (byte_in 2 bytes) n
        → next ≡ further size a → t ≡ false
        → line_by a (take size bytes) text (record { edition = e; op = fields; n8 = n; n16 = w; next = next })
        ≡ line_of e a bytes
    as_insn fields w next there bits word behind d =
        rw (there, bits, word, behind, long, found, first, second)
        (sym (insn_by e a bytes some one other (sym told ∙ d) table forms))

pub returns-then-is_data : goal.returns-then-is_data
returns-then-is_data c =
    as_data _ _ _ c.requires _ _ _ _ _ (search rules) (search rules) c.byte_at-op.ensures c.byte_at-n8.ensures c.form-form.ensures
    c.size-size.ensures (rw c.from.ensures at c.is_data.ensures) _ c.args.self.now.table.spells _ c.form.ensures c.if-is_data.true

pub invariant_of-result : goal.invariant_of-result
invariant_of-result c =
    let same = as_data c.args.self.now.edition c.args.self.now.address _ c.requires _ _ _ _ _ (search rules) (search rules) c.byte_at-op.ensures c.byte_at-n8.ensures c.form-form.ensures
    c.size-size.ensures (rw c.from.ensures at c.is_data.ensures) _ c.args.self.now.table.spells _ c.form.ensures c.if-is_data.true in
    record {
      short =
          short_as _ _ _ c.requires _ _ _ _ _ (search rules) (search rules) c.byte_at-op.ensures c.byte_at-n8.ensures c.form-form.ensures
          c.size-size.ensures (rw c.from.ensures at c.is_data.ensures) _ same;
    }

pub slice_bounds-result-end-2 : goal.slice_bounds-result-end-2
slice_bounds-result-end-2 c =
    sym (length-take-le _ c.args.self.now.rest.now (rw c.from-2.ensures (fits c.args.self.now.edition c.args.self.now.address _ c.requires _ _ _ _ _ (search rules) (search rules)
    c.byte_at-op.ensures c.byte_at-n8.ensures c.form-form.ensures c.size-size.ensures (rw c.from.ensures at c.is_data.ensures) c.if-is_data.false)))

pub form-requires-2 : goal.form-requires-2
form-requires-2 c =
    below c.args.self.now.edition c.args.self.now.address _ c.requires _ _ _ _ _ (search rules) (search rules) c.byte_at-op.ensures c.byte_at-n8.ensures c.form-form.ensures
    c.size-size.ensures (rw c.from.ensures at c.is_data.ensures)

pub returns : goal.returns
returns c =
    rw c.from-2.ensures
    (as_insn _ _ _ c.requires _ _ _ _ _ (search rules) (search rules) c.byte_at-op.ensures c.byte_at-n8.ensures c.form-form.ensures
    c.size-size.ensures (rw c.from.ensures at c.is_data.ensures) _ c.args.self.now.table.spells _ _ _ _ c.form-2.ensures c.fields.ensures
    (rw c.byte_at.ensures at c.word.ensures) (rw c.from-3.ensures at c.further.ensures) c.if-is_data.false)

pub invariant_of-result-2 : goal.invariant_of-result-2
invariant_of-result-2 c =
    let same = as_insn c.args.self.now.edition c.args.self.now.address _ c.requires _ _ _ _ _ (search rules) (search rules) c.byte_at-op.ensures c.byte_at-n8.ensures c.form-form.ensures
    c.size-size.ensures (rw c.from.ensures at c.is_data.ensures) _ c.args.self.now.table.spells _ _ _ _ c.form-2.ensures c.fields.ensures
    (rw c.byte_at.ensures at c.word.ensures) (rw c.from-3.ensures at c.further.ensures) c.if-is_data.false in
    record {
      short =
          rw c.from-2.ensures
          (short_as _ _ _ c.requires _ _ _ _ _ (search rules) (search rules) c.byte_at-op.ensures c.byte_at-n8.ensures c.form-form.ensures
          c.size-size.ensures (rw c.from.ensures at c.is_data.ensures) _ same);
    }

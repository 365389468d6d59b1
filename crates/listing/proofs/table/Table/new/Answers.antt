-- The table spells every instruction in both editions: antt computes it, opcode by opcode, whatever follows.
use Prim.Native.Nat.{ℕ, ◌<◌}
use mathlib.Core.Bool.{false}
use mathlib.Core.List.{List, []}
use mathlib.Core.Path.{◌≡◌, refl}
use Rattle.digits.specs.Ascii.{ascii}
use Rattle.digits.specs.Digits.{digits_of}
use Rattle.digits.specs.Numerals.{glyph_of, hex_text, width_if, width_of, decimal_text}
use Rattle.insn.specs.Grid.{grid, decode_of}
use Rattle.insn.specs.Shapes.{shapes, is_undefined}
use Rattle.listing.specs.Spelling.{spellings, spelling_in, spelling_text}
use Rattle.listing.specs.Lines.{joined}
use Rattle.listing.specs.Forms.{text_if, marks_text, form_in, operands, forms, form_at}
use Rattle.listing.specs.declared.Edition.{Edition}
use Rattle.listing.specs.declared.Edition.TheVariants.{Old, New}
use Rattle.listing.proofs.Opcodes.{each_opcode}
use Rattle.listing.proofs.table.Table.new.Goals as goal

-- what the table and the definition spell of an opcode that is defined
abbrev by_table : List ℕ → Edition → ℕ → ℕ → ℕ → ℕ → List ℕ
by_table table e next op n w = text_if (is_undefined (decode_of op n w)) [] (marks_text (operands e op n w next) (form_in (form_at op n) table))

abbrev by_paper : Edition → ℕ → ℕ → ℕ → ℕ → List ℕ
by_paper e next op n w = text_if (is_undefined (decode_of op n w)) [] (spelling_text next (spelling_in e op n w))

spelled : (table : List ℕ) (e : Edition) → ((next op n w : ℕ) → op < 256 → n < 256 → by_table table e next op n w ≡ by_paper e next op n w)
    → (op n w next : ℕ) → op < 256 → n < 256 → is_undefined (decode_of op n w) ≡ false
    → marks_text (operands e op n w next) (form_in (form_at op n) table) ≡ spelling_text next (spelling_in e op n w)
unfolding text_if
spelled table e same op n w next h hn d = rw d at (same next op n w h hn)

pub invariant_of-result : goal.invariant_of-result
unfolding spellings grid shapes ascii digits_of glyph_of hex_text width_if width_of decimal_text joined forms
invariant_of-result c =
    record {
      spells =
          record {
            size = refl;
            spell = elim [
              | Old ↦ spelled _ Old (λ next. each_opcode (by_table _ Old next) (by_paper Old next) [] (λ n w. refl) (λ w. refl))
              | New ↦ spelled _ New (λ next. each_opcode (by_table _ New next) (by_paper New next) [] (λ n w. refl) (λ w. refl))
            ];
            data_byte = λ e b next. refl;
          };
    }

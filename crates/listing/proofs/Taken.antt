-- What an opcode's form says is what the line says: where it is data, how many bytes it has, and what spells it.
-- Assumes nothing.
use Prim.Native.Nat.{ℕ, ◌≤◌, ◌<◌}
use mathlib.Core.Bool.{Bool, true, false, ◌||◌}
use mathlib.Core.List.{List}
use mathlib.Core.Path.{◌≡◌, refl, sym}
use native.Mathlib.Omega.{arith}
use borrow.Author.Tests.{ltb-true}
use lib.Dec.{eqb, ltb}
use lib.ListN.{length, take}
use Rattle.arith.specs.Words.{word_of, further}
use Rattle.digits.specs.Digits.{byte_in}
use Rattle.insn.specs.Grid.{grid, decode_of}
use Rattle.insn.specs.Shapes.{shapes, shape_of, is_undefined}
use Rattle.listing.specs.Spelling.{spelling_text}
use Rattle.listing.specs.Lines.{insn_in, spelled_in, size_in, is_data, line_if, line_of, line_text}
use Rattle.listing.specs.declared.Edition.{Edition}
use Rattle.listing.specs.declared.Operands.{Operands}
use Rattle.listing.specs.Forms.{marks_text, form_in, operands, forms, data_form, form_at, form_size, Forms, is_data_by, Reads}
use Rattle.listing.proofs.Opcodes.{each_opcode}
use Rattle.listing.proofs.Order.{or_left, whole}
use Rattle.listing.proofs.Short.{line_short}

-- an opcode's form: one of the table, that of data exactly where the opcode is undefined, and else of as many bytes

opcode_below : (op n w : ℕ) → op < 256 → n < 256 → ltb (form_at op n) 50 ≡ true
unfolding forms
opcode_below = each_opcode (λ op n w. ltb (form_at op n) 50) (λ op n w. true) true (λ n w. refl) (λ w. refl)

opcode_data : (op n w : ℕ) → op < 256 → n < 256 → eqb (form_at op n) data_form ≡ is_undefined (decode_of op n w)
unfolding forms grid shapes
opcode_data =
    each_opcode (λ op n w. eqb (form_at op n) data_form) (λ op n w. is_undefined (decode_of op n w)) true (λ n w. refl) (λ w. refl)

abbrev size_unless : Bool → ℕ → ℕ
size_unless true n = 1
size_unless false n = n

opcode_size : (op n w : ℕ) → op < 256 → n < 256
    → form_size (form_at op n) ≡ size_unless (is_undefined (decode_of op n w)) (shape_of (decode_of op n w)).bytes
unfolding forms grid shapes
opcode_size =
    each_opcode (λ op n w. form_size (form_at op n)) (λ op n w. size_unless (is_undefined (decode_of op n w)) (shape_of (decode_of op n w)).bytes) 1
    (λ n w. refl) (λ w. refl)

-- where a byte is undefined its size is of no weight
same_test : (u z : Bool) (size left : ℕ) → (u || (ltb left (size_unless u size) || z)) ≡ (u || (ltb left size || z))
same_test true z size left = refl
same_test false z size left = refl

module _ (e : Edition) (a : ℕ) (bytes : List ℕ) (some : 0 < length bytes) (first : byte_in 0 bytes < 256) (second : byte_in 1 bytes < 256) where
  abbrev form : ℕ
  form = form_at (byte_in 0 bytes) (byte_in 1 bytes)

  abbrev word : ℕ
  word = word_of (byte_in 2 bytes) (byte_in 1 bytes)

  pub form_below : form < 50
  form_below = ltb-true form 50 (opcode_below (byte_in 0 bytes) (byte_in 1 bytes) word first second)

  form_data : eqb form data_form ≡ is_undefined (insn_in bytes)
  unfolding insn_in
  form_data = opcode_data (byte_in 0 bytes) (byte_in 1 bytes) word first second

  form_size_lem : form_size form ≡ size_unless (is_undefined (insn_in bytes)) (size_in bytes)
  unfolding size_in insn_in
  form_size_lem = opcode_size (byte_in 0 bytes) (byte_in 1 bytes) word first second

  pub data_is : is_data_by form (form_size form) (length bytes) (byte_in 0 bytes) (byte_in 1 bytes) ≡ is_data bytes
  unfolding is_data_by is_data
  data_is = rw (form_data, form_size_lem) (same_test (is_undefined (insn_in bytes)) _ (size_in bytes) (length bytes))

  pub brief : length (line_text (line_of e a bytes)) ≤ 26
  brief = (line_short e a bytes some first second).0

  -- what spells it by a table of forms
  abbrev spelled_by : ℕ → Operands → List ℕ → List ℕ
  spelled_by form o table = marks_text o (form_in form table)

  pub data_by : is_data bytes ≡ true → (table : List ℕ) → Forms table
      → line_of e a bytes ≡ record { address = a; bytes = take 1 bytes; spelling = spelled_by data_form (operands e 0 (byte_in 0 bytes) 0 0) table }
  unfolding line_of line_if
  data_by d table spelled = rw (d, spelled.data_byte e (byte_in 0 bytes) (further 1 a))

  defined : is_data bytes ≡ false → is_undefined (insn_in bytes) ≡ false
  unfolding is_data
  defined d = or_left (is_undefined (insn_in bytes)) _ d

  size_is : is_data bytes ≡ false → form_size form ≡ size_in bytes
  size_is d = rw (defined d) at form_size_lem

  pub insn_fits : is_data bytes ≡ false → form_size form ≤ length bytes
  insn_fits d = rw (size_is d) (whole bytes d)

  insn_spells : is_data bytes ≡ false → (table : List ℕ) → Forms table
      → spelling_text (further (size_in bytes) a) (spelled_in e bytes)
      ≡ spelled_by form (operands e (byte_in 0 bytes) (byte_in 1 bytes) word (further (size_in bytes) a)) table
  unfolding spelled_in insn_in
  insn_spells d table spelled =
      sym (spelled.spell e (byte_in 0 bytes) (byte_in 1 bytes) word (further (size_in bytes) a) first second (defined d))

  pub insn_by : is_data bytes ≡ false → (table : List ℕ) → Forms table
      → line_of e a bytes
      ≡ record {
        address = a;
        bytes = take (form_size form) bytes;
        spelling = spelled_by form (operands e (byte_in 0 bytes) (byte_in 1 bytes) word (further (form_size form) a)) table;
      }
  unfolding line_of line_if
  insn_by d table spelled = rw (d, size_is d, insn_spells d table spelled)

  -- the same of what is read by number
  pub data_reads : is_data bytes ≡ true
      → Reads (line_of e a bytes) a bytes (record { form = data_form; bytes = 1; operands = operands e 0 (byte_in 0 bytes) 0 0 })
  unfolding line_of line_if
  data_reads d =
      rw d
      (record {
        form = omega arith;
        fits = some;
        stands = refl;
        takes = refl;
        spells = λ table spelled. sym (spelled.data_byte e (byte_in 0 bytes) (further 1 a));
        short = rw d at brief;
      })

  pub insn_reads : is_data bytes ≡ false
      → Reads (line_of e a bytes) a bytes
      (record {
        form = form;
        bytes = form_size form;
        operands = operands e (byte_in 0 bytes) (byte_in 1 bytes) word (further (form_size form) a);
      })
  unfolding line_of line_if
  insn_reads d =
      rw (d, size_is d)
      (record {
        form = form_below;
        fits = whole bytes d;
        stands = refl;
        takes = refl;
        spells = insn_spells d;
        short = rw d at brief;
      })

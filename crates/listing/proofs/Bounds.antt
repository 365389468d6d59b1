-- How long a line is: at most 26 characters, and at most 19 for each of its bytes.
-- Assumes nothing.
use Prim.Native.Nat.{ℕ, ◌+◌, ◌*◌, ◌≤◌, ◌<◌}
use mathlib.Core.Bool.{Bool, true, false, ◌||◌}
use mathlib.Core.List.{List, [], ◌∷◌}
use mathlib.Core.Path.{◌≡◌, refl}
use native.Mathlib.Nat.{le_refl}
use native.Mathlib.Omega.{arith}
use borrow.Author.Tests.{leb-true}
use lib.Dec.{leb, ltb}
use lib.ListN.{length, length-append}
use Rattle.digits.specs.Ascii.{ascii}
use Rattle.digits.specs.Digits.{digits_of}
use Rattle.digits.specs.Numerals.{glyph_of, hex_text, width_if, width_of, decimal_text}
use Rattle.insn.specs.Grid.{grid, decode_of}
use Rattle.insn.specs.Shapes.{shapes, shape_of, is_undefined}
use Rattle.listing.specs.Lines.{most_listed}
use Rattle.listing.specs.Spelling.{Kind, n8, n16, at_n16, at_high, e8, sp_plus_e8, target, u3, vec, Shown, Named, Of, Spelling, spellings, hex, signed_if, signed_text, bracketed, constant_text, around, shown_text, comma_text, operands_text, spelling_in, spelling_by, spelling_text}
use Rattle.listing.specs.declared.Edition.{Edition}
use Rattle.listing.specs.declared.Edition.TheVariants.{Old, New}
use Rattle.listing.proofs.Opcodes.{each_opcode}

-- the most characters of a constant of each kind with what stands around it, and of an operand
abbrev most_of_kind : Kind → ℕ → ℕ
most_of_kind n8 n = 3
most_of_kind n16 n = 5
most_of_kind at_n16 n = 7
most_of_kind at_high n = 7
most_of_kind e8 n = 4
most_of_kind sp_plus_e8 n = 7
most_of_kind target n = 5
most_of_kind u3 n = length (decimal_text n)
most_of_kind vec n = 3

abbrev most : Shown → ℕ
most (Named t) = length (ascii t)
most (Of k n) = most_of_kind k n

signed_most : (t : Bool) (e : ℕ) → length (signed_if t e) ≤ 4
unfolding signed_if hex ascii hex_text digits_of
signed_most true e = omega arith
signed_most false e = omega arith

kind_most : (next : ℕ) (k : Kind) (n : ℕ) → length (around k (constant_text next k n)) ≤ most_of_kind k n
unfolding around constant_text signed_text bracketed hex ascii hex_text digits_of
kind_most next n8 n = omega arith
kind_most next n16 n = omega arith
kind_most next at_n16 n = omega arith
kind_most next at_high n = omega arith
kind_most next e8 n = signed_most (ltb n 0x80) n
kind_most next sp_plus_e8 n = omega (arith, signed_most (ltb n 0x80) n)
kind_most next target n = omega arith
kind_most next u3 n = le_refl _
kind_most next vec n = omega arith

shown_most : (next : ℕ) (x : Shown) → length (shown_text next x) ≤ most x
unfolding shown_text
shown_most next (Named t) = le_refl _
shown_most next (Of k n) = kind_most next k n

-- of operands, each with what stands before it, and of a spelling
abbrev most_of : List Shown → ℕ
most_of [] = 0
most_of (x ∷ xs) = 1 + most x + most_of xs

abbrev spelling_most : Spelling → ℕ
spelling_most s = length (ascii s.name) + most_of s.operands

commas_most : (next : ℕ) (xs : List Shown) → length (comma_text (shown_text next) xs) ≤ most_of xs
unfolding comma_text ascii
commas_most next [] = omega arith
commas_most next (x ∷ xs) =
    rw (length-append (shown_text next x) (comma_text (shown_text next) xs)) (omega (arith, shown_most next x, commas_most next xs))

operands_most : (next : ℕ) (xs : List Shown) → length (operands_text (shown_text next) xs) ≤ most_of xs
unfolding operands_text
operands_most next [] = omega arith
operands_most next (x ∷ xs) =
    rw (length-append (shown_text next x) (comma_text (shown_text next) xs)) (omega (arith, shown_most next x, commas_most next xs))

spelling_most_lem : (next : ℕ) (s : Spelling) → length (spelling_text next s) ≤ spelling_most s
unfolding spelling_text spelling_by
spelling_most_lem next s =
    rw (length-append (ascii s.name) (operands_text (shown_text next) s.operands)) (omega (arith, operands_most next s.operands))

-- an instruction has a short line: with 7 characters and two for each byte it keeps to 19 for each, and to 26 in all. antt computes
-- both for every opcode, whatever follows it
module _ (e : Edition) (op n w : ℕ) where
  abbrev size : ℕ
  size = (shape_of (decode_of op n w)).bytes

  abbrev long : ℕ
  long = 7 + 2 * size + spelling_most (spelling_in e op n w)

  abbrev each : Bool
  each = is_undefined (decode_of op n w) || leb long (most_listed * size)

  abbrev all : Bool
  all = leb long 26

insn_each : (e : Edition) (op n w : ℕ) → op < 256 → n < 256 → each e op n w ≡ true
unfolding grid shapes spellings ascii digits_of glyph_of width_if width_of decimal_text
insn_each Old = each_opcode (each Old) (λ op n w. true) true (λ n w. refl) (λ w. refl)
insn_each New = each_opcode (each New) (λ op n w. true) true (λ n w. refl) (λ w. refl)

insn_all : (e : Edition) (op n w : ℕ) → op < 256 → n < 256 → all e op n w ≡ true
unfolding grid shapes spellings ascii digits_of glyph_of width_if width_of decimal_text
insn_all Old = each_opcode (all Old) (λ op n w. true) true (λ n w. refl) (λ w. refl)
insn_all New = each_opcode (all New) (λ op n w. true) true (λ n w. refl) (λ w. refl)

module _ (e : Edition) (op n w next : ℕ) (h : op < 256) (hn : n < 256) (d : is_undefined (decode_of op n w) ≡ false) where
  abbrev line_length : ℕ
  line_length = 7 + 2 * (shape_of (decode_of op n w)).bytes + length (spelling_text next (spelling_in e op n w))

  pub insn_most : (line_length ≤ 26) × (line_length ≤ most_listed * (shape_of (decode_of op n w)).bytes)
  insn_most =
      let few = leb-true (long e op n w) 26 (insn_all e op n w h hn) in
      let few_each = leb-true (long e op n w) (most_listed * size e op n w) (rw d at (insn_each e op n w h hn)) in
      let bound = spelling_most_lem next (spelling_in e op n w) in
      (omega arith, omega arith)

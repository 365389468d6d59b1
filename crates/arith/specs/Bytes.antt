-- Operations on bytes, each with its result and its F: the eight of the grid's column `alu`, INC and DEC, and BIT, RES, SET.
-- Document 01, "The opcode grid" and "Flags"; the entries of the instruction reference under the operations' names.
-- Assumes nothing.
use Rattle.std.specs.Prelude.{ℕ, ◌-◌, ◌/◌, ◌%◌, ◌^◌, Bool, true, false, not, ◌==◌, bit_and, bit_or, bit_xor}
use Rattle.arith.specs.Width.{one_if, sum_of, difference_of, carry_of, borrow_of}
use Rattle.arith.specs.Flags.{flags_of, c_of}
use Rattle.arith.specs.Flagged.{Byte}
use Rattle.arith.specs.declared.Alu.{Alu}
use Rattle.arith.specs.declared.Alu.TheVariants.{Add, Adc, Sub, Sbc, And, Xor, Or, Cp}

-- Z is set where the result is 0
abbrev pub is_zero : ℕ → Bool
is_zero v = v == 0

-- ADD and ADC: H is the carry out of bit 3, C the carry out of bit 7
unfoldable pub added_of : ℕ → ℕ → Bool → Byte
added_of a b k =
    record {
      value = sum_of 8 a b (one_if k);
      flags = flags_of (is_zero (sum_of 8 a b (one_if k))) false (carry_of 4 a b (one_if k)) (carry_of 8 a b (one_if k));
    }

-- SUB, SBC and CP: H is the borrow from bit 4, C the borrow
unfoldable pub subtracted_of : ℕ → ℕ → Bool → Byte
subtracted_of a b k =
    record {
      value = difference_of 8 a b (one_if k);
      flags = flags_of (is_zero (difference_of 8 a b (one_if k))) true (borrow_of 4 a b (one_if k)) (borrow_of 8 a b (one_if k));
    }

-- AND, XOR, OR: Z by the result, N 0, H 1 of AND alone, C 0
unfoldable pub logic_of : ℕ → Bool → Byte
logic_of v h = record { value = v; flags = flags_of (is_zero v) false h false }

-- CP: the flags of SUB, and A as it was
unfoldable pub compared_of : ℕ → ℕ → Byte
compared_of a b = record { value = a; flags = (subtracted_of a b false).flags }

-- the eight operations on A, an operand and F
unfoldable pub alu_of : Alu → ℕ → ℕ → ℕ → Byte
alu_of Add a b f = added_of a b false
alu_of Adc a b f = added_of a b (c_of f)
alu_of Sub a b f = subtracted_of a b false
alu_of Sbc a b f = subtracted_of a b (c_of f)
alu_of And a b f = logic_of (bit_and a b) true
alu_of Xor a b f = logic_of (bit_xor a b) false
alu_of Or a b f = logic_of (bit_or a b) false
alu_of Cp a b f = compared_of a b

-- INC of a byte: as ADD 1, but C stays
unfoldable pub increased_of : ℕ → ℕ → Byte
increased_of v f =
    record { value = sum_of 8 v 1 0; flags = flags_of (is_zero (sum_of 8 v 1 0)) false (carry_of 4 v 1 0) (c_of f) }

-- DEC of a byte: as SUB 1, but C stays
unfoldable pub decreased_of : ℕ → ℕ → Byte
decreased_of v f =
    record {
      value = difference_of 8 v 1 0;
      flags = flags_of (is_zero (difference_of 8 v 1 0)) true (borrow_of 4 v 1 0) (c_of f);
    }

-- bit k of a byte, and the byte with bit k reset or set; bit numbers count modulo 8
unfoldable pub bit_of : ℕ → ℕ → Bool
bit_of k v = v / 2 ^ (k % 8) % 2 == 1

unfoldable pub reset_of : ℕ → ℕ → ℕ
reset_of k v = bit_and v (255 - 2 ^ (k % 8))

unfoldable pub set_of : ℕ → ℕ → ℕ
set_of k v = bit_or v (2 ^ (k % 8))

-- F after BIT: Z where the bit is 0, N 0, H 1, C stays
unfoldable pub tested_of : ℕ → ℕ → ℕ → ℕ
tested_of k v f = flags_of (not (bit_of k v)) false true (c_of f)

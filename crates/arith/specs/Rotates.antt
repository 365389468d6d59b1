-- Rotates and shifts: the eight of the grid's column `rot`, and the four on A that clear Z. Document 01, "Flags".
-- Assumes nothing.
use Rattle.std.specs.Prelude.{ℕ, ◌+◌, ◌*◌, ◌/◌, ◌%◌, Bool, false, ◌==◌}
use Rattle.arith.specs.Width.{one_if}
use Rattle.arith.specs.Flags.{flags_of}
use Rattle.arith.specs.Bytes.{is_zero}
use Rattle.arith.specs.Flagged.{Byte}
use Rattle.arith.specs.declared.Rot.{Rot}
use Rattle.arith.specs.declared.Rot.TheVariants.{Rlc, Rrc, Rl, Rr, Sla, Sra, Swap, Srl}

-- the byte after the rotate, with the old C where it goes through it
unfoldable pub rotated_of : Rot → ℕ → Bool → ℕ
rotated_of Rlc v k = v * 2 % 256 + v / 128
rotated_of Rrc v k = v / 2 + 128 * (v % 2)
rotated_of Rl v k = v * 2 % 256 + one_if k
rotated_of Rr v k = v / 2 + 128 * one_if k
rotated_of Sla v k = v * 2 % 256
rotated_of Sra v k = v / 2 + 128 * (v / 128)
rotated_of Swap v k = v % 16 * 16 + v / 16
rotated_of Srl v k = v / 2

-- C after it: the bit that left the byte, the top one to the left, the lowest to the right, and none of SWAP
unfoldable pub left_over_of : Rot → ℕ → Bool
left_over_of Rlc v = v / 128 == 1
left_over_of Rrc v = v % 2 == 1
left_over_of Rl v = v / 128 == 1
left_over_of Rr v = v % 2 == 1
left_over_of Sla v = v / 128 == 1
left_over_of Sra v = v % 2 == 1
left_over_of Swap v = false
left_over_of Srl v = v % 2 == 1

-- the $CB forms: Z by the result, N 0, H 0
unfoldable pub rotation_of : Rot → ℕ → Bool → Byte
rotation_of r v k =
    record { value = rotated_of r v k; flags = flags_of (is_zero (rotated_of r v k)) false false (left_over_of r v) }

-- RLCA, RRCA, RLA, RRA: the same with Z cleared
unfoldable pub rotation_a_of : Rot → ℕ → Bool → Byte
rotation_a_of r v k = record { value = rotated_of r v k; flags = flags_of false false false (left_over_of r v) }

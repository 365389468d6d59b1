-- The flags byte F: Z $80, N $40, H $20, C $10, and the low four bits 0. Document 01, "Flags".
-- Assumes nothing.
use Rattle.std.specs.Prelude.{ℕ, ◌+◌, ◌/◌, ◌%◌, Bool, true, false, ◌==◌}
use Rattle.arith.specs.declared.Flag.{Flag}
use Rattle.arith.specs.declared.Flag.TheVariants.{Z, N, H, C}

-- the weight of a flag where it is set, and 0 where it is not
unfoldable pub weight_if : Bool → ℕ → ℕ
weight_if true v = v
weight_if false v = 0

-- F from the four flags Z, N, H, C
unfoldable pub flags_of : Bool → Bool → Bool → Bool → ℕ
flags_of z n h c = weight_if z 0x80 + weight_if n 0x40 + weight_if h 0x20 + weight_if c 0x10

-- each flag of an F
unfoldable pub z_of : ℕ → Bool
z_of f = f / 0x80 % 2 == 1

unfoldable pub n_of : ℕ → Bool
n_of f = f / 0x40 % 2 == 1

unfoldable pub h_of : ℕ → Bool
h_of f = f / 0x20 % 2 == 1

unfoldable pub c_of : ℕ → Bool
c_of f = f / 0x10 % 2 == 1

-- the flag of a name
unfoldable pub flag_of : Flag → ℕ → Bool
flag_of Z f = z_of f
flag_of N f = n_of f
flag_of H f = h_of f
flag_of C f = c_of f

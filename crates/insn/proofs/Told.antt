-- What the rows of the grid share: a byte that a match has told is decoded as that byte is, which antt computes.
-- Assumes nothing.
use Prim.Native.Nat.{ℕ, ◌+◌, ◌*◌, ◌/◌, ◌%◌, ◌≤◌}
use mathlib.Core.Path.{◌≡◌, ◌∙◌, refl, ap}
use mathlib.Core.List.{[], ◌∷◌}
use native.Mathlib.Omega.{arith}
use lib.ListN.{get_or}
use Rattle.arith.specs.declared.Alu.{Alu}
use Rattle.insn.specs.Grid.{grid, r_at, operand_of}
use Rattle.insn.specs.Shapes.{shapes, access_of, carried_of, shaped_of, decoded_of}
use Rattle.insn.specs.declared.Place.{Place}
use Rattle.insn.specs.declared.Place.TheVariants as place
use Rattle.insn.specs.declared.Insn.TheVariants.{Load, Math}
use Rattle.insn.specs.declared.Decoded.{Decoded}
use Rattle.insn.proofs.Last.{Passed, past}
use Rattle.insn.proofs.Entries.{tabulate, agree}

-- opens the grid and what its instructions take
unfoldable pub entries : Unit {0}
unfolding grid shapes
entries = tt

pub told : {op k : ℕ} {r : Decoded} (n w : ℕ) → op ≡ k → r ≡ decoded_of k n w → r ≡ decoded_of op n w
told n w e h = rw e h

-- the last byte of a row of sixteen
pub last_of : (b x : ℕ) → x / 16 ≡ b → Passed (16 * b) 15 x → x ≡ 16 * b + 15
last_of b x h p = let i : 16 * b + 15 ≤ x = past (16 * b) 15 x (omega arith) p in omega arith

-- a row of sixteen, where f gives the entry at each place in it
pub row : (f : ℕ → Decoded) (k op n w : ℕ) → op / 16 ≡ k → tabulate f 0 16 ≡ tabulate (λ j. decoded_of (16 * k + j) n w) 0 16 → f (op % 16) ≡ decoded_of op n w
row f k op n w e t =
    agree f (λ j. decoded_of (16 * k + j) n w) 16 t (op % 16) (omega arith)
    ∙ ap (λ j. decoded_of j n w) (omega (arith, e))

-- the entries of a row of loads, and of one of operations
abbrev pub loads_at : Place → Place → ℕ → Decoded
loads_at first second j = shaped_of (Load (get_or (first ∷ second ∷ []) (j / 8) second) (operand_of (r_at (j % 8))))

abbrev pub sums_at : Alu → Alu → ℕ → Decoded
sums_at first second j = shaped_of (Math (get_or (first ∷ second ∷ []) (j / 8) second) (operand_of (r_at (j % 8))))

-- a place carries no byte
place_carries : (p : Place) → carried_of (operand_of p) ≡ 0
unfolding operand_of carried_of
place_carries place.B = refl
place_carries place.C = refl
place_carries place.D = refl
place_carries place.E = refl
place_carries place.H = refl
place_carries place.L = refl
place_carries place.AtHl = refl
place_carries place.A = refl

-- what a load from a place takes, and an operation on A and a place
pub load_takes : (to from : Place) → shaped_of (Load to (operand_of from)) ≡ record { insn = Load to (operand_of from); more = 0; cycles = 1 + access_of (operand_of to) + access_of (operand_of from) }
unfolding shapes
load_takes to from = rw (place_carries from)

pub sum_takes : (operation : Alu) (from : Place) → shaped_of (Math operation (operand_of from)) ≡ record { insn = Math operation (operand_of from); more = 0; cycles = 1 + access_of (operand_of from) }
unfolding shapes
sum_takes operation from = rw (place_carries from)

-- HALT is the byte $76 and no other, whatever follows it.
-- Assumes nothing.
use Prim.Native.Nat.{ℕ, suc, ◌/◌}
use mathlib.Core.Bool.{Bool, true, false}
use mathlib.Core.List.{List, [], ◌∷◌}
use mathlib.Core.Logic.{◌≢◌, inl, inr}
use mathlib.Core.Path.{◌≡◌, refl, ap}
use borrow.Author.Tests.{eqb-true, eqb-false, ne_eqb}
use denote.Struct.Field.{Field}
use denote.Enum.Declared.{Choice}
use native.Mathlib.Omega.{arith}
use lib.Dec.{eqb}
use Rattle.insn.specs.Grid.{grid, nth, prefixed_at, prefixed_of, x0_of, halt_or, x1_of, x2_of, x3_of, grid_of, decode_of}
use Rattle.insn.specs.declared.Insn.{Insn}
use Rattle.insn.specs.declared.Insn.TheVariants.{Halt, Undefined}
use Rattle.insn.specs.contracts.Insn.{the_parts as parts, as_values}
use Rattle.insn.proofs.Sound.{Each, each, ◌▸◌}

-- the number of a case of the enum, as it is declared
abbrev case_of : (ps : List (List Field)) → Choice ps → ℕ
case_of [] c = absurd c
case_of (p ∷ ps) (inl v) = 0
case_of (p ∷ ps) (inr c) = suc (case_of ps c)

abbrev number_of : Insn → ℕ
number_of i = case_of parts (as_values i)

-- no HALT
abbrev Other : Insn → Type 0
Other i = number_of i ≢ number_of Halt

nth_other : (line : List Insn) → Each Other line → (k : ℕ) → Other (nth k line)
unfolding nth
nth_other line e k = each Other line Undefined (omega arith) e k

prefixed_other : (n : ℕ) → Other (prefixed_of n)
unfolding prefixed_of prefixed_at
prefixed_other n = nth_other _ (omega arith) (n / 64)

module _ (y z p q n w : ℕ) where
  x0_other : Other (x0_of y z p q n w)
  unfolding x0_of
  x0_other =
      nth_other _
      (nth_other _ (omega arith) y
      ▸ nth_other _ (omega arith) q
      ▸ nth_other _ (omega arith) q
      ▸ nth_other _ (omega arith) q
      ▸ omega arith
      ▸ omega arith
      ▸ omega arith
      ▸ nth_other _ (omega arith) y
      ▸ tt)
      z

  x3_other : Other (x3_of y z p q n w)
  unfolding x3_of
  x3_other =
      nth_other _
      (nth_other _ (omega arith) y
      ▸ nth_other _ (omega arith ▸ nth_other _ (omega arith) p ▸ tt) q
      ▸ nth_other _ (omega arith) y
      ▸ nth_other _ (omega arith ▸ prefixed_other n ▸ omega arith) y
      ▸ nth_other _ (omega arith) y
      ▸ nth_other _ (omega arith ▸ nth_other _ (omega arith) p ▸ tt) q
      ▸ omega arith
      ▸ omega arith
      ▸ tt)
      z

x1_other : (op y z : ℕ) → op ≢ 0x76 → Other (x1_of op y z)
unfolding x1_of halt_or
x1_other op y z d = rw (ne_eqb op 0x76 d) (omega arith)

x2_other : (y z : ℕ) → Other (x2_of y z)
unfolding x2_of
x2_other y z = omega arith

decode_other : (op n w : ℕ) → op ≢ 0x76 → Other (decode_of op n w)
unfolding decode_of grid_of
decode_other op n w d =
    nth_other _
    (x0_other _ _ _ _ n w ▸ x1_other op _ _ d ▸ x2_other _ _ ▸ x3_other _ _ _ _ n w ▸ tt)
    (op / 64)

pub halt_byte : (n w : ℕ) → decode_of 0x76 n w ≡ Halt
unfolding grid
halt_byte n w = refl

pub halt_only : (op n w : ℕ) → decode_of op n w ≡ Halt → op ≡ 0x76
halt_only op n w e = go (eqb op 0x76) refl
  where
    go : (b : Bool) → eqb op 0x76 ≡ b → op ≡ 0x76
    go true h = eqb-true op 0x76 h
    go false h = absurd (decode_other op n w (eqb-false op 0x76 h) (ap number_of e))

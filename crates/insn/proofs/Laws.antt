-- Laws about the definitions, for the crates above: what an instruction can take, which bytes are none, what lies past the table.
-- Assumes nothing.
use Prim.Native.Nat.{ℕ, ◌+◌, ◌≤◌, ◌<◌}
use mathlib.Core.Path.{◌≡◌, ◌∙◌, refl, ap}
use mathlib.Core.Bool.{Bool, true, false, ◌||◌}
use mathlib.Core.List.{List, [], ◌∷◌}
use mathlib.Core.Logic.{◌⊎◌, inl, inr, ⊎_elim}
use native.Mathlib.Omega.{arith}
use lib.Dec.{eqb}
use borrow.Author.Tests.{eqb-true, ne_eqb, le-ltb}
use Rattle.insn.specs.Grid.{grid, operand_of, decode_of, prefixed_of}
use Rattle.insn.specs.Shapes.{Shape, shapes, access_of, carried_of, shape_of, is_undefined}
use Rattle.insn.specs.Table.{rows, row_of, length_of, untaken_of}
use Rattle.insn.specs.declared.Operand.{Operand}
use Rattle.insn.specs.declared.Operand.TheVariants.{Reg, AtHl, Const}
use Rattle.insn.specs.declared.Insn.{Insn}
use Rattle.insn.specs.declared.Insn.TheVariants.{Nop, StoreSp, Stop, Jr, JrIf, LoadPair, AddHl, StoreAt, LoadAt, IncPair, DecPair, Inc, Dec, Load, RotateA, Daa, Cpl, Scf, Ccf, Halt, Math, RetIf, StoreHigh, AddSp, LoadHigh, LoadHlSp, Pop, Ret, Reti, JumpHl, LoadSpHl, JumpIf, StoreHighC, StoreTo, LoadHighC, LoadFrom, Jump, Rotate, Bit, Res, Set, Di, Ei, CallIf, Push, Call, Rst, Undefined}
use Rattle.insn.proofs.Entries.{agree}

-- an operand takes at most one access, and carries at most one byte
pub operand_most : (o : Operand) → (access_of o ≤ 1) × (carried_of o ≤ 1)
unfolding access_of carried_of
operand_most (Reg r) = omega arith
operand_most AtHl = omega arith
operand_most (Const v) = omega arith

-- one to three bytes, and one to six cycles, those of a taken branch among them
abbrev Fair : Shape → Type 0
Fair s = (1 ≤ s.bytes) × (s.bytes ≤ 3) × (1 ≤ s.cycles) × (s.cycles + s.taken ≤ 6)

fair : (i : Insn) → (i ≡ Undefined) ⊎ Fair (shape_of i)
unfolding shape_of
fair Nop = inr (omega arith)
fair (StoreSp w) = inr (omega arith)
fair Stop = inr (omega arith)
fair (Jr n) = inr (omega arith)
fair (JrIf cc n) = inr (omega arith)
fair (LoadPair w rp) = inr (omega arith)
fair (AddHl rp) = inr (omega arith)
fair (StoreAt p) = inr (omega arith)
fair (LoadAt p) = inr (omega arith)
fair (IncPair rp) = inr (omega arith)
fair (DecPair rp) = inr (omega arith)
fair (Inc p) = inr (omega (arith, operand_most (operand_of p)))
fair (Dec p) = inr (omega (arith, operand_most (operand_of p)))
fair (Load p s) = inr (omega (arith, operand_most (operand_of p), operand_most s))
fair (RotateA r) = inr (omega arith)
fair Daa = inr (omega arith)
fair Cpl = inr (omega arith)
fair Scf = inr (omega arith)
fair Ccf = inr (omega arith)
fair Halt = inr (omega arith)
fair (Math a o) = inr (omega (arith, operand_most o))
fair (RetIf cc) = inr (omega arith)
fair (StoreHigh n) = inr (omega arith)
fair (AddSp n) = inr (omega arith)
fair (LoadHigh n) = inr (omega arith)
fair (LoadHlSp n) = inr (omega arith)
fair (Pop rp) = inr (omega arith)
fair Ret = inr (omega arith)
fair Reti = inr (omega arith)
fair JumpHl = inr (omega arith)
fair LoadSpHl = inr (omega arith)
fair (JumpIf cc w) = inr (omega arith)
fair StoreHighC = inr (omega arith)
fair (StoreTo w) = inr (omega arith)
fair LoadHighC = inr (omega arith)
fair (LoadFrom w) = inr (omega arith)
fair (Jump w) = inr (omega arith)
fair (Rotate r p) = inr (omega (arith, operand_most (operand_of p)))
fair (Bit k p) = inr (omega (arith, operand_most (operand_of p)))
fair (Res k p) = inr (omega (arith, operand_most (operand_of p)))
fair (Set k p) = inr (omega (arith, operand_most (operand_of p)))
fair Di = inr (omega arith)
fair Ei = inr (omega arith)
fair (CallIf cc w) = inr (omega arith)
fair (Push rp) = inr (omega arith)
fair (Call w) = inr (omega arith)
fair (Rst n) = inr (omega arith)
fair Undefined = inl refl

pub cycles_most : (i : Insn) → (shape_of i).cycles + (shape_of i).taken ≤ 6
unfolding shape_of
cycles_most i = ⊎_elim (λ e. rw e (omega arith)) (λ f. f.3) (fair i)

pub length_most : (i : Insn) → (shape_of i).bytes ≤ 3
unfolding shape_of
length_most i = ⊎_elim (λ e. rw e (omega arith)) (λ f. f.1) (fair i)

-- what has no cycles is undefined, and what is undefined has none
pub no_cycles : (i : Insn) → (shape_of i).cycles ≡ 0 → i ≡ Undefined
no_cycles i z = ⊎_elim (λ e. e) (λ f. absurd (omega (arith, f.2, z))) (fair i)

pub undefined_cycles : (shape_of Undefined).cycles ≡ 0
unfolding shape_of
undefined_cycles = refl

pub undefined_length : (shape_of Undefined).bytes ≡ 0
unfolding shape_of
undefined_length = refl

pub some_cycles : (i : Insn) → (i ≡ Undefined → ⊥) → 1 ≤ (shape_of i).cycles
some_cycles i d = ⊎_elim (λ e. absurd (d e)) (λ f. f.2) (fair i)

-- to have no length is to have no cycles
pub undefined_is : (i : Insn) → is_undefined i ≡ eqb (shape_of i).cycles 0
undefined_is i =
    ⊎_elim (λ e. rw e (unfold shape_of in refl))
    (λ f. rw (ne_eqb (shape_of i).bytes 0 (omega (arith, f.0)), ne_eqb (shape_of i).cycles 0 (omega (arith, f.2))))
    (fair i)

-- the eleven bytes that are no instruction
abbrev pub undefined_bytes : List ℕ
undefined_bytes = 0xD3 ∷ 0xDB ∷ 0xDD ∷ 0xE3 ∷ 0xE4 ∷ 0xEB ∷ 0xEC ∷ 0xED ∷ 0xF4 ∷ 0xFC ∷ 0xFD ∷ []

abbrev pub among : List ℕ → ℕ → Bool
among [] k = false
among (x ∷ xs) k = eqb k x || among xs k

pub prefixed_defined : (n : ℕ) → n < 256 → is_undefined (prefixed_of n) ≡ false
unfolding grid shapes
prefixed_defined = agree (λ k. is_undefined (prefixed_of k)) (λ k. false) 256 refl

-- at every byte but the prefix, whatever follows it
unprefixed : (n w k : ℕ) → k < 256 → (eqb k 0xCB || is_undefined (decode_of k n w)) ≡ (eqb k 0xCB || among undefined_bytes k)
unfolding grid shapes
unprefixed n w =
    agree (λ k. eqb k 0xCB || is_undefined (decode_of k n w)) (λ k. eqb k 0xCB || among undefined_bytes k) 256 refl

pub undefined_bytes_lem : (op n w : ℕ) → op < 256 → n < 256 → is_undefined (decode_of op n w) ≡ among undefined_bytes op
undefined_bytes_lem op n w h hn = go (eqb op 0xCB) refl
  where
    go : (b : Bool) → eqb op 0xCB ≡ b → is_undefined (decode_of op n w) ≡ among undefined_bytes op
    go true e = rw (eqb-true op 0xCB e) (unfold grid in prefixed_defined n hn)
    go false e = rw e at (unprefixed n w op h)

-- past the table
pub row_above : (k : ℕ) → 512 ≤ k → row_of k ≡ Undefined
unfolding rows
row_above k h = rw (le-ltb k 256 (omega arith), le-ltb k 512 h)

pub length_above : (k : ℕ) → 512 ≤ k → length_of k ≡ 0
unfolding length_of
length_above k h = ap (λ (i : Insn). (shape_of i).bytes) (row_above k h) ∙ undefined_length

pub untaken_above : (k : ℕ) → 512 ≤ k → untaken_of k ≡ 0
unfolding untaken_of
untaken_above k h = ap (λ (i : Insn). (shape_of i).cycles) (row_above k h) ∙ undefined_cycles

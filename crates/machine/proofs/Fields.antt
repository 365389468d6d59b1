-- The parts of the instructions: from another F and another IME they read the same, and what they make differs in these two alone. So
-- those that do not set F leave it.
-- Assumes nothing.
use Prim.Native.Nat.{ℕ}
use mathlib.Core.List.{[], ◌∷◌}
use mathlib.Core.Bool.{Bool, true, false}
use mathlib.Core.Path.{◌≡◌, refl, ap}
use Rattle.arith.specs.Flagged.{Byte}
use Rattle.insn.specs.Grid.{operand_of}
use Rattle.insn.specs.declared.Register.{Register}
use Rattle.insn.specs.declared.Register.TheVariants as reg
use Rattle.insn.specs.declared.Operand.{Operand}
use Rattle.insn.specs.declared.Operand.TheVariants.{Reg, AtHl, Const}
use Rattle.insn.specs.declared.Place.{Place}
use Rattle.insn.specs.declared.Place.TheVariants as place
use Rattle.insn.specs.declared.Pair.{Pair}
use Rattle.insn.specs.declared.Pair.TheVariants as pair
use Rattle.insn.specs.declared.Stacked.{Stacked}
use Rattle.insn.specs.declared.Stacked.TheVariants as stacked
use Rattle.insn.specs.declared.Pointer.{Pointer}
use Rattle.insn.specs.declared.Pointer.TheVariants as pointer
use Rattle.machine.specs.Memory.{Memory, store}
use Rattle.machine.specs.Answers.{Storing, storing, storeless}
use Rattle.machine.specs.State.{with_f, with_ime, register_of, with_register, hl_of, with_hl, pair_of, with_pair, stacked_of, with_stacked}
use Rattle.machine.specs.Operands.{value_of, held_of, placed_of, updated_of, pointed_of, moved_of}
use Rattle.machine.specs.Execute.{taken_if}
use Rattle.machine.specs.declared.Ime.{Ime}
use Rattle.machine.specs.declared.Cpu.{Cpu}
use Rattle.machine.specs.declared.Done.{Done}

-- a byte put into a place is put into a register, or stored at HL
module _ (P : Storing Cpu → Type 0) (v : ℕ) (s : Cpu) (set : (r : Register) → P (storeless (with_register r v s)))
    (at-hl : P (storing s (store (hl_of s) v ∷ []))) where
  pub by_place : (p : Place) → P (placed_of p v s)
  unfolding placed_of
  by_place place.B = set reg.B
  by_place place.C = set reg.C
  by_place place.D = set reg.D
  by_place place.E = set reg.E
  by_place place.H = set reg.H
  by_place place.L = set reg.L
  by_place place.AtHl = at-hl
  by_place place.A = set reg.A

-- a state with another F and another IME, and what is done with one
abbrev other : ℕ → Ime → Cpu → Cpu
other f u s = with_f f (with_ime u s)

abbrev pub imed : Ime → Done → Done
imed u d = record { cpu = with_ime u d.cpu; extra = d.extra }

module _ (f : ℕ) (u : Ime) (s : Cpu) where
  reg_read : (r : Register) → register_of r (other f u s) ≡ register_of r s
  unfolding register_of
  reg_read reg.B = refl
  reg_read reg.C = refl
  reg_read reg.D = refl
  reg_read reg.E = refl
  reg_read reg.H = refl
  reg_read reg.L = refl
  reg_read reg.A = refl

  reg_other : (r : Register) (v : ℕ) → with_register r v (other f u s) ≡ other f u (with_register r v s)
  unfolding with_register
  reg_other reg.B v = refl
  reg_other reg.C v = refl
  reg_other reg.D v = refl
  reg_other reg.E v = refl
  reg_other reg.H v = refl
  reg_other reg.L v = refl
  reg_other reg.A v = refl

  placed_other : (p : Place) (v : ℕ)
      → placed_of p v (other f u s) ≡ storing (other f u (placed_of p v s).out) (placed_of p v s).stores
  unfolding placed_of hl_of
  placed_other place.B v = rw reg_other
  placed_other place.C v = rw reg_other
  placed_other place.D v = rw reg_other
  placed_other place.E v = rw reg_other
  placed_other place.H v = rw reg_other
  placed_other place.L v = rw reg_other
  placed_other place.AtHl v = refl
  placed_other place.A v = rw reg_other

  pair_other : (rp : Pair) (w : ℕ) → with_pair rp w (other f u s) ≡ other f u (with_pair rp w s)
  unfolding with_pair with_hl
  pair_other pair.Bc w = refl
  pair_other pair.De w = refl
  pair_other pair.Hl w = refl
  pair_other pair.Sp w = refl

  moved_other : (p : Pointer) → moved_of p (other f u s) ≡ other f u (moved_of p s)
  unfolding moved_of with_hl hl_of
  moved_other pointer.Bc = refl
  moved_other pointer.De = refl
  moved_other pointer.Hli = refl
  moved_other pointer.Hld = refl

-- F

pub pair_same : (rp : Pair) (w : ℕ) (s : Cpu) → (with_pair rp w s).f ≡ s.f
pair_same rp w s = ap (λ (t : Cpu). t.f) (pair_other s.f s.ime s rp w)

pub moved_same : (p : Pointer) (s : Cpu) → (moved_of p s).f ≡ s.f
moved_same p s = ap (λ (t : Cpu). t.f) (moved_other s.f s.ime s p)

pub placed_same : (p : Place) (v : ℕ) (s : Cpu) → (placed_of p v s).out.f ≡ s.f
placed_same p v s = ap (λ (w : Storing Cpu). w.out.f) (placed_other s.f s.ime s p v)

-- a result put back has its own F
pub updated_same : (p : Place) (b : Byte) (s : Cpu) → (updated_of p b s).out.f ≡ b.flags
unfolding updated_of
updated_same p b s = placed_same p b.value (with_f b.flags s)

pub taken_same : (t : Bool) (k : ℕ) (next s : Cpu) → next.f ≡ s.f → (taken_if t k next s).cpu.f ≡ s.f
unfolding taken_if
taken_same true k next s e = e
taken_same false k next s e = refl

-- IME

module _ (u : Ime) (s : Cpu) where
  pub value_read : (o : Operand) (m : Memory) → value_of o (with_ime u s) m ≡ value_of o s m
  unfolding value_of hl_of
  value_read (Reg r) m = reg_read s.f u s r
  value_read AtHl m = refl
  value_read (Const v) m = refl

  pub held_read : (p : Place) (m : Memory) → held_of p (with_ime u s) m ≡ held_of p s m
  unfolding held_of
  held_read p m = value_read (operand_of p) m

  pub pair_read : (rp : Pair) → pair_of rp (with_ime u s) ≡ pair_of rp s
  unfolding pair_of hl_of
  pair_read pair.Bc = refl
  pair_read pair.De = refl
  pair_read pair.Hl = refl
  pair_read pair.Sp = refl

  pub stacked_read : (rp : Stacked) → stacked_of rp (with_ime u s) ≡ stacked_of rp s
  unfolding stacked_of hl_of
  stacked_read stacked.Bc = refl
  stacked_read stacked.De = refl
  stacked_read stacked.Hl = refl
  stacked_read stacked.Af = refl

  pub pointed_read : (p : Pointer) → pointed_of p (with_ime u s) ≡ pointed_of p s
  unfolding pointed_of hl_of
  pointed_read pointer.Bc = refl
  pointed_read pointer.De = refl
  pointed_read pointer.Hli = refl
  pointed_read pointer.Hld = refl

  pub placed_left : (p : Place) (v : ℕ)
      → placed_of p v (with_ime u s) ≡ storing (with_ime u (placed_of p v s).out) (placed_of p v s).stores
  placed_left p v = rw (placed_other s.f u s p v, placed_same p v s)

  pub pair_left : (rp : Pair) (w : ℕ) → with_pair rp w (with_ime u s) ≡ with_ime u (with_pair rp w s)
  pair_left rp w = rw (pair_other s.f u s rp w, pair_same rp w s)

  pub stacked_left : (rp : Stacked) (w : ℕ) → with_stacked rp w (with_ime u s) ≡ with_ime u (with_stacked rp w s)
  unfolding with_stacked with_hl
  stacked_left stacked.Bc w = refl
  stacked_left stacked.De w = refl
  stacked_left stacked.Hl w = refl
  stacked_left stacked.Af w = refl

  pub moved_left : (p : Pointer) → moved_of p (with_ime u s) ≡ with_ime u (moved_of p s)
  moved_left p = rw (moved_other s.f u s p, moved_same p s)

  pub taken_left : (t : Bool) (k : ℕ) (next : Cpu) → taken_if t k (with_ime u next) (with_ime u s) ≡ imed u (taken_if t k next s)
  unfolding taken_if
  taken_left true k next = refl
  taken_left false k next = refl

pub updated_left : (u : Ime) (s : Cpu) (p : Place) (b : Byte)
    → updated_of p b (with_ime u s) ≡ storing (with_ime u (updated_of p b s).out) (updated_of p b s).stores
unfolding updated_of
updated_left u s p b = placed_left u (with_f b.flags s) p b.value

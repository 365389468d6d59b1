-- Document 01, "The opcode grid": from an opcode byte, with the byte n and the word w that follow it, to the instruction.
-- x is the byte's top two bits, y the next three, z the low three, p = y / 2 rounded down, q = y mod 2.
-- Assumes nothing.
use Rattle.std.specs.Prelude.{ℕ, ◌*◌, ◌/◌, ◌%◌, Bool, true, false, List, [], ◌∷◌, eqb, get_or}
use Rattle.arith.specs.declared.Alu.{Alu}
use Rattle.arith.specs.declared.Alu.TheVariants.{Add, Adc, Sub, Sbc, And, Xor, Or, Cp}
use Rattle.arith.specs.declared.Rot.{Rot}
use Rattle.arith.specs.declared.Rot.TheVariants.{Rlc, Rrc, Rl, Rr, Sla, Sra, Swap, Srl}
use Rattle.insn.specs.declared.Register.TheVariants as reg
use Rattle.insn.specs.declared.Operand.{Operand}
use Rattle.insn.specs.declared.Operand.TheVariants.{Reg, AtHl, Const}
use Rattle.insn.specs.declared.Place.{Place}
use Rattle.insn.specs.declared.Place.TheVariants as place
use Rattle.insn.specs.declared.Pair.{Pair}
use Rattle.insn.specs.declared.Pair.TheVariants as pair
use Rattle.insn.specs.declared.Stacked.{Stacked}
use Rattle.insn.specs.declared.Stacked.TheVariants as stacked
use Rattle.insn.specs.declared.Pointer.{Pointer}
use Rattle.insn.specs.declared.Pointer.TheVariants as pointer
use Rattle.insn.specs.declared.Cond.TheVariants as cond
use Rattle.insn.specs.declared.Insn.{Insn}
use Rattle.insn.specs.declared.Insn.TheVariants.{Nop, StoreSp, Stop, Jr, JrIf, LoadPair, AddHl, StoreAt, LoadAt, IncPair, DecPair, Inc, Dec, Load, RotateA, Daa, Cpl, Scf, Ccf, Halt, Math, RetIf, StoreHigh, AddSp, LoadHigh, LoadHlSp, Pop, Ret, Reti, JumpHl, LoadSpHl, JumpIf, StoreHighC, StoreTo, LoadHighC, LoadFrom, Jump, Rotate, Bit, Res, Set, Di, Ei, CallIf, Push, Call, Rst, Undefined}

-- r is B C D E H L [HL] A
unfoldable pub r_at : ℕ → Place
r_at k = get_or (place.B ∷ place.C ∷ place.D ∷ place.E ∷ place.H ∷ place.L ∷ place.AtHl ∷ place.A ∷ []) k place.AtHl

-- a place as an operand
unfoldable pub operand_of : Place → Operand
operand_of place.B = Reg reg.B
operand_of place.C = Reg reg.C
operand_of place.D = Reg reg.D
operand_of place.E = Reg reg.E
operand_of place.H = Reg reg.H
operand_of place.L = Reg reg.L
operand_of place.AtHl = AtHl
operand_of place.A = Reg reg.A

-- rp is BC DE HL SP; on the stack AF stands in the place of SP
unfoldable pub rp_at : ℕ → Pair
rp_at k = get_or (pair.Bc ∷ pair.De ∷ pair.Hl ∷ pair.Sp ∷ []) k pair.Sp

unfoldable pub stacked_at : ℕ → Stacked
stacked_at k = get_or (stacked.Bc ∷ stacked.De ∷ stacked.Hl ∷ stacked.Af ∷ []) k stacked.Af

-- the places of z 2: [BC], [DE], [HLI], [HLD]
unfoldable pub pointer_at : ℕ → Pointer
pointer_at k = get_or (pointer.Bc ∷ pointer.De ∷ pointer.Hli ∷ pointer.Hld ∷ []) k pointer.Hld

-- alu is ADD ADC SUB SBC AND XOR OR CP
unfoldable pub alu_at : ℕ → Alu
alu_at k = get_or (Add ∷ Adc ∷ Sub ∷ Sbc ∷ And ∷ Xor ∷ Or ∷ Cp ∷ []) k Cp

-- rot is RLC RRC RL RR SLA SRA SWAP SRL
unfoldable pub rot_at : ℕ → Rot
rot_at k = get_or (Rlc ∷ Rrc ∷ Rl ∷ Rr ∷ Sla ∷ Sra ∷ Swap ∷ Srl ∷ []) k Srl

-- the k-th of a line of the grid
unfoldable pub nth : ℕ → List Insn → Insn
nth k line = get_or line k Undefined

-- after $CB: x 0 rot r[z], 1 BIT y, 2 RES y, 3 SET y
unfoldable pub prefixed_at : ℕ → ℕ → ℕ → Insn
prefixed_at x y z =
    nth x (Rotate (rot_at y) (r_at z) ∷ Bit y (r_at z) ∷ Res y (r_at z) ∷ Set y (r_at z) ∷ [])

unfoldable pub prefixed_of : ℕ → Insn
prefixed_of op = prefixed_at (op / 64) (op / 8 % 8) (op % 8)

-- x 0, by z
unfoldable pub x0_of : ℕ → ℕ → ℕ → ℕ → ℕ → ℕ → Insn
x0_of y z p q n w =
    nth z
    (nth y (Nop ∷ StoreSp w ∷ Stop ∷ Jr n ∷ JrIf cond.Nz n ∷ JrIf cond.Z n ∷ JrIf cond.Nc n ∷ JrIf cond.C n ∷ [])
    ∷ nth q (LoadPair w (rp_at p) ∷ AddHl (rp_at p) ∷ [])
    ∷ nth q (StoreAt (pointer_at p) ∷ LoadAt (pointer_at p) ∷ [])
    ∷ nth q (IncPair (rp_at p) ∷ DecPair (rp_at p) ∷ [])
    ∷ Inc (r_at y)
    ∷ Dec (r_at y)
    ∷ Load (r_at y) (Const n)
    ∷ nth y (RotateA Rlc ∷ RotateA Rrc ∷ RotateA Rl ∷ RotateA Rr ∷ Daa ∷ Cpl ∷ Scf ∷ Ccf ∷ [])
    ∷ []
    )

-- x 1: LD r[y],r[z], but HALT in the place of LD [HL],[HL]
unfoldable pub halt_or : Bool → Insn → Insn
halt_or true i = Halt
halt_or false i = i

unfoldable pub x1_of : ℕ → ℕ → ℕ → Insn
x1_of op y z = halt_or (eqb op 0x76) (Load (r_at y) (operand_of (r_at z)))

-- x 2: alu[y] A,r[z]
unfoldable pub x2_of : ℕ → ℕ → Insn
x2_of y z = Math (alu_at y) (operand_of (r_at z))

-- x 3, by z
unfoldable pub x3_of : ℕ → ℕ → ℕ → ℕ → ℕ → ℕ → Insn
x3_of y z p q n w =
    nth z
    (nth y (RetIf cond.Nz ∷ RetIf cond.Z ∷ RetIf cond.Nc ∷ RetIf cond.C ∷ StoreHigh n ∷ AddSp n ∷ LoadHigh n ∷ LoadHlSp n ∷ [])
    ∷ nth q (Pop (stacked_at p) ∷ nth p (Ret ∷ Reti ∷ JumpHl ∷ LoadSpHl ∷ []) ∷ [])
    ∷ nth y (JumpIf cond.Nz w ∷ JumpIf cond.Z w ∷ JumpIf cond.Nc w ∷ JumpIf cond.C w ∷ StoreHighC ∷ StoreTo w ∷ LoadHighC ∷ LoadFrom w ∷ [])
    ∷ nth y (Jump w ∷ prefixed_of n ∷ Undefined ∷ Undefined ∷ Undefined ∷ Undefined ∷ Di ∷ Ei ∷ [])
    ∷ nth y (CallIf cond.Nz w ∷ CallIf cond.Z w ∷ CallIf cond.Nc w ∷ CallIf cond.C w ∷ Undefined ∷ Undefined ∷ Undefined ∷ Undefined ∷ [])
    ∷ nth q (Push (stacked_at p) ∷ nth p (Call w ∷ Undefined ∷ Undefined ∷ Undefined ∷ []) ∷ [])
    ∷ Math (alu_at y) (Const n)
    ∷ Rst (8 * y)
    ∷ []
    )

-- the grid, by the byte's x, y and z; p is y / 2, and q is y mod 2
unfoldable pub grid_of : ℕ → ℕ → ℕ → ℕ → ℕ → ℕ → Insn
grid_of op x y z n w =
    nth x (x0_of y z (y / 2) (y % 2) n w ∷ x1_of op y z ∷ x2_of y z ∷ x3_of y z (y / 2) (y % 2) n w ∷ [])

unfoldable pub decode_of : ℕ → ℕ → ℕ → Insn
decode_of op n w = grid_of op (op / 64) (op / 8 % 8) (op % 8) n w

-- opens the grid in a proof
unfoldable pub grid : Unit {0}
unfolding r_at operand_of rp_at stacked_at pointer_at alu_at rot_at nth prefixed_at prefixed_of x0_of halt_or x1_of x2_of x3_of grid_of decode_of
grid = tt

-- What each instruction takes: its length in bytes, its cycles where no branch is taken, and how many more a taken branch costs.
-- The entries "Bytes" and "Cycles" of the instruction reference; document 01, "The opcode grid", for the branches, for HALT and
-- STOP, 1 cycle each, and for an undefined byte, which has length 0.
-- Assumes nothing.
use Rattle.std.specs.Prelude.{ℕ, ◌+◌, ◌-◌, ◌*◌, Bool, eqb}
use Rattle.insn.specs.Grid.{operand_of, decode_of}
use Rattle.insn.specs.declared.Operand.{Operand}
use Rattle.insn.specs.declared.Operand.TheVariants.{Reg, AtHl, Const}
use Rattle.insn.specs.declared.Decoded.{Decoded}
use Rattle.insn.specs.declared.Insn.{Insn}
use Rattle.insn.specs.declared.Insn.TheVariants.{Nop, StoreSp, Stop, Jr, JrIf, LoadPair, AddHl, StoreAt, LoadAt, IncPair, DecPair, Inc, Dec, Load, RotateA, Daa, Cpl, Scf, Ccf, Halt, Math, RetIf, StoreHigh, AddSp, LoadHigh, LoadHlSp, Pop, Ret, Reti, JumpHl, LoadSpHl, JumpIf, StoreHighC, StoreTo, LoadHighC, LoadFrom, Jump, Rotate, Bit, Res, Set, Di, Ei, CallIf, Push, Call, Rst, Undefined}

pub record Shape : Type 0 where
  pub bytes : ℕ
  pub cycles : ℕ
  pub taken : ℕ

abbrev pub takes : ℕ → ℕ → Shape
takes n c = record { bytes = n; cycles = c; taken = 0 }

abbrev pub branches : ℕ → ℕ → ℕ → Shape
branches n c t = record { bytes = n; cycles = c; taken = t }

-- a register costs nothing more; the byte at HL and a constant are one access each
unfoldable pub access_of : Operand → ℕ
access_of (Reg r) = 0
access_of AtHl = 1
access_of (Const v) = 1

-- a constant is one byte of the instruction
unfoldable pub carried_of : Operand → ℕ
carried_of (Reg r) = 0
carried_of AtHl = 0
carried_of (Const v) = 1

-- length and cycles. INC, DEC, rotates, RES and SET of [HL] read it and store it: two accesses
unfoldable pub shape_of : Insn → Shape
shape_of Nop = takes 1 1
shape_of (StoreSp w) = takes 3 5
shape_of Stop = takes 2 1
shape_of (Jr e) = takes 2 3
shape_of (JrIf cc e) = branches 2 2 1
shape_of (LoadPair w rp) = takes 3 3
shape_of (AddHl rp) = takes 1 2
shape_of (StoreAt p) = takes 1 2
shape_of (LoadAt p) = takes 1 2
shape_of (IncPair rp) = takes 1 2
shape_of (DecPair rp) = takes 1 2
shape_of (Inc p) = takes 1 (1 + 2 * access_of (operand_of p))
shape_of (Dec p) = takes 1 (1 + 2 * access_of (operand_of p))
shape_of (Load p s) = takes (1 + carried_of s) (1 + access_of (operand_of p) + access_of s)
shape_of (RotateA r) = takes 1 1
shape_of Daa = takes 1 1
shape_of Cpl = takes 1 1
shape_of Scf = takes 1 1
shape_of Ccf = takes 1 1
shape_of Halt = takes 1 1
shape_of (Math op s) = takes (1 + carried_of s) (1 + access_of s)
shape_of (RetIf cc) = branches 1 2 3
shape_of (StoreHigh n) = takes 2 3
shape_of (AddSp e) = takes 2 4
shape_of (LoadHigh n) = takes 2 3
shape_of (LoadHlSp e) = takes 2 3
shape_of (Pop rp) = takes 1 3
shape_of Ret = takes 1 4
shape_of Reti = takes 1 4
shape_of JumpHl = takes 1 1
shape_of LoadSpHl = takes 1 2
shape_of (JumpIf cc w) = branches 3 3 1
shape_of StoreHighC = takes 1 2
shape_of (StoreTo w) = takes 3 4
shape_of LoadHighC = takes 1 2
shape_of (LoadFrom w) = takes 3 4
shape_of (Jump w) = takes 3 4
shape_of (Rotate r p) = takes 2 (2 + 2 * access_of (operand_of p))
shape_of (Bit k p) = takes 2 (2 + access_of (operand_of p))
shape_of (Res k p) = takes 2 (2 + 2 * access_of (operand_of p))
shape_of (Set k p) = takes 2 (2 + 2 * access_of (operand_of p))
shape_of Di = takes 1 1
shape_of Ei = takes 1 1
shape_of (CallIf cc w) = branches 3 3 3
shape_of (Push rp) = takes 1 4
shape_of (Call w) = takes 3 6
shape_of (Rst v) = takes 1 4
shape_of Undefined = takes 0 0

-- an undefined byte is no instruction, which is to have no length
abbrev pub is_undefined : Insn → Bool
is_undefined i = eqb (shape_of i).bytes 0

-- an instruction with the bytes after its first and its cycles, as the decoder answers it
unfoldable pub shaped_of : Insn → Decoded
shaped_of i = record { insn = i; more = (shape_of i).bytes - 1; cycles = (shape_of i).cycles }

unfoldable pub decoded_of : ℕ → ℕ → ℕ → Decoded
decoded_of op n w = shaped_of (decode_of op n w)

-- opens the shapes in a proof
unfoldable pub shapes : Unit {0}
unfolding access_of carried_of shape_of shaped_of decoded_of
shapes = tt

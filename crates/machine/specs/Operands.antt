-- Operands: a register, the byte at HL, or a constant carried with the instruction; the places that bytes are put into; and the
-- pointers that A is stored and loaded through. Document 01, "The opcode grid".
-- Assumes nothing.
use Rattle.std.specs.Prelude.{ℕ, [], ◌∷◌}
use Rattle.arith.specs.Words.{word_of, further, back}
use Rattle.arith.specs.Flagged.{Byte}
use Rattle.insn.specs.Grid.{operand_of}
use Rattle.insn.specs.declared.Register.TheVariants as reg
use Rattle.insn.specs.declared.Operand.{Operand}
use Rattle.insn.specs.declared.Operand.TheVariants.{Reg, AtHl, Const}
use Rattle.insn.specs.declared.Place.{Place}
use Rattle.insn.specs.declared.Place.TheVariants as place
use Rattle.insn.specs.declared.Pointer.{Pointer}
use Rattle.insn.specs.declared.Pointer.TheVariants as pointer
use Rattle.machine.specs.Memory.{Memory, byte_at, store}
use Rattle.machine.specs.Answers.{Storing, storing, storeless}
use Rattle.machine.specs.State.{register_of, with_register, with_f, hl_of, with_hl}
use Rattle.machine.specs.declared.Cpu.{Cpu}

-- the value of an operand
unfoldable pub value_of : Operand → Cpu → Memory → ℕ
value_of (Reg r) s m = register_of r s
value_of AtHl s m = byte_at m (hl_of s)
value_of (Const v) s m = v

-- the byte in a place
unfoldable pub held_of : Place → Cpu → Memory → ℕ
held_of p s m = value_of (operand_of p) s m

-- a byte put into a place
unfoldable pub placed_of : Place → ℕ → Cpu → Storing Cpu
placed_of place.B v s = storeless (with_register reg.B v s)
placed_of place.C v s = storeless (with_register reg.C v s)
placed_of place.D v s = storeless (with_register reg.D v s)
placed_of place.E v s = storeless (with_register reg.E v s)
placed_of place.H v s = storeless (with_register reg.H v s)
placed_of place.L v s = storeless (with_register reg.L v s)
placed_of place.AtHl v s = storing s (store (hl_of s) v ∷ [])
placed_of place.A v s = storeless (with_register reg.A v s)

-- a result put back into its place, with its F
unfoldable pub updated_of : Place → Byte → Cpu → Storing Cpu
updated_of p r s = placed_of p r.value (with_f r.flags s)

-- [BC] [DE] [HLI] [HLD]: the address, and the state after, where HLI moves HL one on and HLD one back
unfoldable pub pointed_of : Pointer → Cpu → ℕ
pointed_of pointer.Bc s = word_of s.b s.c
pointed_of pointer.De s = word_of s.d s.e
pointed_of pointer.Hli s = hl_of s
pointed_of pointer.Hld s = hl_of s

unfoldable pub moved_of : Pointer → Cpu → Cpu
moved_of pointer.Bc s = s
moved_of pointer.De s = s
moved_of pointer.Hli s = with_hl (further 1 (hl_of s)) s
moved_of pointer.Hld s = with_hl (back 1 (hl_of s)) s

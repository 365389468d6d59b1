-- What each instruction does, once its bytes are read: the state has PC at the address after and the mode Running.
-- The entries of the instruction reference under the instructions' names; document 01, "One step" and "Flags"; document 02, M-100,
-- for HALT.
-- Assumes nothing.
use Rattle.std.specs.Prelude.{ℕ, ◌+◌, ◌-◌, Bool, true, false, not, List, [], ◌∷◌, eqb}
use Rattle.arith.specs.Flags.{flags_of, z_of, c_of}
use Rattle.arith.specs.Bytes.{alu_of, increased_of, decreased_of, reset_of, set_of, tested_of}
use Rattle.arith.specs.Rotates.{rotation_of, rotation_a_of}
use Rattle.arith.specs.Decimal.{decimal_of}
use Rattle.arith.specs.Words.{further, back, offset_of, added_hl_of, added_sp_of}
use Rattle.arith.specs.Flagged.{Byte}
use Rattle.insn.specs.declared.Pointer.{Pointer}
use Rattle.insn.specs.declared.Pair.{Pair}
use Rattle.insn.specs.Grid.{operand_of}
use Rattle.insn.specs.Shapes.{shape_of}
use Rattle.insn.specs.declared.Insn.{Insn}
use Rattle.insn.specs.declared.Insn.TheVariants.{Nop, StoreSp, Stop, Jr, JrIf, LoadPair, AddHl, StoreAt, LoadAt, IncPair, DecPair, Inc, Dec, Load, RotateA, Daa, Cpl, Scf, Ccf, Halt, Math, RetIf, StoreHigh, AddSp, LoadHigh, LoadHlSp, Pop, Ret, Reti, JumpHl, LoadSpHl, JumpIf, StoreHighC, StoreTo, LoadHighC, LoadFrom, Jump, Rotate, Bit, Res, Set, Di, Ei, CallIf, Push, Call, Rst, Undefined}
use Rattle.machine.specs.Memory.{Memory, byte_at, word_at, Store, store, word_stores}
use Rattle.machine.specs.Answers.{Storing, storing, storeless}
use Rattle.machine.specs.State.{with_f, with_a_and_f, with_sp, with_pc, with_ime, with_mode, register_of, with_register, hl_of, with_hl, pair_of, with_pair, stacked_of, with_stacked, met_of}
use Rattle.machine.specs.Modes.{armed_of}
use Rattle.machine.specs.Stack.{pushed_of, returned_to, called_of}
use Rattle.machine.specs.Operands.{value_of, held_of, placed_of, updated_of, pointed_of, moved_of}
use Rattle.machine.specs.Interrupts.{pending_of}
use Rattle.machine.specs.declared.Ime.{Ime}
use Rattle.machine.specs.declared.Ime.TheVariants.{Off, Arming, On}
use Rattle.machine.specs.declared.Mode.TheVariants.{Running, Repeat, Halted, Stopped}
use Rattle.machine.specs.declared.Cpu.{Cpu}
use Rattle.machine.specs.declared.Done.{Done}

-- an instruction that is done, with no cycles beyond its own
abbrev pub done : Cpu → Done
done s = record { cpu = s; extra = 0 }

-- such an instruction that stores nothing, and one with its stores
abbrev pub plainly : Cpu → Storing Done
plainly s = storeless (done s)

abbrev pub doing : Storing Cpu → Storing Done
doing w = storing (done w.out) w.stores

-- A and F from a result; HL, or SP, and F from a result
unfoldable pub result_of : Byte → Cpu → Cpu
result_of r s = with_a_and_f r.value r.flags s

unfoldable pub added_to_hl_of : Pair → Cpu → Cpu
added_to_hl_of rp s =
    with_hl (added_hl_of (hl_of s) (pair_of rp s) s.f).value (with_f (added_hl_of (hl_of s) (pair_of rp s) s.f).flags s)

unfoldable pub added_to_sp_of : ℕ → Cpu → Cpu
added_to_sp_of e s = with_sp (added_sp_of s.sp e).value (with_f (added_sp_of s.sp e).flags s)

unfoldable pub hl_from_sp_of : ℕ → Cpu → Cpu
hl_from_sp_of e s = with_hl (added_sp_of s.sp e).value (with_f (added_sp_of s.sp e).flags s)

-- conditional jumps, calls and returns: a taken one goes on to the next state given and costs k cycles more, any other stays; and a
-- call that is not taken stores nothing
unfoldable pub taken_if : Bool → ℕ → Cpu → Cpu → Done
taken_if true k next s = record { cpu = next; extra = k }
taken_if false k next s = done s

unfoldable pub stores_if : Bool → List Store → List Store
stores_if true xs = xs
stores_if false xs = []

-- A stored at an address, and loaded from one
unfoldable pub stored_to : ℕ → Cpu → Storing Cpu
stored_to at s = storing s (store at s.a ∷ [])

unfoldable pub loaded_from : ℕ → Cpu → Memory → Cpu
loaded_from at s m = with_a_and_f (byte_at m at) s.f s

-- [HLI], [HLD] and the others: A stored, then HL moved
unfoldable pub stored_at_of : Pointer → Cpu → Storing Cpu
stored_at_of p s = storing (moved_of p s) (store (pointed_of p s) s.a ∷ [])

-- LDH: one operand byte, added to $FF00
unfoldable pub high_address : ℕ → ℕ
high_address n = 0xFF00 + n

-- the eight bits of A turned round: Z and C stay, N 1, H 1
unfoldable pub complemented_of : Cpu → Cpu
complemented_of s = with_a_and_f (255 - s.a) (flags_of (z_of s.f) true true (c_of s.f)) s

-- SCF and CCF: Z stays, N 0, H 0, and C as given
unfoldable pub with_carry_of : Bool → Cpu → Cpu
with_carry_of c s = with_f (flags_of (z_of s.f) false false c) s

-- HALT, by whether a request is pending, and by IME at the start: Off, Repeat; Arming, PC at the HALT's own address, IME On and the
-- mode Running, so that the handler returns to the HALT; in all other cases Halted
unfoldable pub halted_by : Bool → Ime → ℕ → Cpu → Cpu
halted_by true Off own s = with_mode Repeat s
halted_by true Arming own s = with_pc own (with_ime On (with_mode Running s))
halted_by true On own s = with_mode Halted s
halted_by false ime own s = with_mode Halted s

unfoldable pub halted_of : ℕ → Cpu → Memory → Cpu
halted_of own s m = halted_by (not (eqb (pending_of m) 0)) s.ime own s

-- every instruction, in the grid's order. Its first byte was read from the address own, which HALT alone asks for
module _ (own : ℕ) where
  unfoldable pub exec_of : Insn → Cpu → Memory → Storing Done
  exec_of Nop s m = plainly s
  exec_of (StoreSp w) s m = doing (storing s (word_stores w s.sp))
  exec_of Stop s m = plainly (with_mode Stopped s)
  exec_of (Jr e) s m = plainly (with_pc (offset_of e s.pc) s)
  exec_of (JrIf cc e) s m = storeless (taken_if (met_of cc s.f) (shape_of (JrIf cc e)).taken (with_pc (offset_of e s.pc) s) s)
  exec_of (LoadPair w rp) s m = plainly (with_pair rp w s)
  exec_of (AddHl rp) s m = plainly (added_to_hl_of rp s)
  exec_of (StoreAt p) s m = doing (stored_at_of p s)
  exec_of (LoadAt p) s m = plainly (moved_of p (loaded_from (pointed_of p s) s m))
  exec_of (IncPair rp) s m = plainly (with_pair rp (further 1 (pair_of rp s)) s)
  exec_of (DecPair rp) s m = plainly (with_pair rp (back 1 (pair_of rp s)) s)
  exec_of (Inc p) s m = doing (updated_of p (increased_of (held_of p s m) s.f) s)
  exec_of (Dec p) s m = doing (updated_of p (decreased_of (held_of p s m) s.f) s)
  exec_of (Load p o) s m = doing (placed_of p (value_of o s m) s)
  exec_of (RotateA r) s m = plainly (result_of (rotation_a_of r s.a (c_of s.f)) s)
  exec_of Daa s m = plainly (result_of (decimal_of s.a s.f) s)
  exec_of Cpl s m = plainly (complemented_of s)
  exec_of Scf s m = plainly (with_carry_of true s)
  exec_of Ccf s m = plainly (with_carry_of (not (c_of s.f)) s)
  exec_of Halt s m = plainly (halted_of own s m)
  exec_of (Math op o) s m = plainly (result_of (alu_of op s.a (value_of o s m) s.f) s)
  exec_of (RetIf cc) s m = storeless (taken_if (met_of cc s.f) (shape_of (RetIf cc)).taken (returned_to (word_at m s.sp) s) s)
  exec_of (StoreHigh n) s m = doing (stored_to (high_address n) s)
  exec_of (AddSp e) s m = plainly (added_to_sp_of e s)
  exec_of (LoadHigh n) s m = plainly (loaded_from (high_address n) s m)
  exec_of (LoadHlSp e) s m = plainly (hl_from_sp_of e s)
  exec_of (Pop rp) s m = plainly (with_stacked rp (word_at m s.sp) (with_sp (further 2 s.sp) s))
  exec_of Ret s m = plainly (returned_to (word_at m s.sp) s)
  exec_of Reti s m = plainly (with_ime On (returned_to (word_at m s.sp) s))
  exec_of JumpHl s m = plainly (with_pc (hl_of s) s)
  exec_of LoadSpHl s m = plainly (with_sp (hl_of s) s)
  exec_of (JumpIf cc w) s m = storeless (taken_if (met_of cc s.f) (shape_of (JumpIf cc w)).taken (with_pc w s) s)
  exec_of StoreHighC s m = doing (stored_to (high_address s.c) s)
  exec_of (StoreTo w) s m = doing (stored_to w s)
  exec_of LoadHighC s m = plainly (loaded_from (high_address s.c) s m)
  exec_of (LoadFrom w) s m = plainly (loaded_from w s m)
  exec_of (Jump w) s m = plainly (with_pc w s)
  exec_of (Rotate r p) s m = doing (updated_of p (rotation_of r (held_of p s m) (c_of s.f)) s)
  exec_of (Bit k p) s m = plainly (with_f (tested_of k (held_of p s m) s.f) s)
  exec_of (Res k p) s m = doing (placed_of p (reset_of k (held_of p s m)) s)
  exec_of (Set k p) s m = doing (placed_of p (set_of k (held_of p s m)) s)
  exec_of Di s m = plainly (with_ime Off s)
  exec_of Ei s m = plainly (with_ime (armed_of s.ime) s)
  exec_of (CallIf cc w) s m = storing (taken_if (met_of cc s.f) (shape_of (CallIf cc w)).taken (called_of w s).out s) (stores_if (met_of cc s.f) (called_of w s).stores)
  exec_of (Push rp) s m = doing (pushed_of (stacked_of rp s) s)
  exec_of (Call w) s m = doing (called_of w s)
  exec_of (Rst v) s m = doing (called_of v s)
  exec_of Undefined s m = plainly s

-- opens what the instructions do in a proof
unfoldable pub acts : Unit {0}
unfolding register_of with_register hl_of with_hl pair_of with_pair stacked_of with_stacked met_of word_at word_stores pushed_of returned_to called_of operand_of value_of held_of placed_of updated_of pointed_of moved_of result_of added_to_hl_of added_to_sp_of hl_from_sp_of taken_if stores_if stored_to loaded_from stored_at_of high_address complemented_of with_carry_of armed_of halted_by halted_of exec_of
acts = tt

-- One step in three parts: the refusals in their order, the three rules, and what follows where the step is accepted.
-- Document 01, "Refusal numbers" and "One step".
-- Assumes nothing.
use Rattle.std.specs.Prelude.{ℕ, ◌+◌, ◌-◌, ◌%◌, Bool, true, false, not, ◌&&◌, List, [], ◌∷◌, ◌++◌, ◌≡◌, eqb, length}
use Rattle.arith.specs.Refusals.{Refusal, ◌when◌, code_of, unless_refused}
use Rattle.arith.specs.Words.{further}
use Rattle.insn.specs.Grid.{decode_of}
use Rattle.insn.specs.Shapes.{shape_of, is_undefined}
use Rattle.insn.specs.declared.Insn.{Insn}
use Rattle.machine.specs.Memory.{Memory, memory_size, byte_at, word_at, Store, made}
use Rattle.machine.specs.Answers.{With, keeping, Storing, storeless}
use Rattle.machine.specs.State.{with_pc, with_ime, with_mode}
use Rattle.machine.specs.Modes.{is_halted, is_stopped, settled_ime}
use Rattle.machine.specs.Interrupts.{pending_of, dispatch_due_of, dispatch_of}
use Rattle.machine.specs.Execute.{exec_of}
use Rattle.machine.specs.declared.Ime.{Ime}
use Rattle.machine.specs.declared.Ime.TheVariants.{Off}
use Rattle.machine.specs.declared.Mode.{Mode}
use Rattle.machine.specs.declared.Mode.TheVariants.{Running, Repeat, Halted, Stopped}
use Rattle.machine.specs.declared.Cpu.{Cpu}
use Rattle.machine.specs.declared.Done.{Done}

-- a step: its number, its cycles and the state after it
pub record Stepped : Type 0 where
  pub code : ℕ
  pub cycles : ℕ
  pub cpu : Cpu

-- the same with the memory
abbrev pub stepped : ℕ → ℕ → Cpu → Memory → With Stepped
stepped code cycles s m = keeping (record { code = code; cycles = cycles; cpu = s }) m

-- a refused step answers its number, 0 cycles and the state it was given, and changes nothing
abbrev pub refusing : ℕ → Cpu → Memory → With Stepped
refusing n s m = stepped n 0 s m

-- what a step does: its cycles, the state after it, and its stores in their order
pub record Act : Type 0 where
  pub cycles : ℕ
  pub cpu : Cpu
  pub stores : List Store

abbrev pub act : ℕ → Storing Cpu → Act
act k w = record { cycles = k; cpu = w.out; stores = w.stores }

-- what follows an accepted step, the one end of all three rules: its stores are made
abbrev pub accepting : Act → Memory → With Stepped
accepting a m = stepped 0 a.cycles a.cpu (made a.stores m)

-- rule 1: IME On and a request pending
unfoldable pub dispatches : Cpu → Memory → Bool
dispatches s m = dispatch_due_of s.ime (pending_of m)

-- rule 2: Halted and nothing pending
unfoldable pub idles : Cpu → Memory → Bool
idles s m = is_halted s.mode && eqb (pending_of m) 0

-- where the bytes after the first lie: in Repeat the first byte read does not move PC
unfoldable pub past_first : Mode → ℕ → ℕ
past_first Running pc = further 1 pc
past_first Repeat pc = pc
past_first Halted pc = further 1 pc
past_first Stopped pc = further 1 pc

unfoldable pub next_rest : Cpu → ℕ
next_rest s = past_first s.mode s.pc

-- rule 3: the instruction at PC, and the address after it
unfoldable pub next_insn : Cpu → Memory → Insn
next_insn s m = decode_of (byte_at m s.pc) (byte_at m (next_rest s)) (word_at m (next_rest s))

unfoldable pub next_after : Cpu → Memory → ℕ
next_after s m = further ((shape_of (next_insn s m)).bytes - 1) (next_rest s)

-- the state in which an instruction runs: PC past all its bytes, the mode Running
unfoldable pub ready_of : ℕ → Cpu → Cpu
ready_of after s = with_pc after (with_mode Running s)

-- the end of an instruction that costs k cycles where nothing is taken
unfoldable pub end_of : ℕ → Ime → Storing Done → Act
end_of k start w =
    record {
      cycles = k + w.out.extra;
      cpu = with_ime (settled_ime start w.out.cpu.ime) w.out.cpu;
      stores = w.stores;
    }

unfoldable pub instruction_act : Cpu → Memory → Act
instruction_act s m =
    end_of (shape_of (next_insn s m)).cycles s.ime (exec_of s.pc (next_insn s m) (ready_of (next_after s m) s) m)

-- begun with the IME u, and with nothing settled at its end, it comes to the same: what the code rests on
abbrev pub SettledBy : Ime → Cpu → Memory → Type 0
SettledBy u s m =
    instruction_act s m
    ≡ end_of (shape_of (next_insn s m)).cycles Off (exec_of s.pc (next_insn s m) (with_ime u (ready_of (next_after s m) s)) m)

-- the rules: a dispatch in 5 cycles; else 1 cycle in which nothing changes; else the instruction
unfoldable pub rule_by : Bool → Bool → Cpu → Memory → Act
rule_by true idle s m = act 5 (dispatch_of s m)
rule_by false true s m = act 1 (storeless s)
rule_by false false s m = instruction_act s m

unfoldable pub rule_of : Cpu → Memory → Act
rule_of s m = rule_by (dispatches s m) (idles s m) s m

-- of the input, by a step and a run alike
unfoldable pub input_refusals : Cpu → Memory → List Refusal
input_refusals s m =
    1 when not (eqb (length m) memory_size)
    ∷ 2 when not (eqb (s.f % 16) 0)
    ∷ []

-- of an instruction
abbrev pub instruction_refusals : Cpu → Memory → List Refusal
instruction_refusals s m = 4 when is_undefined (next_insn s m) ∷ []

-- of a step that is due
unfoldable pub due_refusals : Cpu → Memory → List Refusal
due_refusals s m =
    3 when is_stopped s.mode
    ∷ 4 when (not (dispatches s m) && not (idles s m) && is_undefined (next_insn s m))
    ∷ []

-- an accepted step, unless something is refused
abbrev pub step_unless : List Refusal → Act → Cpu → Memory → With Stepped
step_unless rs a s m = unless_refused (code_of rs) (λ _. accepting a m) (λ n. refusing n s m)

-- rule 3 alone, and a step that is due, behind the refusals of its input
abbrev pub instruction_step : Cpu → Memory → With Stepped
instruction_step s m = step_unless (instruction_refusals s m) (instruction_act s m) s m

abbrev pub due_step : Cpu → Memory → With Stepped
due_step s m = step_unless (due_refusals s m) (rule_of s m) s m

-- order: 1, 2, 3, 4
unfoldable pub step_refusals : Cpu → Memory → List Refusal
step_refusals s m = input_refusals s m ++ due_refusals s m

unfoldable pub step_of : Cpu → Memory → With Stepped
step_of s m = step_unless (step_refusals s m) (rule_of s m) s m

-- opens the parts of a step in a proof
unfoldable pub flow : Unit {0}
unfolding is_halted is_stopped settled_ime dispatches idles past_first next_rest next_insn next_after ready_of end_of instruction_act rule_by rule_of input_refusals due_refusals step_refusals step_of
flow = tt

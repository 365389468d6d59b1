-- Where the tests of a step lead, in the order of the code: refusals 1 and 2, the idle step, refusal 3, the dispatch, the
-- instruction.
-- Assumes nothing.
use Prim.Native.Nat.{◌%◌}
use mathlib.Core.Bool.{true, false, ◌&&◌, and-false}
use mathlib.Core.Logic.{◌≢◌}
use mathlib.Core.Path.{◌≡◌}
use borrow.Author.Tests.{eq-eqb, ne_eqb}
use lib.Dec.{eqb}
use lib.ListN.{length}
use Rattle.arith.specs.Refusals.{order}
use Rattle.arith.specs.Words.{further}
use Rattle.machine.specs.Memory.{Memory, memory_size}
use Rattle.machine.specs.Answers.{storeless}
use Rattle.machine.specs.Modes.{is_on, is_halted, is_stopped}
use Rattle.machine.specs.Interrupts.{pending_of, dispatch_due_of, dispatch_of}
use Rattle.machine.specs.Step.{act, refusing, accepting, dispatches, idles, past_first, next_rest, rule_by, rule_of, input_refusals, due_refusals, step_refusals, instruction_step, due_step, step_of}
use Rattle.machine.specs.declared.Ime.TheVariants.{Off}
use Rattle.machine.specs.declared.Mode.TheVariants.{Running}
use Rattle.machine.specs.declared.Cpu.{Cpu}
use Rattle.machine.proofs.Rules.{idle_is}

module _ (s : Cpu) (m : Memory) where
  pub stage_unfit : length m ≢ memory_size → step_of s m ≡ refusing 1 s m
  unfolding order input_refusals step_refusals step_of
  stage_unfit p = rw (ne_eqb (length m) memory_size p)

  pub stage_flags : length m ≡ memory_size → s.f % 16 ≢ 0 → step_of s m ≡ refusing 2 s m
  unfolding order input_refusals step_refusals step_of
  stage_flags p q = rw (eq-eqb (length m) memory_size p, ne_eqb (s.f % 16) 0 q)

  -- Halted with nothing pending is neither Stopped nor due for a dispatch
  pub stage_idle : (is_halted s.mode && eqb (pending_of m) 0) ≡ true → due_step s m ≡ accepting (act 1 (storeless s)) m
  unfolding order is_stopped is_halted dispatch_due_of dispatches idles due_refusals rule_by rule_of
  stage_idle p =
      let h = (idle_is s.mode (pending_of m)).0 p in
      let run : is_stopped s.mode ≡ false = rw h.0 in
      let quiet : dispatches s m ≡ false = rw (h.1, and-false) in
      rw (run, quiet, p)

  pub stage_stopped : is_stopped s.mode ≡ true → due_step s m ≡ refusing 3 s m
  unfolding order due_refusals
  stage_stopped p = rw p

  pub stage_dispatch : is_stopped s.mode ≡ false → dispatch_due_of s.ime (pending_of m) ≡ true
      → due_step s m ≡ accepting (act 5 (dispatch_of s m)) m
  unfolding order dispatches due_refusals rule_by rule_of
  stage_dispatch p q = rw (p, q)

  pub stage_insn : is_stopped s.mode ≡ false → dispatch_due_of s.ime (pending_of m) ≡ false
      → (is_halted s.mode && eqb (pending_of m) 0) ≡ false → due_step s m ≡ instruction_step s m
  unfolding order dispatches idles due_refusals rule_by rule_of
  stage_insn p q r = rw (p, q, r)

  -- Running with IME Off: no test stands before it, and the other bytes follow the first
  pub quiet_rest : s.mode ≡ Running → further 1 s.pc ≡ next_rest s
  unfolding past_first next_rest
  quiet_rest r = rw r

  pub stage_quiet : s.mode ≡ Running → s.ime ≡ Off → due_step s m ≡ instruction_step s m
  unfolding is_stopped is_halted is_on dispatch_due_of
  stage_quiet r o = stage_insn (rw r) (rw o) (rw r)

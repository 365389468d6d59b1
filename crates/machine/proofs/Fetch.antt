-- The instruction at PC as the code fetches it: what its bytes decode to, and the two ends of rule 3, where IME is settled before the
-- instruction.
-- Assumes nothing.
use mathlib.Core.Logic.{◌≢◌}
use mathlib.Core.Path.{◌≡◌}
use borrow.Author.Tests.{ne_eqb}
use Rattle.arith.specs.Refusals.{order}
use Rattle.arith.specs.Words.{further}
use Rattle.insn.specs.Shapes.{shape_of, shaped_of, decoded_of}
use Rattle.insn.specs.declared.Decoded.{Decoded}
use Rattle.insn.proofs.Laws.{undefined_is}
use Rattle.machine.specs.Execute.{exec_of}
use Rattle.machine.specs.State.{with_ime}
use Rattle.machine.specs.Memory.{Memory, byte_at, word_at}
use Rattle.machine.specs.Step.{refusing, accepting, next_rest, next_insn, next_after, ready_of, end_of, SettledBy, instruction_step}
use Rattle.machine.specs.declared.Ime.{Ime}
use Rattle.machine.specs.declared.Ime.TheVariants.{Off}
use Rattle.machine.specs.declared.Cpu.{Cpu}

module _ (s : Cpu) (m : Memory) (d : Decoded)
    (read : d ≡ decoded_of (byte_at m s.pc) (byte_at m (next_rest s)) (word_at m (next_rest s))) where
  shaped : d ≡ shaped_of (next_insn s m)
  unfolding decoded_of next_insn
  shaped = read

  insn_told : d.insn ≡ next_insn s m
  unfolding shaped_of
  insn_told = rw shaped

  pub cycles_told : d.cycles ≡ (shape_of d.insn).cycles
  unfolding shaped_of
  cycles_told = rw shaped

  more_told : further d.more (next_rest s) ≡ next_after s m
  unfolding shaped_of next_after
  more_told = rw shaped

  pub undefined_here : d.cycles ≡ 0 → instruction_step s m ≡ refusing 4 s m
  unfolding order
  undefined_here e = rw (← insn_told, undefined_is, ← cycles_told, e)

  pub runs_here : (ime : Ime) → SettledBy ime s m → d.cycles ≢ 0
      → instruction_step s m
      ≡ accepting (end_of d.cycles Off (exec_of s.pc d.insn (with_ime ime (ready_of (further d.more (next_rest s)) s)) m)) m
  unfolding order
  runs_here ime e ne =
      rw (e, ← insn_told, undefined_is, ← cycles_told, ← more_told, ne_eqb d.cycles 0 ne)

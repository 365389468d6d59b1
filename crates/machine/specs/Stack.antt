-- The stack: what a push, a call and a return do. Document 01, "One step"; PUSH, CALL and RET of the instruction reference.
-- Assumes nothing.
use Rattle.std.specs.Prelude.{ℕ, [], ◌∷◌}
use Rattle.arith.specs.Words.{high_of, low_of, further, back}
use Rattle.machine.specs.Memory.{Store, store}
use Rattle.machine.specs.Answers.{Storing, storing}
use Rattle.machine.specs.State.{with_sp, with_pc}
use Rattle.machine.specs.declared.Cpu.{Cpu}

-- the two bytes of a word that is pushed: the high byte one below SP, the low byte one below that
abbrev pub high_below : ℕ → ℕ → Store
high_below sp w = store (back 1 sp) (high_of w)

abbrev pub low_below : ℕ → ℕ → Store
low_below sp w = store (back 2 sp) (low_of w)

-- a word pushed: the high byte, then the low byte, and SP two back
unfoldable pub pushed_of : ℕ → Cpu → Storing Cpu
pushed_of w s = storing (with_sp (back 2 s.sp) s) (high_below s.sp w ∷ low_below s.sp w ∷ [])

-- a return to a word that lies on the stack
unfoldable pub returned_to : ℕ → Cpu → Cpu
returned_to w s = with_pc w (with_sp (further 2 s.sp) s)

-- a call: the address after is pushed, and PC is the target
unfoldable pub called_of : ℕ → Cpu → Storing Cpu
called_of to s = pushed_of s.pc (with_pc to s)

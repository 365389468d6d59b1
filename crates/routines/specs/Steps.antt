-- Several steps in a row: the cycles add up, and a refused step is the last.
-- Assumes nothing.
use Rattle.std.specs.Prelude.{ℕ, zero, suc, ◌+◌}
use Rattle.machine.specs.Answers.{With}
use Rattle.machine.specs.Memory.{Memory}
use Rattle.machine.specs.Step.{Stepped, stepped, step_of}
use Rattle.machine.specs.declared.Cpu.{Cpu}

-- a step's answer, with the cycles k of the steps before it
unfoldable pub dearer : ℕ → With Stepped → With Stepped
dearer k w = stepped w.out.code (k + w.out.cycles) w.out.cpu w.mem

-- one step more, unless the last was refused: the first number is its code
unfoldable pub one_more : ℕ → With Stepped → With Stepped
one_more zero w = dearer w.out.cycles (step_of w.out.cpu w.mem)
one_more (suc code) w = w

unfoldable pub more_steps : ℕ → With Stepped → With Stepped
more_steps zero w = w
more_steps (suc k) w = more_steps k (one_more w.out.code w)

-- k steps in a row. Its code is 0 exactly if none of them is refused
unfoldable pub after_steps : ℕ → Cpu → Memory → With Stepped
after_steps k s m = more_steps k (stepped 0 0 s m)

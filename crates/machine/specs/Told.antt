-- What the code's answers are in the definition's words: a number for each refusal, and 0 where nothing was refused.
-- Document 01, "Refusal numbers".
-- Assumes nothing.
use Rattle.std.specs.Prelude.{ℕ, Option, None, Some, Result, Ok, Err}
use Rattle.arith.specs.Numbers.{number_of}
use Rattle.arith.specs.declared.Refusal.{Refusal}
use Rattle.machine.specs.Step.{Stepped}
use Rattle.machine.specs.Run.{Ran}
use Rattle.machine.specs.declared.Cpu.{Cpu}
use Rattle.machine.specs.declared.Taken.{Taken}
use Rattle.machine.specs.declared.Stepped as inner
use Rattle.machine.specs.declared.Ran as answered

-- a step from the state s: where it is refused it has no cycles and leaves s
abbrev pub told_step : Cpu → Result Taken Refusal → Stepped
told_step s (Ok t) = record { code = 0; cycles = t.cycles; cpu = t.cpu }
told_step s (Err r) = record { code = number_of r; cycles = 0; cpu = s }

abbrev pub number_if : Option Refusal → ℕ
number_if None = 0
number_if (Some r) = number_of r

abbrev pub told_run : answered.Ran → Ran
told_run r = record { code = number_if r.refusal; spent = r.spent; steps = r.steps; cpu = r.cpu }

-- and of a step inside a run
abbrev pub told_due : inner.Stepped → Stepped
told_due r = record { code = number_if r.refusal; cycles = r.cycles; cpu = r.cpu }

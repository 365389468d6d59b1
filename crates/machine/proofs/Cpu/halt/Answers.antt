-- `halt` meets its contract.
use borrow.Author.Tests.{eq-eqb, ne_eqb}
use Rattle.machine.specs.Execute.{halted_by, halted_of}
use Rattle.machine.specs.Step.{ready_of}
use Rattle.machine.proofs.Cpu.halt.Goals as goal

pub returns-then-pending-eq0 : goal.returns-then-pending-eq0
unfolding halted_by halted_of ready_of
returns-then-pending-eq0 c = simp (c.with_mode.ensures, ← c.pending.ensures, eq-eqb _ _ c.if-pending-eq0.true)

pub returns-in-Off : goal.returns-in-Off
unfolding halted_by halted_of ready_of
returns-in-Off c = simp (c.with_mode-in-Off.ensures, ← c.pending.ensures, ne_eqb _ _ c.if-pending-eq0.false, c.in-Off.is)

pub returns-in-Arming : goal.returns-in-Arming
unfolding halted_by halted_of ready_of
returns-in-Arming c = simp (c.ready.ensures, ← c.pending.ensures, ne_eqb _ _ c.if-pending-eq0.false, c.in-Arming.is)

pub returns-in-On : goal.returns-in-On
unfolding halted_by halted_of ready_of
returns-in-On c = simp (c.with_mode-in-On.ensures, ← c.pending.ensures, ne_eqb _ _ c.if-pending-eq0.false, c.in-On.is)

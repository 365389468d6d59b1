-- `settled_before` meets its contract.
use Rattle.std.proofs.Common.{false, inl, inr}
use borrow.Author.Tests.{eq-eqb, ne_eqb}
use mathlib.Core.Bool.{and-false}
use Rattle.machine.proofs.Halt.{Looks, looks_first, settles_first}
use Rattle.machine.proofs.Cpu.settled_before.Goals as goal

pub returns-then-halts : goal.returns-then-halts
returns-then-halts c =
    let a = c.args in
    looks_first a.self a.mem.now
    (rw (← c.requires.p_value, ← c.read-halts.ensures, ne_eqb _ _ c.if-pending.true, eq-eqb _ _ c.if-halts.true))

pub returns-else-pending : goal.returns-else-pending
returns-else-pending c =
    let a = c.args in
    let none : Looks a.self a.mem.now false =
    elim c.else-pending.either [
      | inl e ↦ rw (← c.read-halts.ensures, ne_eqb _ _ e.1, and-false)
      | inr e ↦ rw (← c.requires.p_value, e)
    ]
    in
    rw c.settled.ensures (settles_first a.self a.mem.now none)

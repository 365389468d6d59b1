-- `due_step` meets its contract: the idle step, refusal 3, the dispatch and the instruction, each under its tests.
use mathlib.Core.Bool.{true, false, ◌&&◌}
use mathlib.Core.Logic.{◌≢◌, ◌⊎◌, inl, inr}
use mathlib.Core.Path.{◌≡◌, sym, ◌∙◌}
use Rattle.std.specs.Prelude.{ℕ, Bool}
use borrow.Author.Tests.{ne_eqb}
use lib.Dec.{eqb}
use Rattle.machine.specs.Interrupts.{pending_of, dispatch_due_of}
use Rattle.machine.specs.Modes.{is_halted}
use Rattle.machine.specs.Step.{next_rest, SettledBy, instruction_step, due_step}
use Rattle.machine.proofs.Arming.{being, quiet_settled}
use Rattle.machine.proofs.Gives.{exactly}
use Rattle.machine.proofs.Same.{halted_same, stopped_same, is_running, is_off}
use Rattle.machine.proofs.Stages.{stage_stopped, stage_dispatch, stage_idle, stage_insn, quiet_rest, stage_quiet}
use Rattle.machine.proofs.Cpu.due_step.Goals as goal
use Rattle.machine.proofs.Cpu.due_step.Goals.{then-ne+else-eq+else-eq-2+else-dispatch_due, else-ne+else-ne-2}

not_idle : (h : Bool) (p : ℕ) → ((h ≡ true) × (p ≢ 0)) ⊎ (h ≡ false) → (h && eqb p 0) ≡ false
not_idle h p (inl e) = rw (e.0, ne_eqb p 0 e.1)
not_idle h p (inr e) = rw e

pub returns-then-p-eq0 : goal.returns-then-p-eq0
returns-then-p-eq0 c =
    let a = c.args in
    let idle : (is_halted a.self.mode && eqb (pending_of a.mem.now) 0) ≡ true =
    rw (← halted_same a.self.mode, ← c.eq.ensures, c.if-eq.true, ← c.pending-p.ensures, c.if-p-eq0.true)
    in
    rw (stage_idle a.self a.mem.now idle) exactly

pub returns-then-eq-2 : goal.returns-then-eq-2
returns-then-eq-2 c =
    let a = c.args in
    rw (stage_stopped a.self a.mem.now (sym (stopped_same a.self.mode) ∙ sym c.eq-then-ne.ensures ∙ c.if-eq-2.true), c.refuse.ensures) exactly

pub returns-then-dispatch_due : goal.returns-then-dispatch_due
returns-then-dispatch_due c =
    let a = c.args in
    let due : dispatch_due_of a.self.ime (pending_of a.mem.now) ≡ true =
    rw (← c.pending-p.ensures) (sym c.dispatch_due.ensures ∙ c.if-dispatch_due.true) in
    rw (
      stage_dispatch a.self a.mem.now (sym (stopped_same a.self.mode) ∙ sym c.eq-then-ne.ensures ∙ c.if-eq-2.false) due,
      c.dispatch.ensures.answers,
      c.dispatch.ensures.leaves,
    )
    exactly

pub instruction_step-requires-clause-rest_value : goal.instruction_step-requires-clause-rest_value
unfolding next_rest
instruction_step-requires-clause-rest_value c =
    let a = c.args in
    elim c.if-ne.branch [
      | then-ne+else-eq+else-eq-2+else-dispatch_due w ↦ w.rest-is ∙ w.past_first-rest.ensures
      | else-ne+else-ne-2 w ↦
          w.rest-is ∙ c.further-rest.ensures ∙ quiet_rest a.self a.mem.now (is_running a.self.mode (sym c.ne.ensures ∙ w.if-ne.false))
    ]

pub instruction_step-requires-clause-settled_by : goal.instruction_step-requires-clause-settled_by
instruction_step-requires-clause-settled_by c =
    let a = c.args in
    elim c.if-ne.branch [
      | then-ne+else-eq+else-eq-2+else-dispatch_due w ↦ being (λ u. SettledBy u a.self a.mem.now) w.ime-is w.settled_before-ime.ensures
      | else-ne+else-ne-2 w ↦
          quiet_settled a.self a.mem.now w.ime-is (is_off a.self.ime (sym w.ne-else-ne.ensures ∙ w.if-ne-2.false))
    ]

pub returns : goal.returns
returns c =
    let a = c.args in
    let e : due_step a.self a.mem.now ≡ instruction_step a.self a.mem.now =
    elim c.if-ne.branch [
      | then-ne+else-eq+else-eq-2+else-dispatch_due w ↦
          let idle = not_idle w.eq.result w.pending-p.result w.else-eq.either in
          stage_insn a.self a.mem.now (sym (stopped_same a.self.mode) ∙ sym w.eq-then-ne.ensures ∙ w.if-eq-2.false)
          (rw (← w.pending-p.ensures) (sym w.dispatch_due.ensures ∙ w.if-dispatch_due.false))
          (rw (← w.pending-p.ensures, ← halted_same a.self.mode, ← w.eq.ensures) idle)
      | else-ne+else-ne-2 w ↦
          stage_quiet a.self a.mem.now (is_running a.self.mode (sym c.ne.ensures ∙ w.if-ne.false))
          (is_off a.self.ime (sym w.ne-else-ne.ensures ∙ w.if-ne-2.false))
    ]
    in
    rw e c.instruction_step.ensures

-- `run_from` meets its contract.
use Rattle.std.proofs.Common.{◌≡◌, ◌≢◌, ◌≤◌, None, sym, ◌∙◌, ap, arith}
use Rattle.arith.proofs.Numbers.{number_some}
use Rattle.machine.specs.Answers.{Gives}
use Rattle.machine.specs.Memory.{Memory}
use Rattle.machine.specs.Step.{Stepped, due_step}
use Rattle.machine.specs.Told.{told_due}
use Rattle.machine.specs.declared.Cpu.{Cpu}
use Rattle.machine.specs.declared.Stepped as inner
use Rattle.machine.proofs.Costs.{due_paid}
use Rattle.machine.proofs.Gives.{exactly}
use Rattle.machine.proofs.Keeps.{due_low}
use Rattle.machine.proofs.Refused.{due_unmoved}
use Rattle.machine.proofs.Runs.{run_over, turn_taken, turn_refused}
use Rattle.machine.proofs.run.run_from.Goals as goal

-- a step that was taken, as the definition has it: its cycles are 1 to 6
module _ (s : Cpu) (m left : Memory) (t : inner.Stepped) (e : t.refusal ≡ None) (g : Gives (due_step s m) (told_due t) left) where
  taken : (due_step s m).out.code ≡ 0
  taken = sym (rw e at (ap (λ (w : Stepped). w.code) g.answers))

  cycles_told : t.cycles ≡ (due_step s m).out.cycles
  cycles_told = ap (λ (w : Stepped). w.cycles) g.answers

  most : t.cycles ≤ 6
  most = rw cycles_told (due_paid s m).most

  least : 1 ≤ t.cycles
  least = rw cycles_told ((due_paid s m).least taken)

pub returns-in-Some : goal.returns-in-Some
returns-in-Some c =
    let l = c.loop-spent in
    let g = c.due_step-next.ensures in
    let told = rw c.in-Some.is at (ap (λ (w : Stepped). w.code) g.answers) in
    let ne : (due_step l.cpu l.mem).out.code ≢ 0 = λ e. number_some c.in-Some.refusal (told ∙ e) in
    rw (
      ← l.invariant.4,
      turn_refused c.args.budget l.spent l.steps l.cpu l.mem l.invariant.0 l.invariant.1 c.loop-spent-test.true ne,
      g.leaves,
      (due_unmoved l.cpu l.mem).mem ne,
      told,
    )
    exactly

pub loop-spent-smaller : goal.loop-spent-smaller
loop-spent-smaller c = omega (arith, least c.loop-spent.cpu c.loop-spent.mem _ _ c.in-None.is c.due_step-next.ensures)

pub overflow_add-spent : goal.overflow_add-spent
overflow_add-spent c = omega (arith, most c.loop-spent.cpu c.loop-spent.mem _ _ c.in-None.is c.due_step-next.ensures)

pub loop-spent-preserved : goal.loop-spent-preserved
loop-spent-preserved c =
    let l = c.loop-spent in
    let g = c.due_step-next.ensures in
    let cpu = ap (λ (w : Stepped). w.cpu) g.answers in (
      omega arith,
      rw cpu (due_low l.cpu l.mem l.invariant.1),
      omega (arith, most l.cpu l.mem _ _ c.in-None.is g),
      omega (arith, least l.cpu l.mem _ _ c.in-None.is g),
      rw (cpu, c.from-spent.ensures, cycles_told l.cpu l.mem _ _ c.in-None.is g, g.leaves)
          (sym
          (turn_taken c.args.budget l.spent l.steps l.cpu l.mem l.invariant.0 l.invariant.1 c.loop-spent-test.true
          (taken l.cpu l.mem _ _ c.in-None.is g))
          ∙ l.invariant.4),
    )

pub returns : goal.returns
returns c =
    let l = c.loop-spent in
    rw (← l.invariant.4, run_over c.args.budget l.spent l.steps l.cpu l.mem c.args.budget c.loop-spent-test.false) exactly

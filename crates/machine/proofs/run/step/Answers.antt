-- `step` meets its contract: refusals 1 and 2, then the run of budget 1, which is one step.
use Rattle.std.proofs.Common.{ℕ, ◌≡◌, ◌≢◌, ◌∙◌, sym, ap, arith}
use Rattle.arith.proofs.Numbers.{number_some}
use Rattle.machine.specs.Run.{Ran}
use Rattle.machine.specs.Step.{Stepped, step_of}
use Rattle.machine.specs.declared.Cpu.{Cpu}
use Rattle.machine.proofs.Costs.{step_paid}
use Rattle.machine.proofs.Gives.{exactly}
use Rattle.machine.proofs.Refused.{step_unmoved}
use Rattle.machine.proofs.Runs.{step_is_run}
use Rattle.machine.proofs.Stages.{stage_unfit, stage_flags}
use Rattle.machine.proofs.run.step.Goals as goal

-- a step is its three parts
whole : (w : Stepped) (n k : ℕ) (s : Cpu) → n ≡ w.code → k ≡ w.cycles → s ≡ w.cpu → record { code = n; cycles = k; cpu = s } ≡ w
whole w n k s code cycles cpu = rw (code, cycles, cpu)

pub returns-in_default : goal.returns-in_default
returns-in_default c =
    let a = c.args in
    rw (stage_unfit a.cpu a.mem.now c.in_default.ensures.cases) exactly

pub returns-then-cpu-ne0 : goal.returns-then-cpu-ne0
returns-then-cpu-ne0 c =
    let a = c.args in
    let long = c.in-Some.ensures.cases in
    rw (stage_flags a.cpu a.mem.now long.long c.if-cpu-ne0.true, long.same) exactly

pub overflow_cast-result : goal.overflow_cast-result
overflow_cast-result c =
    let a = c.args in
    let long = c.in-Some.ensures.cases in
    let r = rw (long.same, step_is_run a.cpu a.mem.now) at c.run_from-ran.ensures in
    omega (arith, ap (λ (w : Ran). w.spent) r.answers, (step_paid a.cpu a.mem.now).most)

pub returns-in-Some-refusal : goal.returns-in-Some-refusal
returns-in-Some-refusal c =
    let a = c.args in
    let long = c.in-Some.ensures.cases in
    let r = rw (long.same, step_is_run a.cpu a.mem.now) at c.run_from-ran.ensures in
    let told = rw c.in-Some-refusal.is at (ap (λ (w : Ran). w.code) r.answers) in
    let ne : (step_of a.cpu a.mem.now).out.code ≢ 0 = λ e. number_some c.in-Some-refusal.refusal (told ∙ e) in
    let u = step_unmoved a.cpu a.mem.now in
    record { answers = whole (step_of a.cpu a.mem.now).out _ _ _ told (sym (u.cycles ne)) (sym (u.cpu ne)); leaves = r.leaves }

pub returns-in-None : goal.returns-in-None
returns-in-None c =
    let a = c.args in
    let long = c.in-Some.ensures.cases in
    let r = rw (long.same, step_is_run a.cpu a.mem.now) at c.run_from-ran.ensures in
    let code = rw c.in-None.is at (ap (λ (w : Ran). w.code) r.answers) in
    let spent = ap (λ (w : Ran). w.spent) r.answers in
    let cpu = ap (λ (w : Ran). w.cpu) r.answers in
    record { answers = whole (step_of a.cpu a.mem.now).out _ _ _ code spent cpu; leaves = r.leaves }

-- `trnadulek_run` looks at the codes, takes the run and leaves the block of the state that it answers.
use mathlib.Core.Path.{refl, ap, ◌∙◌}
use Rattle.machine.specs.Run.{Ran}
use Rattle.saved.proofs.Told.{unread, was_read}
use Rattle.trnadulek.specs.Calls.{block_ran, run_if, run_block_of}
use Rattle.trnadulek.proofs.trnadulek_run.Goals as goal

pub returns-in-Ok : goal.returns-in-Ok
unfolding run_block_of run_if block_ran
returns-in-Ok c =
    let block = was_read c.args.state.now c.in-Ok.cpu c.in-Ok.ensures in
    let told = rw block.state at c.run-ran.ensures in
    let cpu = ap (λ (w : Ran). w.cpu) told.answers in
    rw block.codes
    (record {
      answers = c.number.ensures ∙ ap (λ (w : Ran). w.code) told.answers;
      leaves_state = rw (c.bytes_of.ensures, cpu);
      leaves_memory = told.leaves;
      leaves_spent = ap (λ (w : Ran). w.spent) told.answers;
      leaves_steps = ap (λ (w : Ran). w.steps) told.answers;
    })

pub returns-in-Err : goal.returns-in-Err
unfolding run_block_of run_if
returns-in-Err c =
    let block = unread c.args.state.now c.in-Err.refusal c.in-Err.ensures in
    rw block.codes
    (record {
      answers = c.from.ensures ∙ block.number;
      leaves_state = refl;
      leaves_memory = refl;
      leaves_spent = refl;
      leaves_steps = refl;
    })

-- `step` looks at the codes, takes the step and leaves the block of the state that it answers, which is the block that it was given
-- where the step is refused.
use mathlib.Core.Path.{refl, sym, ap}
use Rattle.std.proofs.lemmas.Result.{err_from_is_err_and}
use Rattle.digits.proofs.Places.{ByteList}
use Rattle.machine.specs.Step.{Stepped}
use Rattle.saved.proofs.Blocks.{block_back}
use Rattle.saved.proofs.Told.{unread, was_read}
use Rattle.trnadulek.specs.Calls.{block_stepped, step_if, step_block_of}
use Rattle.trnadulek.proofs.step.Goals as goal

pub returns-in_err-cpu : goal.returns-in_err-cpu
unfolding step_block_of step_if
returns-in_err-cpu c =
    let block = unread c.args.state.now c.in_err-cpu.field-0.0 c.in_err-cpu.ensures in
    let p = err_from_is_err_and c.from_residual.result c.from_residual.ensures.1 in
    rw (p.1, p.2, block.codes)
    (record { answers = block.number; leaves_state = refl; leaves_memory = refl; leaves_cycles = refl })

pub returns-in_err-taken : goal.returns-in_err-taken
unfolding step_block_of step_if block_stepped
returns-in_err-taken c =
    let block = was_read c.args.state.now c.in_ok-cpu.cpu c.in_ok-cpu.ensures in
    let told = rw block.state at c.in_err-taken.ensures in
    let cpu = ap (λ (w : Stepped). w.cpu) told.answers in
    let bytes : ByteList c.args.state.now = record { at = c.fits-state } in
    let back = block_back c.args.state.now c.told-state bytes block.codes in
    let p = err_from_is_err_and c.from_residual-in_err-taken.result c.from_residual-in_err-taken.ensures.1 in
    rw (p.1, p.2, block.codes)
    (record {
      answers = ap (λ (w : Stepped). w.code) told.answers;
      leaves_state = rw (← cpu) (sym back);
      leaves_memory = told.leaves;
      leaves_cycles = ap (λ (w : Stepped). w.cycles) told.answers;
    })

pub returns : goal.returns
unfolding step_block_of step_if block_stepped
returns c =
    let block = was_read c.args.state.now c.in_ok-cpu.cpu c.in_ok-cpu.ensures in
    let told = rw block.state at c.in_ok-taken.ensures in
    let cpu = ap (λ (w : Stepped). w.cpu) told.answers in
    rw block.codes
    (record {
      answers = ap (λ (w : Stepped). w.code) told.answers;
      leaves_state = rw (c.bytes_of.ensures, cpu);
      leaves_memory = told.leaves;
      leaves_cycles = ap (λ (w : Stepped). w.cycles) told.answers;
    })

-- `save_image` looks at the codes, and then saves the state that the block holds.
use mathlib.Core.Path.{refl}
use Rattle.std.proofs.lemmas.Result.{err_from_is_err_and}
use Rattle.saved.proofs.Told.{unread, was_read}
use Rattle.trnadulek.specs.Block.{saved_if, save_block_image_of}
use Rattle.trnadulek.proofs.save_image.Goals as goal

pub returns-in_err-cpu : goal.returns-in_err-cpu
unfolding save_block_image_of saved_if
returns-in_err-cpu c =
    let block = unread c.args.state.now c.in_err-cpu.field-0.0 c.in_err-cpu.ensures in
    let p = err_from_is_err_and c.from_residual.result c.from_residual.ensures.1 in
    rw (p.1, p.2, block.codes) (record { answers = block.number; leaves = refl })

pub returns : goal.returns
unfolding save_block_image_of saved_if
returns c =
    let block = was_read c.args.state.now c.in_ok-cpu.cpu c.in_ok-cpu.ensures in
    rw (block.codes, ← block.state) c.save_image.ensures

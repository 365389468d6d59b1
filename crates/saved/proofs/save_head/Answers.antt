-- `save_head` writes a whole head where nothing is refused.
use mathlib.Core.Path.{sym, ap, ◌∙◌}
use native.Mathlib.Omega.{arith}
use lib.ListN.{length}
use Rattle.std.proofs.lemmas.Result.{err_from_is_err_and}
use Rattle.saved.specs.Answers.{save_head_of}
use Rattle.saved.proofs.Accepted.{accepted_head_fits}
use Rattle.saved.proofs.Told.{unsaved, was_saved}
use Rattle.saved.proofs.Written.{head_length}
use Rattle.saved.proofs.save_head.Goals as goal

pub copy_from_slice-requires : goal.copy_from_slice-requires
copy_from_slice-requires c =
    let size = ap length c.bytes_of.ensures ∙ head_length c.args.cpu in
    omega (arith, size, (accepted_head_fits _ _ (sym c.in_ok-head_fits.ensures)).size_is)

pub returns-in_err-head_fits : goal.returns-in_err-head_fits
unfolding save_head_of
returns-in_err-head_fits c =
    let p = err_from_is_err_and c.from_residual.result c.from_residual.ensures.1 in
    rw (p.1, p.2) (unsaved c.in_err-head_fits.field-0.0 _ _ _ c.in_err-head_fits.ensures)

pub returns : goal.returns
unfolding save_head_of
returns c = was_saved _ _ _ _ (sym c.in_ok-head_fits.ensures) (c.copy_from_slice.ensures.after ∙ c.bytes_of.ensures)

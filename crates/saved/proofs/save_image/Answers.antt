-- `save_image` writes a whole image where nothing is refused: the head, then the memory into the part behind it.
use mathlib.Core.Path.{◌≡◌, sym, ap, ◌∙◌}
use native.Mathlib.Omega.{arith}
use borrow.Author.Rules.{rules}
use lib.ListN.{length, length-take}
use Rattle.std.specs.Prelude.{◌≤◌}
use Rattle.std.proofs.lemmas.Result.{err_from_is_err_and}
use Rattle.saved.specs.Answers.{save_image_of}
use Rattle.saved.proofs.Accepted.{accepted_image_fits}
use Rattle.saved.proofs.Told.{unsaved, was_saved}
use Rattle.saved.proofs.Written.{head_length, headed_by, behind_length, memory_written}
use Rattle.saved.proofs.save_image.Goals as goal

pub slice_bounds-copy_from_slice-end : goal.slice_bounds-copy_from_slice-end
slice_bounds-copy_from_slice-end c =
    omega (arith, (accepted_image_fits _ _ _ (sym c.in_ok-image_fits.ensures)).size_is)

pub slice_bounds-copy_from_slice-end-2 : goal.slice_bounds-copy_from_slice-end-2
slice_bounds-copy_from_slice-end-2 c =
    let right = accepted_image_fits _ _ _ (sym c.in_ok-image_fits.ensures) in
    let room : 23 ≤ length c.args.image.now = omega (arith, right.size_is) in search rules

pub copy_from_slice-requires : goal.copy_from_slice-requires
copy_from_slice-requires c =
    let right = accepted_image_fits _ _ _ (sym c.in_ok-image_fits.ensures) in
    let size : length c.bytes_of.result ≡ 23 = ap length c.bytes_of.ensures ∙ head_length c.args.cpu in
    rw (length-take, size) (omega (arith, right.size_is))

pub copy_from_slice-requires-2 : goal.copy_from_slice-requires-2
copy_from_slice-requires-2 c =
    let a = c.args in
    let right = accepted_image_fits _ _ _ (sym c.in_ok-image_fits.ensures) in
    let made = c.copy_from_slice.ensures.after ∙ c.bytes_of.ensures in
    rw (headed_by a.cpu _ a.image.now made, behind_length a.cpu a.mem.now a.image.now right.size_is right.memory_is)
    (omega (arith, right.memory_is))

pub returns-in_err-image_fits : goal.returns-in_err-image_fits
unfolding save_image_of
returns-in_err-image_fits c =
    let p = err_from_is_err_and c.from_residual.result c.from_residual.ensures.1 in
    rw (p.1, p.2) (unsaved c.in_err-image_fits.field-0.0 _ _ _ c.in_err-image_fits.ensures)

pub returns : goal.returns
unfolding save_image_of
returns c =
    let a = c.args in
    let right = accepted_image_fits _ _ _ (sym c.in_ok-image_fits.ensures) in
    let made = c.copy_from_slice.ensures.after ∙ c.bytes_of.ensures in
    was_saved _ _ _ _ (sym c.in_ok-image_fits.ensures)
    (rw (headed_by a.cpu _ a.image.now made, c.copy_from_slice-2.ensures.after)
    (memory_written a.cpu a.mem.now a.image.now right.size_is right.memory_is))

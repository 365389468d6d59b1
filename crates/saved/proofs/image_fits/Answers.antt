-- `image_fits` tests the length of the image, that of the memory, then F.
use borrow.Author.Tests.{eq-eqb, ne_eqb}
use Rattle.arith.specs.Refusals.{number_or, code_of}
use Rattle.saved.specs.Refusals.{save_image_refusals, save_image_code}
use Rattle.saved.proofs.image_fits.Goals as goal

pub returns-then-image-ne-IMAGE_SIZE : goal.returns-then-image-ne-IMAGE_SIZE
unfolding save_image_code save_image_refusals code_of number_or
returns-then-image-ne-IMAGE_SIZE c = rw (ne_eqb _ _ c.if-image-ne-IMAGE_SIZE.true)

pub returns-then-mem-ne-MEMORY_SIZE : goal.returns-then-mem-ne-MEMORY_SIZE
unfolding save_image_code save_image_refusals code_of number_or
returns-then-mem-ne-MEMORY_SIZE c = rw (eq-eqb _ _ c.if-image-ne-IMAGE_SIZE.false, ne_eqb _ _ c.if-mem-ne-MEMORY_SIZE.true)

pub returns : goal.returns
unfolding save_image_code save_image_refusals code_of number_or
returns c = rw (c.flags_fit.ensures, eq-eqb _ _ c.if-image-ne-IMAGE_SIZE.false, eq-eqb _ _ c.if-mem-ne-MEMORY_SIZE.false)

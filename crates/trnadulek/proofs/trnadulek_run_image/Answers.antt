-- `trnadulek_run_image` opens the image, takes the run in the part that is its memory, and writes the head of the state that it
-- answers before it.
use Prim.Native.Nat.{◌≤◌}
use mathlib.Core.Path.{◌≡◌, refl, sym}
use native.Mathlib.Omega.{arith}
use lib.ListN.{length}
use Rattle.std.specs.Prelude.{ℕ, List}
use Rattle.arith.proofs.Numbers.{number_some}
use Rattle.machine.specs.declared.Cpu.{Cpu}
use Rattle.saved.specs.Answers.{Loaded, open_of}
use Rattle.saved.specs.Head.{head_size, image_size}
use Rattle.trnadulek.proofs.Images.{no_run, image_run, size_is, front_length, head_room}
use Rattle.trnadulek.proofs.trnadulek_run_image.Goals as goal

-- the image that was opened is of the right length, so that there is room for its head
abbrev opened : Cpu → Loaded
opened s = record { code = 0; cpu = s }

size : (image : List ℕ) (s : Cpu) → opened s ≡ (open_of image).out → length image ≡ image_size
size image s e = size_is image (opened s) e refl

long : (image : List ℕ) (s : Cpu) → opened s ≡ (open_of image).out → head_size ≤ length image
long image s e = omega (arith, size image s e)

pub returns-in-Err : goal.returns-in-Err
returns-in-Err c = rw c.from.ensures (no_run _ _ c.in-Err.ensures _ (number_some c.in-Err.refusal))

pub slice_bounds-run-count : goal.slice_bounds-run-count
slice_bounds-run-count c = omega (arith, size _ c.in-Ok.cpu c.in-Ok.ensures)

pub slice_bounds-run-start : goal.slice_bounds-run-start
slice_bounds-run-start c = omega (arith, size _ c.in-Ok.cpu c.in-Ok.ensures)

pub slice_bounds-save_head-end : goal.slice_bounds-save_head-end
slice_bounds-save_head-end c = head_room c.args.image.now _ (long _ c.in-Ok.cpu c.in-Ok.ensures)

pub slice_bounds-save_head-end-2 : goal.slice_bounds-save_head-end-2
slice_bounds-save_head-end-2 c = sym (front_length c.args.image.now _ (long _ c.in-Ok.cpu c.in-Ok.ensures))

pub returns : goal.returns
returns c =
    rw c.number.ensures
    (image_run _ (opened c.in-Ok.cpu) c.in-Ok.ensures refl _ _ _ _ _ c.run-played.ensures c.save_head.ensures)

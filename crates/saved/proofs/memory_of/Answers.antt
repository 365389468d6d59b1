-- `memory_of` returns what follows the head where nothing is refused. That nothing is says how long the image is.
use borrow.Author.Rules.{part_to_end}
use mathlib.Core.Path.{◌≡◌, sym, ◌∙◌}
use native.Mathlib.Nat.{zero-add}
use native.Mathlib.Omega.{arith}
use lib.ListN.{length}
use Rattle.std.specs.Prelude.{ℕ, List}
use Rattle.arith.specs.Refusals.{unless_refused}
use Rattle.arith.proofs.Numbers.{number_some}
use Rattle.machine.specs.declared.Cpu.{Cpu}
use Rattle.saved.specs.Head.{head_size, image_size, memory_in}
use Rattle.saved.specs.Refusals.{load_code}
use Rattle.saved.specs.Answers.{open_of, load_of, loaded_by, memory_if, start_if}
use Rattle.saved.proofs.Accepted.{accepted_right}
use Rattle.saved.proofs.Refused.{refused_by_lem, refused_memory}
use Rattle.saved.proofs.Told.{load_done, load_refused}
use Rattle.saved.proofs.memory_of.Goals as goal

module _ (image : List ℕ) (s : Cpu) (e : record { code = 0; cpu = s } ≡ (open_of image).out) where
  accepted : load_code image_size image ≡ 0
  unfolding open_of load_of
  accepted = load_done s _ image e

  size : length image ≡ image_size
  size = (accepted_right _ _ accepted).size_is

pub slice_bounds-result-count : goal.slice_bounds-result-count
slice_bounds-result-count c = omega (arith, size _ c.in-Ok.field-0 c.in-Ok.ensures)

pub slice_bounds-result-start : goal.slice_bounds-result-start
slice_bounds-result-start c = omega (arith, size _ c.in-Ok.field-0 c.in-Ok.ensures)

pub returns-in-Ok : goal.returns-in-Ok
unfolding open_of load_of loaded_by memory_if memory_in start_if unless_refused
returns-in-Ok c =
    let e = accepted _ c.in-Ok.field-0 c.in-Ok.ensures in
    record { holds = rw e (part_to_end c.args.image.now head_size); lies = rw e }

pub returns-in-Err : goal.returns-in-Err
unfolding open_of load_of loaded_by start_if
returns-in-Err c =
    let code = load_refused c.in-Err.field-0 (load_code image_size c.args.image.now) c.args.image.now c.in-Err.ensures in
    let refused = λ (h : load_code image_size c.args.image.now ≡ 0). number_some c.in-Err.field-0 (sym code ∙ h) in
    record { holds = sym (refused_memory _ refused _); lies = rw (refused_by_lem _ _ _ refused, zero-add) }

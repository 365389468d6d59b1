-- Each exported function's promise, as it stands in the source, determines one answer and one content of everything that was lent
-- to be written, for every input, also where it refuses. A promise is what is read off the function's own `ensures`: `Post`.
-- Assumes nothing.
use Prim.Native.Nat.{ℕ}
use mathlib.Core.List.{List}
use Rattle.arith.proofs.Unique.{same, OneAnswer, OneOutcome}
use Rattle.machine.proofs.Unique.{gives_one}
use Rattle.trnadulek.proofs.trnadulek_step.Reads as step
use Rattle.trnadulek.proofs.trnadulek_run.Reads as run
use Rattle.trnadulek.proofs.trnadulek_run_image.Reads as run-image
use Rattle.trnadulek.proofs.trnadulek_load_head.Reads as load-head
use Rattle.trnadulek.proofs.trnadulek_save_head.Reads as save-head
use Rattle.trnadulek.proofs.trnadulek_open_image.Reads as open-image
use Rattle.trnadulek.proofs.trnadulek_save_image.Reads as save-image
use Rattle.trnadulek.proofs.trnadulek_assemble.Reads as assemble
use Rattle.trnadulek.proofs.trnadulek_list.Reads as list
use Rattle.trnadulek.proofs.trnadulek_length.Reads as length
use Rattle.trnadulek.proofs.trnadulek_untaken_cycles.Reads as untaken-cycles
use Rattle.trnadulek.proofs.trnadulek_size.Reads as size
use Rattle.trnadulek.proofs.trnadulek_version.Reads as version
use Rattle.trnadulek.proofs.trnadulek_words.Reads as words

-- a step: the answer, the state block, the memory, the cycles
pub trnadulek_step_unique : OneOutcome {S = List ℕ × (List ℕ × ℕ)} step.Post (λ κs e. (e.0.now, (e.1.0.now, e.1.1.0.now)))
trnadulek_step_unique _ _ _ _ _ _ p q =
    let state = same p.leaves_state q.leaves_state in
    let memory = same p.leaves_memory q.leaves_memory in
    let cycles = same p.leaves_cycles q.leaves_cycles in
    (same p.answers q.answers, λ i. (state i, (memory i, cycles i)))

-- a run: the answer, the state block, the memory, the cycles spent and the steps taken, which stand after the budget
pub trnadulek_run_unique : OneOutcome {S = List ℕ × (List ℕ × (ℕ × ℕ))} run.Post (λ κs e. (e.0.now, (e.1.0.now, (e.1.1.1.0.now, e.1.1.1.1.0.now))))
trnadulek_run_unique _ _ _ _ _ _ p q =
    let state = same p.leaves_state q.leaves_state in
    let memory = same p.leaves_memory q.leaves_memory in
    let spent = same p.leaves_spent q.leaves_spent in
    let steps = same p.leaves_steps q.leaves_steps in
    (same p.answers q.answers, λ i. (state i, (memory i, (spent i, steps i))))

-- a run of an image: the answer, the image, the cycles spent and the steps taken
pub trnadulek_run_image_unique : OneOutcome {S = List ℕ × (ℕ × ℕ)} run-image.Post (λ κs e. (e.0.now, (e.1.1.0.now, e.1.1.1.0.now)))
trnadulek_run_image_unique _ _ _ _ _ _ p q =
    let image = same p.leaves_image q.leaves_image in
    let spent = same p.leaves_spent q.leaves_spent in
    let steps = same p.leaves_steps q.leaves_steps in
    (same p.answers q.answers, λ i. (image i, (spent i, steps i)))

-- a load, a save, words: the answer, and the block, head, image or slice that is written
pub trnadulek_load_head_unique : OneOutcome load-head.Post (λ κs e. e.1.0.now)
trnadulek_load_head_unique _ _ _ _ _ _ = gives_one

pub trnadulek_save_head_unique : OneOutcome save-head.Post (λ κs e. e.1.0.now)
trnadulek_save_head_unique _ _ _ _ _ _ = gives_one

pub trnadulek_open_image_unique : OneOutcome open-image.Post (λ κs e. e.1.0.now)
trnadulek_open_image_unique _ _ _ _ _ _ = gives_one

pub trnadulek_save_image_unique : OneOutcome save-image.Post (λ κs e. e.1.1.0.now)
trnadulek_save_image_unique _ _ _ _ _ _ = gives_one

pub trnadulek_words_unique : OneOutcome words.Post (λ κs e. e.1.0.now)
trnadulek_words_unique _ _ _ _ _ _ = gives_one

-- a listing: the answer, the output and the length, which stand after the part, its address and the edition
pub trnadulek_list_unique : OneOutcome {S = List ℕ × ℕ} list.Post (λ κs e. (e.1.1.1.0.now, e.1.1.1.1.0.now))
trnadulek_list_unique _ _ _ _ _ _ p q =
    let out = same p.leaves_out q.leaves_out in
    let length = same p.leaves_length q.leaves_length in
    (same p.answers q.answers, λ i. (out i, length i))

-- an assembly: the answer, the output, the line at fault and the length, which stand after the text and its address
pub trnadulek_assemble_unique : OneOutcome {S = List ℕ × (ℕ × ℕ)} assemble.Post (λ κs e. (e.1.1.0.now, (e.1.1.1.0.now, e.1.1.1.1.0.now)))
trnadulek_assemble_unique _ _ _ _ _ _ p q =
    let out = same p.leaves_out q.leaves_out in
    let line = same p.leaves_line q.leaves_line in
    let length = same p.leaves_length q.leaves_length in
    (same p.answers q.answers, λ i. (out i, (line i, length i)))

-- a question: the answer
pub trnadulek_length_unique : OneAnswer length.Post
trnadulek_length_unique _ _ _ _ _ _ = same

pub trnadulek_untaken_cycles_unique : OneAnswer untaken-cycles.Post
trnadulek_untaken_cycles_unique _ _ _ _ _ _ = same

pub trnadulek_size_unique : OneAnswer size.Post
trnadulek_size_unique _ _ _ _ _ _ = same

pub trnadulek_version_unique : OneAnswer version.Post
trnadulek_version_unique _ _ _ _ _ _ = same

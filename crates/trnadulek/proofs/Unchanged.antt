-- What a refusal leaves. A step that is refused changes nothing, and so does a run that is refused by anything but a step, of a
-- block and of an image. A load that is refused leaves a block of zeros, and a save what was there. Document 01, "Refusal numbers".
-- Assumes nothing.
use Prim.Native.Nat.{ℕ, zero, suc, ◌%◌}
use mathlib.Core.Bool.{Bool, true, false}
use mathlib.Core.List.{List}
use mathlib.Core.Logic.{◌≢◌}
use mathlib.Core.Path.{◌≡◌, refl, ap}
use native.Mathlib.Omega.{arith}
use lib.Dec.{eqb, leb}
use lib.ListN.{length, replicate}
use borrow.Author.Tests.{eqb-true, eqb-false, leb-true, leb-false}
use Rattle.machine.specs.Answers.{With}
use Rattle.machine.specs.Memory.{memory_size}
use Rattle.machine.specs.Run.{largest_budget, ending, run_of}
use Rattle.machine.specs.declared.Cpu.{Cpu}
use Rattle.machine.proofs.Refused.{step_unmoved}
use Rattle.machine.proofs.Runs.{Valid, run_unfit, run_flags, run_budget, run_valid, run_code}
use Rattle.arith.specs.Refusals.{unless_refused}
use Rattle.arith.specs.Words.{high_of, low_of}
use Rattle.saved.specs.Codes.{ime_code, mode_code}
use Rattle.saved.specs.Block.{block_size, block_of, held_in, has_codes, cleared_state}
use Rattle.saved.specs.Head.{head_size, image_size, image_of, state_in, memory_in}
use Rattle.saved.specs.Refusals.{Accepted, load_code}
use Rattle.saved.specs.Answers.{state_if, memory_if, load_of, loaded_by, load_head_of, open_of, left_by, saved_by, save_head_of, save_image_of}
use Rattle.saved.proofs.Accepted.{accepted_right}
use Rattle.digits.proofs.Places.{ByteList}
use Rattle.saved.proofs.Blocks.{block_back}
use Rattle.saved.proofs.Refused.{refused_state, refused_left}
use Rattle.saved.proofs.RoundTrip.{saved_as_opened}
use Rattle.trnadulek.specs.Block.{block_loaded, load_block_of, open_block_of, saved_if, save_block_of, save_block_image_of}
use Rattle.trnadulek.specs.Calls.{BlockStep, block_stepped, step_if, step_block_of, BlockRun, block_ran, run_if, run_block_of, ImageRun, image_ran, run_image_if, run_image_of}

-- a run that a step did not end: refused by 1, 2 or 5, it answers what it was given
record NotBegun (b : ℕ) (s : Cpu) (m : List ℕ) : Type 0 where
  pub number : ℕ
  pub is : run_of b s m ≡ ending number 0 0 s m

module _ (b : ℕ) (s : Cpu) (m : List ℕ) where
  by_tests : (l f p : Bool) → eqb (length m) memory_size ≡ l → eqb (s.f % 16) 0 ≡ f → leb b largest_budget ≡ p
      → (run_of b s m).out.code ≢ 0 → (run_of b s m).out.code ≢ 3 → (run_of b s m).out.code ≢ 4 → NotBegun b s m
  by_tests false f p l g q n0 n3 n4 = record { number = 1; is = run_unfit b s m (eqb-false _ _ l) }
  by_tests true false p l g q n0 n3 n4 = record { number = 2; is = run_flags b s m (eqb-true _ _ l) (eqb-false _ _ g) }
  by_tests true true false l g q n0 n3 n4 =
      record { number = 5; is = run_budget b s m (eqb-true _ _ l) (eqb-true _ _ g) (leb-false _ _ q) }
  by_tests true true true l g q n0 n3 n4 =
      let valid : Valid s m = record { long = eqb-true _ _ l; low = eqb-true _ _ g } in
      let is = run_valid b s m valid.long valid.low (leb-true _ _ q) in
      let told = run_code b b 0 0 s m valid in
      let most = rw (← is) at told.1 in
      let least = rw (← is) at told.0 in
      absurd (omega (arith, least n0, most, n3, n4))

  not_begun : (run_of b s m).out.code ≢ 0 → (run_of b s m).out.code ≢ 3 → (run_of b s m).out.code ≢ 4 → NotBegun b s m
  not_begun n0 n3 n4 = by_tests _ _ _ refl refl refl n0 n3 n4

-- a step

pub record StepLeaves (b m : List ℕ) (w : BlockStep) : Type 0 where
  pub state : w.state ≡ b
  pub memory : w.memory ≡ m
  pub cycles : w.cycles ≡ 0

module _ (b m : List ℕ) (size : length b ≡ block_size) (bytes : ByteList b) where
  step_by : (t : Bool) → has_codes b ≡ t → (step_if t b m).code ≢ 0 → StepLeaves b m (step_if t b m)
  unfolding step_if block_stepped
  step_by true codes refused =
      let unmoved = step_unmoved (held_in b) m in
      record {
        state = rw (unmoved.cpu refused) (block_back b size bytes codes);
        memory = unmoved.mem refused;
        cycles = unmoved.cycles refused;
      }
  step_by false codes refused = record { state = refl; memory = refl; cycles = refl }

  pub step_unchanged : (step_block_of b m).code ≢ 0 → StepLeaves b m (step_block_of b m)
  unfolding step_block_of
  step_unchanged refused = step_by (has_codes b) refl refused

-- a run: 9, 1, 2 and 5; 3 and 4 are those of a step

pub record RunLeaves (b m : List ℕ) (w : BlockRun) : Type 0 where
  pub state : w.state ≡ b
  pub memory : w.memory ≡ m
  pub spent : w.spent ≡ 0
  pub steps : w.steps ≡ 0

module _ (budget : ℕ) (b m : List ℕ) (size : length b ≡ block_size) (bytes : ByteList b) where
  run_by : (t : Bool) → has_codes b ≡ t → (run_if t budget b m).code ≢ 0 → (run_if t budget b m).code ≢ 3
      → (run_if t budget b m).code ≢ 4 → RunLeaves b m (run_if t budget b m)
  unfolding run_if block_ran
  run_by true codes n0 n3 n4 =
      let told = not_begun budget (held_in b) m n0 n3 n4 in
      rw told.is (record { state = block_back b size bytes codes; memory = refl; spent = refl; steps = refl })
  run_by false codes n0 n3 n4 = record { state = refl; memory = refl; spent = refl; steps = refl }

  pub run_unchanged : (run_block_of budget b m).code ≢ 0 → (run_block_of budget b m).code ≢ 3 → (run_block_of budget b m).code ≢ 4
      → RunLeaves b m (run_block_of budget b m)
  unfolding run_block_of
  run_unchanged n0 n3 n4 = run_by (has_codes b) refl n0 n3 n4

-- a run of an image

pub record ImageLeaves (image : List ℕ) (w : ImageRun) : Type 0 where
  pub image_is : w.image ≡ image
  pub spent : w.spent ≡ 0
  pub steps : w.steps ≡ 0

-- the image of the state and the memory in an image that opens is that image
same_image : (image : List ℕ) → ByteList image → Accepted (load_code image_size image) → image_of (state_in image) (memory_in image) ≡ image
unfolding open_of load_of loaded_by state_if memory_if save_image_of saved_by left_by unless_refused
same_image image bytes accepted =
    let whole = rw accepted at (saved_as_opened image image bytes accepted (accepted_right image_size image accepted).size_is) in
    let written = ap (λ (w : With ℕ). w.out) whole in
    rw written at (ap (λ (w : With ℕ). w.mem) whole)

module _ (budget : ℕ) (image : List ℕ) (bytes : ByteList image) where
  image_by : (n : ℕ) → load_code image_size image ≡ n → (run_image_if n budget image).code ≢ 0 → (run_image_if n budget image).code ≢ 3
      → (run_image_if n budget image).code ≢ 4 → ImageLeaves image (run_image_if n budget image)
  unfolding run_image_if image_ran unless_refused
  image_by zero opens n0 n3 n4 =
      let told = not_begun budget (state_in image) (memory_in image) n0 n3 n4 in
      rw told.is (record { image_is = same_image image bytes opens; spent = refl; steps = refl })
  image_by (suc n) opens n0 n3 n4 = record { image_is = refl; spent = refl; steps = refl }

  pub image_unchanged : (run_image_of budget image).code ≢ 0 → (run_image_of budget image).code ≢ 3
      → (run_image_of budget image).code ≢ 4 → ImageLeaves image (run_image_of budget image)
  unfolding run_image_of
  image_unchanged n0 n3 n4 = image_by (load_code image_size image) refl n0 n3 n4

-- loads

pub zeros : block_of cleared_state ≡ replicate block_size 0
unfolding cleared_state block_of high_of low_of ime_code mode_code
zeros = refl

load_zeros : (size : ℕ) (h : List ℕ) → (load_of size h).code ≢ 0 → block_of (load_of size h).cpu ≡ replicate block_size 0
unfolding load_of loaded_by
load_zeros size h refused = rw (refused_state (load_code size h) refused) zeros

pub load_refused : (h : List ℕ) → (load_block_of h).out ≢ 0 → (load_block_of h).mem ≡ replicate block_size 0
unfolding load_block_of block_loaded load_head_of
load_refused h refused = load_zeros head_size h refused

pub open_refused : (image : List ℕ) → (open_block_of image).out ≢ 0 → (open_block_of image).mem ≡ replicate block_size 0
unfolding open_block_of block_loaded open_of
open_refused image refused = load_zeros _ image refused

-- saves

unsaved : (t : Bool) (w : With ℕ) (old : List ℕ) → (w.out ≢ 0 → w.mem ≡ old) → (saved_if t w old).out ≢ 0
    → (saved_if t w old).mem ≡ old
unfolding saved_if
unsaved true w old kept refused = kept refused
unsaved false w old kept refused = refl

pub save_refused : (b h : List ℕ) → (save_block_of b h).out ≢ 0 → (save_block_of b h).mem ≡ h
unfolding save_block_of save_head_of saved_by
save_refused b h refused = unsaved (has_codes b) _ h (λ p. refused_left _ p _ h) refused

pub save_image_refused : (b m image : List ℕ) → (save_block_image_of b m image).out ≢ 0 → (save_block_image_of b m image).mem ≡ image
unfolding save_block_image_of save_image_of saved_by
save_image_refused b m image refused = unsaved (has_codes b) _ image (λ p. refused_left _ p _ image) refused

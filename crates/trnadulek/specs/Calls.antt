-- A step and a run of the state in a block, a run of an image where it lies, a listing and an assembly: the answer, and what is left in
-- everything that was lent. Document 01, "Refusal numbers" and "Runs and counts"; document 02, M-101 to M-103.
-- Assumes nothing.
use Rattle.std.specs.Prelude.{ℕ, Bool, true, false, List, ◌≡◌}
use Rattle.arith.specs.Refusals.{unless_refused}
use Rattle.assembler.specs.Text as assembler
use Rattle.listing.specs.Answer.{Answer}
use Rattle.machine.specs.Memory.{Memory}
use Rattle.machine.specs.Answers.{With}
use Rattle.machine.specs.Step.{Stepped, step_of}
use Rattle.machine.specs.Run.{Ran, run_of}
use Rattle.saved.specs.Block.{block_of, held_in, has_codes}
use Rattle.saved.specs.Head.{image_size, image_of, state_in, memory_in}
use Rattle.saved.specs.Refusals.{load_code}

-- a step: its number, the state block, the memory and the cycles
pub record BlockStep : Type 0 where
  pub code : ℕ
  pub state : List ℕ
  pub memory : Memory
  pub cycles : ℕ

pub record StepGives (w : BlockStep) (code : ℕ) (state : List ℕ) (memory : Memory) (cycles : ℕ) : Type 0 where
  pub answers : code ≡ w.code
  pub leaves_state : state ≡ w.state
  pub leaves_memory : memory ≡ w.memory
  pub leaves_cycles : cycles ≡ w.cycles

-- a step leaves the block of the state that it answers, which is the state given where it was refused
unfoldable pub block_stepped : With Stepped → BlockStep
block_stepped w = record { code = w.out.code; state = block_of w.out.cpu; memory = w.mem; cycles = w.out.cycles }

-- 9 comes first: a block whose codes stand for nothing holds no state, and nothing changes
unfoldable pub step_if : Bool → List ℕ → Memory → BlockStep
step_if true b m = block_stepped (step_of (held_in b) m)
step_if false b m = record { code = 9; state = b; memory = m; cycles = 0 }

unfoldable pub step_block_of : List ℕ → Memory → BlockStep
step_block_of b m = step_if (has_codes b) b m

-- a run: its number, the state block, the memory, the cycles spent and the steps taken
pub record BlockRun : Type 0 where
  pub code : ℕ
  pub state : List ℕ
  pub memory : Memory
  pub spent : ℕ
  pub steps : ℕ

pub record RunGives (w : BlockRun) (code : ℕ) (state : List ℕ) (memory : Memory) (spent steps : ℕ) : Type 0 where
  pub answers : code ≡ w.code
  pub leaves_state : state ≡ w.state
  pub leaves_memory : memory ≡ w.memory
  pub leaves_spent : spent ≡ w.spent
  pub leaves_steps : steps ≡ w.steps

unfoldable pub block_ran : With Ran → BlockRun
block_ran w =
    record {
      code = w.out.code;
      state = block_of w.out.cpu;
      memory = w.mem;
      spent = w.out.spent;
      steps = w.out.steps;
    }

unfoldable pub run_if : Bool → ℕ → List ℕ → Memory → BlockRun
run_if true budget b m = block_ran (run_of budget (held_in b) m)
run_if false budget b m = record { code = 9; state = b; memory = m; spent = 0; steps = 0 }

unfoldable pub run_block_of : ℕ → List ℕ → Memory → BlockRun
run_block_of budget b m = run_if (has_codes b) budget b m

-- a run of an image: its number, the image, the cycles spent and the steps taken
pub record ImageRun : Type 0 where
  pub code : ℕ
  pub image : List ℕ
  pub spent : ℕ
  pub steps : ℕ

pub record ImageGives (w : ImageRun) (code : ℕ) (image : List ℕ) (spent steps : ℕ) : Type 0 where
  pub answers : code ≡ w.code
  pub leaves_image : image ≡ w.image
  pub leaves_spent : spent ≡ w.spent
  pub leaves_steps : steps ≡ w.steps

-- head and memory are always those of one state: the image of what the run answers
unfoldable pub image_ran : With Ran → ImageRun
image_ran w =
    record {
      code = w.out.code;
      image = image_of w.out.cpu w.mem;
      spent = w.out.spent;
      steps = w.out.steps;
    }

-- an image that does not open changes in nothing
unfoldable pub run_image_if : ℕ → ℕ → List ℕ → ImageRun
run_image_if code budget image =
    unless_refused code (λ _. image_ran (run_of budget (state_in image) (memory_in image)))
    (λ n. record { code = n; image = image; spent = 0; steps = 0 })

unfoldable pub run_image_of : ℕ → List ℕ → ImageRun
run_image_of budget image = run_image_if (load_code image_size image) budget image

-- a listing: its number, the output and the length written
pub record ListGives (a : Answer) (code : ℕ) (out : List ℕ) (length : ℕ) : Type 0 where
  pub answers : code ≡ a.listed.code
  pub leaves_out : out ≡ a.out
  pub leaves_length : length ≡ a.listed.length

-- an assembly: its number, the output, the line at fault and the length written
pub record AssembleGives (a : assembler.Answer) (code : ℕ) (out : List ℕ) (line : ℕ) (length : ℕ) : Type 0 where
  pub answers : code ≡ a.assembled.code
  pub leaves_out : out ≡ a.out
  pub leaves_line : line ≡ a.assembled.line
  pub leaves_length : length ≡ a.assembled.length

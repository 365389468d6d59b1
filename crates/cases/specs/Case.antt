-- A case of one step: a state, the bytes of memory that are not 0, and what one step makes of them.
-- Assumes nothing.
use Rattle.std.specs.Prelude.{ℕ, List, [], ◌∷◌, replicate}
use Rattle.arith.specs.Words.{high_of, low_of}
use Rattle.machine.specs.Answers.{With}
use Rattle.machine.specs.State.{cpu_of}
use Rattle.machine.specs.Memory.{Memory, byte_at, stored}
use Rattle.machine.specs.Step.{Stepped, step_of}
use Rattle.machine.specs.declared.Ime.{Ime}
use Rattle.machine.specs.declared.Mode.TheVariants.{Running}
use Rattle.machine.specs.declared.Cpu.{Cpu}

-- a byte at an address
pub record Cell : Type 0 where
  pub at : ℕ
  pub value : ℕ

abbrev pub cell : ℕ → ℕ → Cell
cell at v = record { at = at; value = v }

-- 65,536 bytes that are 0 but for some
unfoldable pub memory_of : List Cell → Memory
memory_of [] = replicate 65536 0
memory_of (x ∷ xs) = stored (memory_of xs) x.at x.value

-- AF BC DE HL SP PC
unfoldable pub state_of : ℕ → ℕ → ℕ → ℕ → ℕ → ℕ → Ime → Cpu
state_of af bc de hl sp pc ime =
    cpu_of (high_of af) (low_of af) (high_of bc) (low_of bc) (high_of de) (low_of de) (high_of hl) (low_of hl) sp pc ime Running

-- before a step, its cycles, and after it
pub record Case : Type 0 where
  pub start : Cpu
  pub bytes : List Cell
  pub cycles : ℕ
  pub end : Cpu
  pub left : List Cell

abbrev pub case : Cpu → List Cell → ℕ → Cpu → List Cell → Case
case start bytes cycles end left = record { start = start; bytes = bytes; cycles = cycles; end = end; left = left }

-- an answer, and what is left in some places
pub data Shown (A : Type 0) : Type 0 where
  shown : A → List Cell → Shown A

unfoldable pub cells_of : Memory → List Cell → List Cell
cells_of m [] = []
cells_of m (x ∷ xs) = cell x.at (byte_at m x.at) ∷ cells_of m xs

unfoldable pub shown_of : {A : Type 0} → With A → List Cell → Shown A
shown_of w xs = shown w.out (cells_of w.mem xs)

-- the step of a case, and what is expected of it
unfoldable pub stepped_of : Case → Shown Stepped
stepped_of c = shown_of (step_of c.start (memory_of c.bytes)) c.left

unfoldable pub expected_of : Case → Shown Stepped
expected_of c = shown (record { code = 0; cycles = c.cycles; cpu = c.end }) c.left

-- Document 01's worked example: 199 + 1, two bytes each. The routine at $0150, $C000: 99 01, $C100: 01 00, $DFFE: 34 12, other
-- memory 0; PC $0150, HL $C000, DE $C100, SP $DFFE, B 2, other registers and codes 0.
-- Assumes nothing.
use Rattle.std.specs.Prelude.{ℕ, ◌+◌, ◌-◌, List, [], ◌∷◌, ◌++◌, ◌≢◌, ◌≡◌, length, replicate}
use Rattle.machine.specs.State.{cpu_of}
use Rattle.machine.specs.Memory.{Memory, byte_at}
use Rattle.machine.specs.Run.{ending, run_of}
use Rattle.machine.specs.declared.Ime.TheVariants.{Off}
use Rattle.machine.specs.declared.Mode.TheVariants.{Running}
use Rattle.machine.specs.declared.Cpu.{Cpu}
use Rattle.routines.specs.Adding.{adding_routine, Added}

-- bytes, and the address of the first
pub record Piece : Type 0 where
  pub from : ℕ
  pub bytes : List ℕ

abbrev pub piece : ℕ → List ℕ → Piece
piece from bytes = record { from = from; bytes = bytes }

unfoldable pub zeros : ℕ → List ℕ
zeros k = replicate k 0

-- the memory from an address up to $FFFF that holds these pieces, in order, and 0 elsewhere
unfoldable pub laid : ℕ → List Piece → Memory
laid at [] = zeros (65536 - at)
laid at (p ∷ ps) = zeros (p.from - at) ++ (p.bytes ++ laid (p.from + length p.bytes) ps)

unfoldable pub worked_memory : Memory
worked_memory =
    laid 0
    (piece 0x0150 adding_routine
    ∷ piece 0xC000 (0x99 ∷ 0x01 ∷ [])
    ∷ piece 0xC100 (0x01 ∷ 0x00 ∷ [])
    ∷ piece 0xDFFE (0x34 ∷ 0x12 ∷ [])
    ∷ []
    )

-- A F B C D E H L SP PC, IME and mode
abbrev pub worked_cpu : Cpu
worked_cpu = cpu_of 0 0 2 0 0xC1 0x00 0xC0 0x00 0xDFFE 0x0150 Off Running

-- the document's line: 0 30 16 02C0 0000 C102 C002 E000 1234 0 0
abbrev pub printed_cpu : Cpu
printed_cpu = cpu_of 0x02 0xC0 0 0 0xC1 0x02 0xC0 0x02 0xE000 0x1234 Off Running

-- wherever the bytes lie: 99 01 and 01 00 give 00 02, and no overflow
pub record TwoHundred (s : Cpu) (m : Memory) (dst src : ℕ) : Type 0 where
  pub sum : Added 2 s m dst src
  pub low : byte_at sum.mem dst ≡ 0x00
  pub high : byte_at sum.mem (dst + 1) ≡ 0x02
  pub flags : sum.cpu.f ≡ 0xC0

-- what a run of 30 cycles gives: the printed line, 00 02 in the destination, and every other byte as it was
pub record Worked : Type 0 where
  pub mem : Memory
  pub line : run_of 30 worked_cpu worked_memory ≡ ending 0 30 16 printed_cpu mem
  pub low : byte_at mem 0xC000 ≡ 0x00
  pub high : byte_at mem 0xC001 ≡ 0x02
  pub kept : (at : ℕ) → at ≢ 0xC000 → at ≢ 0xC001 → byte_at mem at ≡ byte_at worked_memory at

-- The premises at their edges: where the routine, the two fields and the stack may lie, as far as document 01 lets them. Each line is
-- a state and a memory that meet all of `Given`, so that no premise can be narrowed unseen.
-- Assumes nothing.
use Rattle.std.specs.Prelude.{ℕ, ◌+◌, ◌%◌, List, [], ◌∷◌, ◌≡◌, replicate}
use Rattle.arith.specs.Words.{high_of, low_of}
use Rattle.machine.specs.State.{cpu_of}
use Rattle.machine.specs.Memory.{Memory, stored}
use Rattle.machine.specs.Interrupts.{pending_of}
use Rattle.machine.specs.declared.Ime.TheVariants.{Off}
use Rattle.machine.specs.declared.Mode.TheVariants.{Running}
use Rattle.machine.specs.declared.Cpu.{Cpu}
use Rattle.routines.specs.Premises.{Given}
use Rattle.routines.specs.Adding.{adding_routine}

-- bytes written from an address upward
unfoldable pub written : Memory → ℕ → List ℕ → Memory
written m at [] = m
written m at (b ∷ bs) = stored (written m (at + 1) bs) at b

unfoldable pub all_of : ℕ → Memory
all_of v = replicate 65536 v

-- the memory that holds the routine at pc, and the byte v everywhere else, $FFFF and $FF0F among it
unfoldable pub edge_memory : ℕ → ℕ → Memory
edge_memory v pc = written (all_of v) pc adding_routine

-- how many bytes, the byte v, F, PC, the first bytes of the destination and the source, SP; A is $5A and C is $A5
pub record Edge : Type 0 where
  pub n : ℕ
  pub v : ℕ
  pub f : ℕ
  pub pc : ℕ
  pub dst : ℕ
  pub src : ℕ
  pub sp : ℕ

abbrev pub edge : ℕ → ℕ → ℕ → ℕ → ℕ → ℕ → ℕ → Edge
edge n v f pc dst src sp = record { n = n; v = v; f = f; pc = pc; dst = dst; src = src; sp = sp }

abbrev pub edge_cpu : Edge → Cpu
edge_cpu x =
    cpu_of 0x5A x.f (x.n % 256) 0xA5 (high_of x.src) (low_of x.src) (high_of x.dst) (low_of x.dst) x.sp x.pc
    Off Running

-- the premises hold there
abbrev pub Met : Edge → Type 0
Met x = Given adding_routine x.n (edge_cpu x) (edge_memory x.v x.pc) x.dst x.src

pub record Edges : Type 0 where
  -- the length: 1, 2, 255 and 256, where B is 0
  pub one : Met (edge 1 0x99 0x00 0x0150 0xC000 0xC100 0xDFFE)
  pub two : Met (edge 2 0x99 0x00 0x0150 0xC000 0xC100 0xDFFE)
  pub most_in_b : Met (edge 255 0x99 0x00 0x0150 0xC000 0xC100 0xDFFE)
  pub most : Met (edge 256 0x99 0x00 0x0150 0xC000 0xC100 0xDFFE)
  -- the smallest digits and the largest; F with no flag and with all of them
  pub nought : Met (edge 256 0x00 0x00 0x0150 0xC000 0xC100 0xDFFE)
  pub nine_low : Met (edge 256 0x09 0xF0 0x0150 0xC000 0xC100 0xDFFE)
  pub nine_high : Met (edge 256 0x90 0xF0 0x0150 0xC000 0xC100 0xDFFE)
  -- the source is the destination, lies right after it, or right before it
  pub doubled : Met (edge 256 0x99 0xF0 0x0150 0xC000 0xC000 0xDFFE)
  pub after_dst : Met (edge 256 0x99 0xF0 0x0150 0xC000 0xC100 0xDFFE)
  pub before_dst : Met (edge 256 0x99 0xF0 0x0150 0xC100 0xC000 0xDFFE)
  -- fields that end at $FFFF, and that begin at 0
  pub dst_ends : Met (edge 256 0x99 0x00 0x0150 0xFF00 0xC000 0xDFFE)
  pub src_ends : Met (edge 256 0x99 0x00 0x0150 0xC000 0xFF00 0xDFFE)
  pub both_end : Met (edge 256 0x99 0x00 0x0150 0xFF00 0xFF00 0xDFFE)
  pub dst_begins : Met (edge 256 0x99 0x00 0x0150 0x0000 0xC000 0xDFFE)
  pub src_begins : Met (edge 256 0x99 0x00 0x0150 0xC000 0x0000 0xDFFE)
  -- a routine that ends at $FFFF, and one at 0
  pub routine_ends : Met (edge 256 0x99 0x00 0xFFF6 0xC000 0xC100 0xDFFE)
  pub routine_begins : Met (edge 256 0x99 0x00 0x0000 0xC000 0xC100 0xDFFE)
  -- fields right after the routine and right before it
  pub dst_then_routine : Met (edge 256 0x99 0x00 0x0150 0x0050 0xC100 0xDFFE)
  pub routine_then_dst : Met (edge 256 0x99 0x00 0x0150 0x015A 0xC100 0xDFFE)
  pub src_then_routine : Met (edge 256 0x99 0x00 0x0150 0xC000 0x0050 0xDFFE)
  pub routine_then_src : Met (edge 256 0x99 0x00 0x0150 0xC000 0x015A 0xDFFE)
  -- a stack that wraps: the return word lies at $FFFF and at 0, next to the destination on either side
  pub wraps_before_dst : Met (edge 256 0x99 0x00 0x0150 0x0001 0xC100 0xFFFF)
  pub wraps_after_dst : Met (edge 256 0x99 0x00 0x0150 0xFEFF 0xC100 0xFFFF)
  -- a stack right before the destination and right after it, in the source, and in the routine
  pub stack_then_dst : Met (edge 256 0x99 0x00 0x0150 0xC000 0xC100 0xBFFE)
  pub dst_then_stack : Met (edge 256 0x99 0x00 0x0150 0xC000 0xC200 0xC100)
  pub stack_in_src : Met (edge 256 0x99 0x00 0x0150 0xC000 0xC100 0xC1FE)
  pub stack_in_routine : Met (edge 256 0x99 0x00 0x0150 0xC000 0xC100 0x0150)
  -- and with $99 everywhere requests are pending, with IME Off
  pub pending : pending_of (edge_memory 0x99 0x0150) ≡ 0x19

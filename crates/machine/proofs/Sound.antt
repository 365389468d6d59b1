-- A state whose registers are bytes and words, and a memory of bytes: what the code holds, and what steps keep.
-- Assumes nothing.
use Prim.Native.Nat.{ℕ, ◌<◌}
use mathlib.Core.List.{List}
use Rattle.machine.specs.Memory.{byte_at}
use Rattle.machine.specs.declared.Cpu.{Cpu}

pub record Sound (s : Cpu) : Type 0 where
  pub a : s.a < 256
  pub f : s.f < 256
  pub b : s.b < 256
  pub c : s.c < 256
  pub d : s.d < 256
  pub e : s.e < 256
  pub h : s.h < 256
  pub l : s.l < 256
  pub sp : s.sp < 65536
  pub pc : s.pc < 65536

abbrev pub Bytes : List ℕ → Type 0
Bytes m = (at : ℕ) → byte_at m at < 256

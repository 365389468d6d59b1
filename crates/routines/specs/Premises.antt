-- How a decimal routine and its two fields are placed: the premises of document 01, "The adding routine", a field for each,
-- over any routine's bytes. n is the length of the numbers, dst and src are the first addresses of the two fields.
-- Nothing is asked that document 01 does not ask. That registers and memory hold bytes, and SP and PC words, is so of every
-- state and memory of a program, and is not needed.
-- Assumes nothing.
use Rattle.std.specs.Prelude.{ℕ, ◌+◌, ◌%◌, ◌<◌, ◌≤◌, List, ◌⊎◌, ◌≢◌, ◌≡◌, length, get_or}
use Rattle.arith.specs.Words.{word_of, further}
use Rattle.machine.specs.Memory.{memory_size, Memory, byte_at}
use Rattle.machine.specs.declared.Ime.TheVariants.{Off}
use Rattle.machine.specs.declared.Mode.TheVariants.{Running}
use Rattle.machine.specs.declared.Cpu.{Cpu}
use Rattle.routines.specs.Decimals.{Digits}

-- the k bytes from `at` upward and the n bytes from `to` upward have no byte in common
abbrev pub Apart : ℕ → ℕ → ℕ → ℕ → Type 0
Apart at k to n = (i j : ℕ) → i < k → j < n → at + i ≢ to + j

-- the byte at an address is none of the n bytes from `to` upward
abbrev pub Outside : ℕ → ℕ → ℕ → Type 0
Outside at to n = (j : ℕ) → j < n → at ≢ to + j

pub record Given (routine : List ℕ) (n : ℕ) (s : Cpu) (m : Memory) (dst src : ℕ) : Type 0 where
  -- numbers of 1 to 256 bytes; the memory is 65,536 bytes
  pub n_least : 1 ≤ n
  pub n_most : n ≤ 256
  pub memory : length m ≡ memory_size
  -- HL the destination, DE the source, B = n mod 256
  pub hl : word_of s.h s.l ≡ dst
  pub de : word_of s.d s.e ≡ src
  pub b : s.b ≡ n % 256
  -- PC at the routine's first byte, Running, IME Off, F valid
  pub pc : (i : ℕ) → i < length routine → byte_at m (s.pc + i) ≡ get_or routine i 0
  pub mode : s.mode ≡ Running
  pub ime : s.ime ≡ Off
  pub f : s.f % 16 ≡ 0
  -- the routine and both fields don't pass $FFFF
  pub routine_fits : s.pc + length routine ≤ 65536
  pub dst_fits : dst + n ≤ 65536
  pub src_fits : src + n ≤ 65536
  -- neither field touches the routine
  pub dst_clear : Apart s.pc (length routine) dst n
  pub src_clear : Apart s.pc (length routine) src n
  -- the source field equals the destination or doesn't overlap it
  pub fields : (src ≡ dst) ⊎ Apart src n dst n
  -- every field byte has digits 0 to 9
  pub dst_digits : Digits m dst n
  pub src_digits : Digits m src n
  -- the two stack bytes at SP lie outside the destination
  pub stack_low : Outside s.sp dst n
  pub stack_high : Outside (further 1 s.sp) dst n

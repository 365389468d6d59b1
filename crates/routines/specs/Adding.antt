-- The adding routine, and what holds after it. Document 01, "The adding routine", and demand 3.
-- Assumes nothing.
use Rattle.std.specs.Prelude.{ℕ, ◌+◌, ◌-◌, ◌*◌, ◌%◌, ◌^◌, Bool, true, false, List, [], ◌∷◌, ◌≡◌, leb, length}
use Rattle.arith.specs.Words.{high_of, low_of, further}
use Rattle.machine.specs.Memory.{Memory, byte_at, word_at}
use Rattle.machine.specs.Step.{stepped}
use Rattle.machine.specs.declared.Cpu.{Cpu}
use Rattle.routines.specs.Decimals.{Digits, num}
use Rattle.routines.specs.Steps.{after_steps}
use Rattle.routines.specs.Premises.{Outside}

-- AND A; LD A,[DE]; ADC A,[HL]; DAA; LD [HLI],A; INC DE; DEC B; JR NZ back to the second; RET
abbrev pub adding_routine : List ℕ
adding_routine = 0xA7 ∷ 0x1A ∷ 0x8E ∷ 0x27 ∷ 0x22 ∷ 0x13 ∷ 0x05 ∷ 0x20 ∷ 0xF8 ∷ 0xC9 ∷ []

-- F at the end: Z and N, and C on overflow
abbrev pub end_flags : Bool → ℕ
end_flags true = 0xD0
end_flags false = 0xC0

pub record Added (n : ℕ) (s : Cpu) (m : Memory) (dst src : ℕ) : Type 0 where
  -- the state and the memory after 7n + 2 steps, none refused, in 13n + 4 cycles
  pub cpu : Cpu
  pub mem : Memory
  pub ran : after_steps (7 * n + 2) s m ≡ stepped 0 (13 * n + 4) cpu mem
  -- the destination holds the sum modulo 100 to the power n, as digits
  pub sum : num mem dst n ≡ (num m dst n + num m src n) % 100 ^ n
  pub digits : Digits mem dst n
  -- no byte outside the destination has changed
  pub kept : (at : ℕ) → Outside at dst n → byte_at mem at ≡ byte_at m at
  pub size : length mem ≡ length m
  -- A the top byte, F $C0 or, on overflow, $D0, B is 0
  pub a : cpu.a ≡ byte_at mem (dst + n - 1)
  pub f : cpu.f ≡ end_flags (leb (100 ^ n) (num m dst n + num m src n))
  pub b : cpu.b ≡ 0
  -- HL and DE are n higher and SP 2 higher, modulo 65,536
  pub h : cpu.h ≡ high_of (further n dst)
  pub l : cpu.l ≡ low_of (further n dst)
  pub d : cpu.d ≡ high_of (further n src)
  pub e : cpu.e ≡ low_of (further n src)
  pub sp : cpu.sp ≡ further 2 s.sp
  -- PC is the return address
  pub pc : cpu.pc ≡ word_at m s.sp
  -- C, IME and mode as before
  pub c : cpu.c ≡ s.c
  pub ime : cpu.ime ≡ s.ime
  pub mode : cpu.mode ≡ s.mode

-- The processor's state, its registers, pairs and flags. Document 01, "What the core is".
-- Assumes nothing.
use Rattle.std.specs.Prelude.{ℕ, ◌*◌, ◌/◌, Bool, not}
use Rattle.arith.specs.Flags.{z_of, c_of}
use Rattle.arith.specs.Words.{word_of, high_of, low_of}
use Rattle.insn.specs.declared.Register.{Register}
use Rattle.insn.specs.declared.Register.TheVariants.{B, C, D, E, H, L, A}
use Rattle.insn.specs.declared.Pair.{Pair}
use Rattle.insn.specs.declared.Pair.TheVariants as pair
use Rattle.insn.specs.declared.Stacked.{Stacked}
use Rattle.insn.specs.declared.Stacked.TheVariants as stacked
use Rattle.insn.specs.declared.Cond.{Cond}
use Rattle.insn.specs.declared.Cond.TheVariants as cond
use Rattle.machine.specs.declared.Ime.{Ime}
use Rattle.machine.specs.declared.Mode.{Mode}
use Rattle.machine.specs.declared.Cpu.{Cpu}

-- a state, field by field
abbrev pub cpu_of : ℕ → ℕ → ℕ → ℕ → ℕ → ℕ → ℕ → ℕ → ℕ → ℕ → Ime → Mode → Cpu
cpu_of a f b c d e h l sp pc ime mode =
    record { a = a; f = f; b = b; c = c; d = d; e = e; h = h; l = l; sp = sp; pc = pc; ime = ime; mode = mode }

-- a state with other values in some of its fields
abbrev pub with_f : ℕ → Cpu → Cpu
with_f f s = cpu_of s.a f s.b s.c s.d s.e s.h s.l s.sp s.pc s.ime s.mode

abbrev pub with_a_and_f : ℕ → ℕ → Cpu → Cpu
with_a_and_f a f s = cpu_of a f s.b s.c s.d s.e s.h s.l s.sp s.pc s.ime s.mode

abbrev pub with_b_and_c : ℕ → ℕ → Cpu → Cpu
with_b_and_c b c s = cpu_of s.a s.f b c s.d s.e s.h s.l s.sp s.pc s.ime s.mode

abbrev pub with_d_and_e : ℕ → ℕ → Cpu → Cpu
with_d_and_e d e s = cpu_of s.a s.f s.b s.c d e s.h s.l s.sp s.pc s.ime s.mode

abbrev pub with_h_and_l : ℕ → ℕ → Cpu → Cpu
with_h_and_l h l s = cpu_of s.a s.f s.b s.c s.d s.e h l s.sp s.pc s.ime s.mode

abbrev pub with_sp : ℕ → Cpu → Cpu
with_sp sp s = cpu_of s.a s.f s.b s.c s.d s.e s.h s.l sp s.pc s.ime s.mode

abbrev pub with_pc : ℕ → Cpu → Cpu
with_pc pc s = cpu_of s.a s.f s.b s.c s.d s.e s.h s.l s.sp pc s.ime s.mode

abbrev pub with_ime : Ime → Cpu → Cpu
with_ime ime s = cpu_of s.a s.f s.b s.c s.d s.e s.h s.l s.sp s.pc ime s.mode

abbrev pub with_mode : Mode → Cpu → Cpu
with_mode mode s = cpu_of s.a s.f s.b s.c s.d s.e s.h s.l s.sp s.pc s.ime mode

-- a register, and the state with another byte in it
unfoldable pub register_of : Register → Cpu → ℕ
register_of B s = s.b
register_of C s = s.c
register_of D s = s.d
register_of E s = s.e
register_of H s = s.h
register_of L s = s.l
register_of A s = s.a

unfoldable pub with_register : Register → ℕ → Cpu → Cpu
with_register B v s = with_b_and_c v s.c s
with_register C v s = with_b_and_c s.b v s
with_register D v s = with_d_and_e v s.e s
with_register E v s = with_d_and_e s.d v s
with_register H v s = with_h_and_l v s.l s
with_register L v s = with_h_and_l s.h v s
with_register A v s = with_a_and_f v s.f s

-- HL as a word, and the state with another word in it
unfoldable pub hl_of : Cpu → ℕ
hl_of s = word_of s.h s.l

unfoldable pub with_hl : ℕ → Cpu → Cpu
with_hl w s = with_h_and_l (high_of w) (low_of w) s

-- BC DE HL SP
unfoldable pub pair_of : Pair → Cpu → ℕ
pair_of pair.Bc s = word_of s.b s.c
pair_of pair.De s = word_of s.d s.e
pair_of pair.Hl s = hl_of s
pair_of pair.Sp s = s.sp

unfoldable pub with_pair : Pair → ℕ → Cpu → Cpu
with_pair pair.Bc w s = with_b_and_c (high_of w) (low_of w) s
with_pair pair.De w s = with_d_and_e (high_of w) (low_of w) s
with_pair pair.Hl w s = with_hl w s
with_pair pair.Sp w s = with_sp w s

-- BC DE HL AF, as PUSH reads them
unfoldable pub stacked_of : Stacked → Cpu → ℕ
stacked_of stacked.Bc s = word_of s.b s.c
stacked_of stacked.De s = word_of s.d s.e
stacked_of stacked.Hl s = hl_of s
stacked_of stacked.Af s = word_of s.a s.f

-- and as POP sets them: POP AF drops the low four bits
unfoldable pub with_stacked : Stacked → ℕ → Cpu → Cpu
with_stacked stacked.Bc w s = with_b_and_c (high_of w) (low_of w) s
with_stacked stacked.De w s = with_d_and_e (high_of w) (low_of w) s
with_stacked stacked.Hl w s = with_hl w s
with_stacked stacked.Af w s = with_a_and_f (high_of w) (low_of w / 16 * 16) s

-- the condition of a jump holds: NZ Z NC C
unfoldable pub met_of : Cond → ℕ → Bool
met_of cond.Nz f = not (z_of f)
met_of cond.Z f = z_of f
met_of cond.Nc f = not (c_of f)
met_of cond.C f = c_of f

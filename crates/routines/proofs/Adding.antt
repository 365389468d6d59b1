-- The adding routine adds: demand 3, for every n from 1 to 256.
-- Assumes nothing.
use Prim.Native.Nat.{ℕ, zero, suc, ◌+◌, ◌-◌, ◌*◌, ◌%◌, ◌^◌, ◌<◌}
use mathlib.Core.Bool.{Bool, true, false}
use mathlib.Core.Path.{◌≡◌, refl, sym, ◌∙◌, ap}
use native.Mathlib.Nat.{add-zero, add-mul-mod_self_left, mod-eq_of_lt}
use native.Mathlib.Omega.{arith}
use borrow.Author.Tests.{le-leb, lt-leb}
use lib.Dec.{leb, lit<}
use lib.ListN.{length}
use Rattle.arith.specs.Width.{one_if}
use Rattle.arith.specs.Flags.{weight_if, flags_of, c_of}
use Rattle.arith.specs.Bytes.{logic_of, alu_of}
use Rattle.arith.specs.Words.{further}
use Rattle.arith.specs.declared.Alu.TheVariants.{And}
use Rattle.arith.proofs.Laws.{flags_low, c_back}
use Rattle.machine.specs.State.{cpu_of}
use Rattle.machine.specs.Memory.{memory_size, Memory, byte_at, word_at}
use Rattle.machine.specs.Run.{ending, run_of}
use Rattle.machine.specs.declared.Cpu.{Cpu}
use Rattle.routines.specs.Decimals.{num}
use Rattle.routines.specs.Steps.{after_steps}
use Rattle.routines.specs.Premises.{Given}
use Rattle.routines.specs.Adding.{adding_routine, end_flags, Added}
use Rattle.routines.proofs.Stepping.{Takes, recount, taken, ◌then◌}
use Rattle.routines.proofs.Opcodes.{running, and_a, ret}
use Rattle.routines.proofs.Registers.{next}
use Rattle.routines.proofs.Fields.{num_below, standing}
use Rattle.routines.proofs.Tail.{finished}
use Rattle.routines.proofs.Loop.{Looped, loop}
use Rattle.routines.proofs.Runs.{run_steps}

-- the carry that is left says whether the whole sum overflowed, and the rest is the sum modulo P
module _ {M P Z : ℕ} (small : M < P) where
  remainder : (o : Bool) → M + P * one_if o ≡ Z → M ≡ Z % P
  remainder o e = rw (← e, add-mul-mod_self_left, mod-eq_of_lt small)

  overflow : (o : Bool) → M + P * one_if o ≡ Z → flags_of true true false o ≡ end_flags (leb P Z)
  unfolding flags_of weight_if
  overflow true e = rw (le-leb P Z (omega arith))
  overflow false e = rw (lt-leb P Z (omega arith))

module _ {r : ℕ} {s : Cpu} {m : Memory} {dst src : ℕ} (g : Given adding_routine (suc r) s m dst src) where
  -- F after AND A: C is 0
  f₀ : ℕ
  f₀ = (alu_of And s.a s.a s.f).flags

  f₀_low : f₀ % 16 ≡ 0
  unfolding f₀ alu_of logic_of
  f₀_low = flags_low _ _ _ _

  f₀_carry : c_of f₀ ≡ false
  unfolding f₀ alu_of logic_of
  f₀_carry = c_back _ _ _ _

  looped : Looped r
      (running (alu_of And s.a s.a s.f).value f₀ s.b s.c s.d s.e s.h s.l s.sp (s.pc + 1)) m dst
      src (c_of f₀) s.c s.sp (s.pc + 9)
  looped = loop r g.routine_fits f₀_low g.de g.hl (standing g) (omega arith) g.b

  -- what the routine and the stack bytes are, they are when the loop has ended
  kept_code : byte_at looped.mem (s.pc + 9) ≡ 0xC9
  kept_code = looped.sum.filled.kept _ (λ j h. g.dst_clear 9 j (lit< tt) h) ∙ g.pc 9 (lit< tt)

  kept_stack : word_at looped.mem s.sp ≡ word_at m s.sp
  unfolding word_at
  kept_stack = rw (looped.sum.filled.kept _ g.stack_low, looped.sum.filled.kept _ g.stack_high)

  -- the state at the end
  ended : Cpu
  ended =
      finished (byte_at looped.mem (dst + r)) looped.over s.c (suc r) dst src (further 2 s.sp) (word_at m s.sp)

  steps : Takes (7 * suc r + 2) (13 * suc r + 4)
      (running s.a s.f s.b s.c s.d s.e s.h s.l s.sp s.pc) m ended looped.mem
  unfolding f₀ ended
  steps =
      let size : length looped.mem ≡ memory_size = looped.sum.filled.size ∙ g.memory in
      recount
      (and_a g.memory g.f (next _ (s.pc + 1) (omega arith)) (rw add-zero at (g.pc 0 (lit< tt)))
      then looped.ran
      then ret size (flags_low true true false looped.over) kept_code kept_stack)
      (omega arith) (omega arith)

  -- the first state, field by field
  start : s ≡ running s.a s.f s.b s.c s.d s.e s.h s.l s.sp s.pc
  start = λ i.
      cpu_of s.a s.f s.b s.c s.d s.e s.h s.l s.sp s.pc (g.ime i) (g.mode i)

  number : num looped.mem dst (suc r) + 100 ^ suc r * one_if looped.over ≡ num m dst (suc r) + num m src (suc r)
  number = looped.sum.number ∙ rw f₀_carry (omega arith)

  small : num looped.mem dst (suc r) < 100 ^ suc r
  small = num_below looped.mem dst (suc r) looped.sum.filled.digits

  top : (at : ℕ) → at + r ≡ at + suc r - 1
  top at = omega arith

  added : Added (suc r) s m dst src
  unfolding ended
  added =
      record {
        cpu = ended;
        mem = looped.mem;
        ran = ap (λ (t : Cpu). after_steps (7 * suc r + 2) t m) start ∙ taken steps;
        sum = remainder small looped.over number;
        digits = looped.sum.filled.digits;
        kept = looped.sum.filled.kept;
        size = looped.sum.filled.size;
        a = rw (top dst);
        f = overflow small looped.over number;
        b = refl;
        h = refl;
        l = refl;
        d = refl;
        e = refl;
        sp = refl;
        pc = refl;
        c = refl;
        ime = sym g.ime;
        mode = sym g.mode;
      }

-- THE ADDING ROUTINE ADDS
pub adding : {n : ℕ} {s : Cpu} {m : Memory} {dst src : ℕ} → Given adding_routine n s m dst src → Added n s m dst src
adding {n = zero} g = absurd (omega arith)
adding {n = suc r} g = added g

-- and a run with the budget 13n + 4 is these steps: code 0, 13n + 4 cycles spent, 7n + 2 steps, that state and memory
pub run_adds : {n : ℕ} {s : Cpu} {m : Memory} {dst src : ℕ} → Given adding_routine n s m dst src → (t : Added n s m dst src)
    → run_of (13 * n + 4) s m ≡ ending 0 (13 * n + 4) (7 * n + 2) t.cpu t.mem
run_adds {n} {s} {m} g t =
    run_steps (7 * n + 2) (13 * n + 4) s m g.memory g.f (omega arith) (omega arith) t.ran

-- The end of a turn, which the routines share: LD [HLI],A; INC DE; DEC B; JR NZ. A, with its F, is the byte to store; q is the place
-- of LD [HLI],A in the routine, and JR goes back to the place 1 or on to the place q + 5.
-- Assumes nothing.
use Prim.Native.Nat.{ℕ, suc, ◌+◌, ◌%◌, ◌<◌}
use mathlib.Core.Bool.{Bool, true, false}
use mathlib.Core.List.{List}
use mathlib.Core.Logic.{◌≢◌}
use mathlib.Core.Path.{◌≡◌, ◌∙◌}
use native.Mathlib.Omega.{arith}
use borrow.Author.Tests.{ne_eqb}
use lib.ListN.{length, get_or}
use Rattle.arith.specs.Width.{difference_of, borrow_of}
use Rattle.arith.specs.Flags.{flags_of, c_of}
use Rattle.arith.specs.Bytes.{decreased_of}
use Rattle.arith.specs.Words.{word_of, high_of, low_of, further, offset_of}
use Rattle.arith.proofs.Laws.{flags_low, z_back, decreased_fits}
use Rattle.machine.specs.Memory.{Memory, stored}
use Rattle.machine.specs.declared.Cpu.{Cpu}
use Rattle.routines.proofs.Stepping.{Takes, ◌then◌}
use Rattle.routines.proofs.Opcodes.{running, store_a_hli, inc_de, dec_b, jr_nz_taken, jr_nz_not}
use Rattle.routines.proofs.Registers.{next, decreased_z}
use Rattle.routines.proofs.Fields.{Standing, onward}

-- the state between two turns: v stored with the F f, B counted down from b, HL and DE one further than dst and src
abbrev pub between : ℕ → ℕ → ℕ → ℕ → ℕ → ℕ → ℕ → ℕ → Cpu
between v f b c dst src sp pc =
    running v (decreased_of b f).flags (decreased_of b f).value c (high_of (further 1 src)) (low_of (further 1 src))
    (high_of (further 1 dst)) (low_of (further 1 dst)) sp pc

-- the state after the last turn of n: v stored last, HL and DE n further than dst and src
abbrev pub finished : ℕ → Bool → ℕ → ℕ → ℕ → ℕ → ℕ → ℕ → Cpu
finished v over c n dst src sp pc =
    running v (flags_of true true false over) 0 c (high_of (further n src)) (low_of (further n src)) (high_of (further n dst))
    (low_of (further n dst)) sp pc

-- the bytes of that end of a turn, at the place q, with JR's operand
pub record Ends (routine : List ℕ) (q back : ℕ) : Type 0 where
  pub within : q + 4 < length routine
  pub store : get_or routine q 0 ≡ 0x22
  pub inc : get_or routine (q + 1) 0 ≡ 0x13
  pub dec : get_or routine (q + 2) 0 ≡ 0x05
  pub jr : get_or routine (q + 3) 0 ≡ 0x20
  pub offset : get_or routine (q + 4) 0 ≡ back

two_on : (p q : ℕ) → p + (q + 5) < 65536 → further 1 (further 1 (p + (q + 3))) ≡ p + (q + 5)
two_on p q h = rw (next (p + (q + 3)) (p + (q + 4)) (omega arith)) (next _ _ (omega arith))

module _ {routine : List ℕ} {q back p n : ℕ} {m : Memory} {dst src : ℕ} (x : Ends routine q back)
    (y : Standing routine p (suc n) m dst src) (fits : p + (q + 5) < 65536) {v f b c d e h l sp : ℕ} (low : f % 16 ≡ 0)
    (de : word_of d e ≡ src) (hl : word_of h l ≡ dst) where
  -- three steps, up to JR
  counted : Takes 3 5 (running v f b c d e h l sp (p + q)) m (between v f b c dst src sp (p + (q + 3))) (stored m dst v)
  counted =
      let t = onward y v in
      store_a_hli y.size low (next _ _ (omega arith)) (y.code q (omega arith) ∙ x.store) hl
      then inc_de t.size low (next _ (p + (q + 2)) (omega arith)) (t.code (q + 1) (omega arith) ∙ x.inc) de
      then dec_b t.size low (next _ _ (omega arith)) (t.code (q + 2) (omega arith) ∙ x.dec)

  -- the last byte: JR is not taken
  pub tail_last : b ≡ 1 → Takes 4 7 (running v f b c d e h l sp (p + q)) m
      (finished v (c_of f) c 1 dst src sp (p + (q + 5))) (stored m dst v)
  unfolding decreased_of difference_of borrow_of
  tail_last one =
      let t = onward y v in
      rw one
      (rw one at counted
      then jr_nz_not t.size (flags_low _ _ _ _) (t.code (q + 3) (omega arith) ∙ x.jr) (z_back _ _ _ _)
      (two_on p q fits))

  -- a byte before the last: JR is taken
  pub tail_on : (decreased_of b f).value ≢ 0 → offset_of back (p + (q + 5)) ≡ p + 1
      → Takes 4 8 (running v f b c d e h l sp (p + q)) m (between v f b c dst src sp (p + 1)) (stored m dst v)
  tail_on more to =
      let t = onward y v in
      let operand = t.code (q + 4) (omega arith) ∙ x.offset in
      counted
      then jr_nz_taken t.size (decreased_fits b f).flags_low (t.code (q + 3) (omega arith) ∙ x.jr)
      (decreased_z b f ∙ ne_eqb _ _ more)
      (rw (two_on p q fits, next (p + (q + 3)) (p + (q + 4)) (omega arith), operand) to)

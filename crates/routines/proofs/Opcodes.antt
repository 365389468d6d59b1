-- A law for each opcode of the routines, over any state that runs with IME Off and any memory: what the step leaves, and its
-- cycles. What bytes, words and flags are stays shut.
-- Assumes nothing.
use Prim.Native.Nat.{ℕ, ◌%◌}
use mathlib.Core.Bool.{true, false}
use mathlib.Core.List.{[], ◌∷◌}
use mathlib.Core.Path.{◌≡◌}
use native.Mathlib.Omega.{arith}
use lib.ListN.{length}
use Rattle.arith.specs.Bytes.{alu_of, decreased_of}
use Rattle.arith.specs.Decimal.{decimal_of}
use Rattle.arith.specs.Flags.{z_of}
use Rattle.arith.specs.Refusals.{◌when◌, order}
use Rattle.arith.specs.Width.{sum_of}
use Rattle.arith.specs.Words.{word_of, high_of, low_of, further, offset_of}
use Rattle.arith.specs.declared.Alu.TheVariants.{Adc, And}
use Rattle.insn.specs.Grid.{grid}
use Rattle.insn.specs.Shapes.{is_undefined, shapes}
use Rattle.machine.specs.State.{cpu_of}
use Rattle.machine.specs.Memory.{memory_size, Memory, byte_at, stored, word_at}
use Rattle.machine.specs.Execute.{acts}
use Rattle.machine.specs.Modes.{is_on}
use Rattle.machine.specs.Interrupts.{dispatch_due_of}
use Rattle.machine.specs.Step.{stepped, next_insn, instruction_act, step_unless, flow}
use Rattle.machine.specs.declared.Ime.TheVariants.{Off}
use Rattle.machine.specs.declared.Mode.TheVariants.{Running}
use Rattle.machine.specs.declared.Cpu.{Cpu}
use Rattle.routines.proofs.Stepping.{Takes, one}

-- a state that runs with IME Off
abbrev pub running : ℕ → ℕ → ℕ → ℕ → ℕ → ℕ → ℕ → ℕ → ℕ → ℕ → Cpu
running a f b c d e h l sp pc = cpu_of a f b c d e h l sp pc Off Running

further_none : (w : ℕ) → further 0 (further 1 w) ≡ further 1 w
unfolding further sum_of
further_none w = omega arith

module _ {m : Memory} {a f b c d e h l sp pc : ℕ} (size : length m ≡ memory_size) (valid : f % 16 ≡ 0) where
  -- neither refused nor interrupted: the instruction at PC is run
  insn : {j : ℕ} {s' : Cpu} {m' : Memory} →
      (let s = running a f b c d e h l sp pc in
      step_unless (4 when is_undefined (next_insn s m) ∷ []) (instruction_act s m) s m) ≡ stepped 0 j s' m' →
      Takes 1 j (running a f b c d e h l sp pc) m s' m'
  unfolding order flow dispatch_due_of is_on
  insn e = one (rw (size, valid) e)

  pub jr_nz_taken : {to : ℕ} → byte_at m pc ≡ 0x20 → z_of f ≡ false
      → offset_of (byte_at m (further 1 pc)) (further 1 (further 1 pc)) ≡ to → Takes 1 3 (running a f b c d e h l sp pc) m
      (running a f b c d e h l sp to) m
  unfolding order flow grid shapes acts
  jr_nz_taken op z to = insn (rw (op, z, to))

  pub jr_nz_not : {to : ℕ} → byte_at m pc ≡ 0x20 → z_of f ≡ true → further 1 (further 1 pc) ≡ to
      → Takes 1 2 (running a f b c d e h l sp pc) m (running a f b c d e h l sp to) m
  unfolding order flow grid shapes acts
  jr_nz_not op z to = insn (rw (op, z, to))

  pub ret : {to : ℕ} → byte_at m pc ≡ 0xC9 → word_at m sp ≡ to → Takes 1 4 (running a f b c d e h l sp pc) m
      (running a f b c d e h l (further 2 sp) to) m
  unfolding order flow grid shapes acts
  ret op to = insn (rw (op, to))

  -- instructions of one byte that go on to the next
  module _ {pc' : ℕ} (on : further 1 pc ≡ pc') where
    pub and_a : byte_at m pc ≡ 0xA7 → Takes 1 1 (running a f b c d e h l sp pc) m
        (running (alu_of And a a f).value (alu_of And a a f).flags b c d e h l sp pc') m
    unfolding order flow grid shapes acts
    and_a op = insn (rw (op, further_none, on))

    pub load_a_de : {at : ℕ} → byte_at m pc ≡ 0x1A → word_of d e ≡ at → Takes 1 2 (running a f b c d e h l sp pc) m
        (running (byte_at m at) f b c d e h l sp pc') m
    unfolding order flow grid shapes acts
    load_a_de op de = insn (rw (op, further_none, on, de))

    pub adc_a_hl : {at : ℕ} → byte_at m pc ≡ 0x8E → word_of h l ≡ at → Takes 1 2 (running a f b c d e h l sp pc) m
        (running (alu_of Adc a (byte_at m at) f).value (alu_of Adc a (byte_at m at) f).flags b c d e h l sp pc') m
    unfolding order flow grid shapes acts
    adc_a_hl op hl = insn (rw (op, further_none, on, hl))

    pub daa : byte_at m pc ≡ 0x27 → Takes 1 1 (running a f b c d e h l sp pc) m
        (running (decimal_of a f).value (decimal_of a f).flags b c d e h l sp pc') m
    unfolding order flow grid shapes acts
    daa op = insn (rw (op, further_none, on))

    pub store_a_hli : {at : ℕ} → byte_at m pc ≡ 0x22 → word_of h l ≡ at → Takes 1 2 (running a f b c d e h l sp pc) m
        (running a f b c d e (high_of (further 1 at)) (low_of (further 1 at)) sp pc') (stored m at a)
    unfolding order flow grid shapes acts
    store_a_hli op hl = insn (rw (op, further_none, on, hl))

    pub inc_de : {at : ℕ} → byte_at m pc ≡ 0x13 → word_of d e ≡ at → Takes 1 2 (running a f b c d e h l sp pc) m
        (running a f b c (high_of (further 1 at)) (low_of (further 1 at)) h l sp pc') m
    unfolding order flow grid shapes acts
    inc_de op de = insn (rw (op, further_none, on, de))

    pub dec_b : byte_at m pc ≡ 0x05 → Takes 1 1 (running a f b c d e h l sp pc) m
        (running a (decreased_of b f).flags (decreased_of b f).value c d e h l sp pc') m
    unfolding order flow grid shapes acts
    dec_b op = insn (rw (op, further_none, on))

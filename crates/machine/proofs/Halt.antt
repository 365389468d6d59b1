-- HALT: with which IME the code begins it, and its outcomes, exactly when each. Document 02, M-100.
-- Assumes nothing.
use mathlib.Core.Bool.{Bool, true, false, not, ◌&&◌}
use mathlib.Core.Logic.{◌≢◌}
use mathlib.Core.Path.{◌≡◌, refl, sym, ◌∙◌}
use borrow.Author.Tests.{eqb-true, eqb-false, eq-eqb, ne_eqb, not-true, not-false}
use lib.Dec.{eqb}
use Rattle.insn.specs.Shapes.{shape_of}
use Rattle.insn.specs.declared.Insn.{Insn}
use Rattle.insn.specs.declared.Insn.TheVariants.{Halt}
use Rattle.insn.proofs.Halts.{halt_byte, halt_only}
use Rattle.machine.specs.Memory.{Memory, byte_at}
use Rattle.machine.specs.Answers.{storeless}
use Rattle.machine.specs.State.{with_pc, with_ime, with_mode}
use Rattle.machine.specs.Modes.{is_on, settled_ime}
use Rattle.machine.specs.Interrupts.{pending_of, dispatch_due_of, dispatch_of}
use Rattle.machine.specs.Execute.{exec_of, halted_by, halted_of}
use Rattle.machine.specs.Step.{Act, act, dispatches, idles, next_insn, next_after, ready_of, end_of, instruction_act, SettledBy, rule_by, rule_of}
use Rattle.machine.specs.declared.Ime.{Ime}
use Rattle.machine.specs.declared.Ime.TheVariants.{Off, Arming, On}
use Rattle.machine.specs.declared.Mode.TheVariants.{Running, Repeat, Halted}
use Rattle.machine.specs.declared.Cpu.{Cpu}
use Rattle.machine.proofs.Arming.{being, settled_first, looked_first}
use Rattle.machine.proofs.Rules.{bool_apart, dispatch_is}

both : (a b : Bool) → (a && b) ≡ true → (a ≡ true) × (b ≡ true)
both true b e = (refl, e)
both false b e = absurd (bool_apart (sym e))

-- the code's test: a request is pending and the byte at PC is HALT's. Where it holds IME stays as it is, and else it is settled
module _ (s : Cpu) (m : Memory) where
  abbrev pub Looks : Bool → Type 0
  Looks b = (not (eqb (pending_of m) 0) && eqb (byte_at m s.pc) 0x76) ≡ b

  pub looks_first : Looks true → SettledBy s.ime s m
  unfolding next_insn
  looks_first h =
      let b = both _ _ h in
      looked_first s m (rw (eqb-true (byte_at m s.pc) 0x76 b.1) (halt_byte _ _)) (eqb-false _ _ (not-true _ b.0))

  pub settles_first : Looks false → SettledBy (settled_ime s.ime s.ime) s m
  unfolding next_insn
  settles_first h = settled_first s m (λ e _. go (halt_only _ _ _ e) (eqb (pending_of m) 0) refl)
    where
      go : byte_at m s.pc ≡ 0x76 → (b : Bool) → eqb (pending_of m) 0 ≡ b → pending_of m ≡ 0
      go o true p = eqb-true (pending_of m) 0 p
      go o false p = absurd (bool_apart (rw (p, eq-eqb (byte_at m s.pc) 0x76 o) at h))

-- the outcomes of a step with HALT at PC, each with its condition, of which no two hold together
pub data Outcome (s : Cpu) (m : Memory) : Act → Type 0 where
  served : s.ime ≡ On → pending_of m ≢ 0 → Outcome s m (act 5 (dispatch_of s m))
  repeats : s.ime ≡ Off → pending_of m ≢ 0 → Outcome s m (act 1 (storeless (with_mode Repeat (with_pc (next_after s m) s))))
  returns : s.ime ≡ Arming → pending_of m ≢ 0 → Outcome s m (act 1 (storeless (with_ime On (with_mode Running s))))
  halts : pending_of m ≡ 0
      → Outcome s m (act 1 (storeless (with_ime (settled_ime s.ime s.ime) (with_mode Halted (with_pc (next_after s m) s)))))

ends : (s : Cpu) (m : Memory) (i : Insn) → next_insn s m ≡ i
    → instruction_act s m ≡ end_of (shape_of i).cycles s.ime (exec_of s.pc i (ready_of (next_after s m) s) m)
unfolding instruction_act
ends s m i e = rw e

outcome_at : (t : Ime) (b : Bool) (s : Cpu) (m : Memory) → not (eqb (pending_of m) 0) ≡ b → next_insn (with_ime t s) m ≡ Halt
    → dispatch_due_of t (pending_of m) ≡ false → Outcome (with_ime t s) m (instruction_act (with_ime t s) m)
unfolding shape_of ready_of exec_of halted_by halted_of end_of settled_ime is_on dispatch_due_of
outcome_at Off true s m p e d = rw (ends (with_ime Off s) m Halt e, p) (repeats refl (eqb-false _ _ (not-true _ p)))
outcome_at Arming true s m p e d = rw (ends (with_ime Arming s) m Halt e, p) (returns refl (eqb-false _ _ (not-true _ p)))
outcome_at On true s m p e d = absurd (bool_apart (sym p ∙ d))
outcome_at t false s m p e d = rw (ends (with_ime t s) m Halt e, p) (halts (eqb-true _ _ (not-false _ p)))

pub halt_outcome : (s : Cpu) (m : Memory) → next_insn s m ≡ Halt → idles s m ≡ false → Outcome s m (rule_of s m)
unfolding dispatches rule_by rule_of
halt_outcome s m e i = go (dispatches s m) refl
  where
    go : (d : Bool) → dispatches s m ≡ d → Outcome s m (rule_of s m)
    go true d = let w = (dispatch_is s.ime (pending_of m)).0 d in rw d (served w.0 w.1)
    go false d = rw (d, i) (outcome_at s.ime _ s m refl e d)

-- with Arming and a request the step after the HALT is a dispatch from the HALT's own address, so that the handler returns to it
pub halt_returns : (s : Cpu) (m : Memory) → next_insn s m ≡ Halt → s.ime ≡ Arming → pending_of m ≢ 0
    → instruction_act s m ≡ act 1 (storeless (with_ime On (with_mode Running s)))
unfolding shape_of ready_of exec_of halted_by halted_of end_of settled_ime
halt_returns s m e a n =
    ends s m Halt e
    ∙ being (λ t. end_of 1 t (exec_of s.pc Halt (with_ime t (ready_of (next_after s m) s)) m) ≡ act 1 (storeless (with_ime On (with_mode Running s))))
    a (rw (ne_eqb (pending_of m) 0 n))

pub halt_then_served : (s : Cpu) (m : Memory) → next_insn s m ≡ Halt → s.ime ≡ Arming → pending_of m ≢ 0
    → rule_of (instruction_act s m).cpu m ≡ act 5 (dispatch_of (with_ime On (with_mode Running s)) m)
unfolding is_on dispatch_due_of dispatches rule_by rule_of
halt_then_served s m e a n = rw (halt_returns s m e a n, ne_eqb (pending_of m) 0 n)

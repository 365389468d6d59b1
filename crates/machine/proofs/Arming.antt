-- IME: Arming at the start of an instruction is On at its end, unless the instruction is DI, and then Off; what EI, DI and RETI
-- do; HALT, which looks at it; every other instruction leaves it, so that Arming may be settled before it. Document 01, "One step".
-- Assumes nothing.
use Prim.Native.Nat.{ℕ}
use mathlib.Core.Bool.{Bool, true, false}
use mathlib.Core.Logic.{◌≢◌}
use mathlib.Core.Path.{◌≡◌, refl, sym, ◌∙◌, ap}
use borrow.Author.Tests.{ne_eqb}
use native.Mathlib.Omega.{arith}
use Rattle.insn.specs.declared.Insn.{Insn}
use Rattle.insn.specs.declared.Insn.TheVariants.{Nop, StoreSp, Stop, Jr, JrIf, LoadPair, AddHl, StoreAt, LoadAt, IncPair, DecPair, Inc, Dec, Load, RotateA, Daa, Cpl, Scf, Ccf, Halt, Math, RetIf, StoreHigh, AddSp, LoadHigh, LoadHlSp, Pop, Ret, Reti, JumpHl, LoadSpHl, JumpIf, StoreHighC, StoreTo, LoadHighC, LoadFrom, Jump, Rotate, Bit, Res, Set, Di, Ei, CallIf, Push, Call, Rst, Undefined}
use Rattle.machine.specs.Answers.{Storing, storing}
use Rattle.machine.specs.State.{with_sp, with_pc, with_ime, hl_of, with_hl}
use Rattle.machine.specs.Stack.{pushed_of, returned_to, called_of}
use Rattle.machine.specs.Execute.{exec_of, result_of, added_to_hl_of, added_to_sp_of, hl_from_sp_of, stored_to, stored_at_of, loaded_from, complemented_of, with_carry_of, halted_by, halted_of}
use Rattle.machine.specs.Memory.{Memory, word_stores}
use Rattle.machine.specs.Modes.{is_on, armed_of, settled_ime}
use Rattle.machine.specs.Interrupts.{pending_of, dispatch_due_of}
use Rattle.machine.specs.Step.{dispatches, idles, next_insn, next_after, ready_of, end_of, instruction_act, SettledBy, step_of}
use Rattle.machine.specs.declared.Ime.{Ime}
use Rattle.machine.specs.declared.Ime.TheVariants.{Off, Arming, On}
use Rattle.machine.specs.declared.Cpu.{Cpu}
use Rattle.machine.specs.declared.Done.{Done}
use Rattle.machine.proofs.Rules.{step_insn}
use Rattle.machine.proofs.Fields.{imed, value_read, held_read, pair_read, stacked_read, pointed_read, placed_left, updated_left, pair_left, stacked_left, moved_left, taken_left}

-- what the instruction i has to do with IME: three set it, and HALT looks at it; every other leaves it, and does the same from any
pub data Uses (own : ℕ) (i : Insn) (s : Cpu) (m : Memory) : Type 0 where
  is_di : i ≡ Di → Uses own i s m
  is_ei : i ≡ Ei → Uses own i s m
  is_reti : i ≡ Reti → Uses own i s m
  is_halt : i ≡ Halt → Uses own i s m
  leaves : ((u : Ime) → exec_of own i (with_ime u s) m ≡ storing (imed u (exec_of own i s m).out) (exec_of own i s m).stores)
      → Uses own i s m

pub exec_uses : (own : ℕ) (i : Insn) (s : Cpu) (m : Memory) → Uses own i s m
unfolding exec_of result_of added_to_hl_of added_to_sp_of hl_from_sp_of hl_of with_hl word_stores stored_to stored_at_of loaded_from complemented_of with_carry_of returned_to called_of pushed_of
exec_uses own Nop s m = leaves (λ _. refl)
exec_uses own (StoreSp w) s m = leaves (λ _. refl)
exec_uses own Stop s m = leaves (λ _. refl)
exec_uses own (Jr e) s m = leaves (λ _. refl)
exec_uses own (JrIf cc e) s m = leaves (λ u. rw (taken_left u s _ _ (with_pc _ s)))
exec_uses own (LoadPair w rp) s m = leaves (λ _. rw pair_left)
exec_uses own (AddHl rp) s m = leaves (λ _. rw pair_read)
exec_uses own (StoreAt q) s m = leaves (λ _. rw (pointed_read, moved_left))
exec_uses own (LoadAt q) s m = leaves (λ u. rw (pointed_read, moved_left u (loaded_from _ s m)))
exec_uses own (IncPair rp) s m = leaves (λ _. rw (pair_read, pair_left))
exec_uses own (DecPair rp) s m = leaves (λ _. rw (pair_read, pair_left))
exec_uses own (Inc p) s m = leaves (λ _. rw (held_read, updated_left))
exec_uses own (Dec p) s m = leaves (λ _. rw (held_read, updated_left))
exec_uses own (Load p o) s m = leaves (λ _. rw (value_read, placed_left))
exec_uses own (RotateA r) s m = leaves (λ _. refl)
exec_uses own Daa s m = leaves (λ _. refl)
exec_uses own Cpl s m = leaves (λ _. refl)
exec_uses own Scf s m = leaves (λ _. refl)
exec_uses own Ccf s m = leaves (λ _. refl)
exec_uses own Halt s m = is_halt refl
exec_uses own (Math op o) s m = leaves (λ _. rw value_read)
exec_uses own (RetIf cc) s m = leaves (λ u. rw (taken_left u s _ _ (returned_to _ s)))
exec_uses own (StoreHigh n) s m = leaves (λ _. refl)
exec_uses own (AddSp e) s m = leaves (λ _. refl)
exec_uses own (LoadHigh n) s m = leaves (λ _. refl)
exec_uses own (LoadHlSp e) s m = leaves (λ _. refl)
exec_uses own (Pop rp) s m = leaves (λ u. rw (stacked_left u (with_sp _ s)))
exec_uses own Ret s m = leaves (λ _. refl)
exec_uses own Reti s m = is_reti refl
exec_uses own JumpHl s m = leaves (λ _. refl)
exec_uses own LoadSpHl s m = leaves (λ _. refl)
exec_uses own (JumpIf cc w) s m = leaves (λ u. rw (taken_left u s _ _ (with_pc w s)))
exec_uses own StoreHighC s m = leaves (λ _. refl)
exec_uses own (StoreTo w) s m = leaves (λ _. refl)
exec_uses own LoadHighC s m = leaves (λ _. refl)
exec_uses own (LoadFrom w) s m = leaves (λ _. refl)
exec_uses own (Jump w) s m = leaves (λ _. refl)
exec_uses own (Rotate r p) s m = leaves (λ _. rw (held_read, updated_left))
exec_uses own (Bit k p) s m = leaves (λ _. rw held_read)
exec_uses own (Res k p) s m = leaves (λ _. rw (held_read, placed_left))
exec_uses own (Set k p) s m = leaves (λ _. rw (held_read, placed_left))
exec_uses own Di s m = is_di refl
exec_uses own Ei s m = is_ei refl
exec_uses own (CallIf cc w) s m = leaves (λ u. rw (taken_left u s _ _ (called_of w s).out))
exec_uses own (Push rp) s m = leaves (λ _. rw stacked_read)
exec_uses own (Call w) s m = leaves (λ _. refl)
exec_uses own (Rst v) s m = leaves (λ _. refl)
exec_uses own Undefined s m = leaves (λ _. refl)

-- what it makes of an IME t
pub data Switched (t : Ime) : Insn → Ime → Type 0 where
  di : Switched t Di Off
  ei : Switched t Ei (armed_of t)
  reti : Switched t Reti On
  halt : t ≡ Arming → Switched t Halt On
  kept : {i : Insn} → Switched t i t

halt_switched : (b : Bool) (t : Ime) (own : ℕ) (s : Cpu) → Switched t Halt (halted_by b t own (with_ime t s)).ime
unfolding halted_by
halt_switched true Off own s = kept
halt_switched true Arming own s = halt refl
halt_switched true On own s = kept
halt_switched false t own s = kept

uses_switched : {own : ℕ} {i : Insn} {s : Cpu} {m : Memory} → Uses own i s m
    → Switched s.ime i (exec_of own i s m).out.cpu.ime
unfolding exec_of halted_of
uses_switched (is_di e) = rw e di
uses_switched (is_ei e) = rw e ei
uses_switched (is_reti e) = rw e reti
uses_switched {own = own} {s = s} (is_halt e) = rw e (halt_switched _ s.ime own s)
uses_switched {s = s} (leaves e) = rw (ap (λ (w : Storing Done). w.out.cpu.ime) (e s.ime)) kept

pub exec_switched : (own : ℕ) (i : Insn) (s : Cpu) (m : Memory) → Switched s.ime i (exec_of own i s m).out.cpu.ime
exec_switched own i s m = uses_switched (exec_uses own i s m)

-- to settle IME before the instruction, and nothing at its end, comes to the same, but for a HALT that finds Arming and a request

uses_settled : (k own : ℕ) (s : Cpu) {i : Insn} {m : Memory} → (i ≡ Halt → pending_of m ≡ 0) → Uses own i (with_ime Arming s) m
    → end_of k Arming (exec_of own i (with_ime Arming s) m) ≡ end_of k Off (exec_of own i (with_ime On s) m)
unfolding exec_of returned_to settled_ime end_of armed_of halted_by halted_of
uses_settled k own s n (is_di e) = rw e
uses_settled k own s n (is_ei e) = rw e
uses_settled k own s n (is_reti e) = rw e
uses_settled k own s n (is_halt e) = rw (e, n e)
uses_settled k own s n (leaves e) = rw (e On, ap (λ (w : Storing Done). w.out.cpu.ime) (e Arming))

settled_from : (t : Ime) (k own : ℕ) (i : Insn) (s : Cpu) (m : Memory) → (i ≡ Halt → t ≡ Arming → pending_of m ≡ 0)
    → end_of k t (exec_of own i (with_ime t s) m) ≡ end_of k Off (exec_of own i (with_ime (settled_ime t t) s) m)
unfolding settled_ime end_of
settled_from Off k own i s m n = refl
settled_from Arming k own i s m n = uses_settled k own s (λ e. n e refl) (exec_uses own i (with_ime Arming s) m)
settled_from On k own i s m n = refl

-- such a HALT settles it by itself, so that it can be begun with IME as it is

looked_from : (t : Ime) (k own : ℕ) (s : Cpu) (m : Memory) → pending_of m ≢ 0
    → end_of k t (exec_of own Halt (with_ime t s) m) ≡ end_of k Off (exec_of own Halt (with_ime t s) m)
unfolding exec_of settled_ime end_of halted_by halted_of
looked_from Off k own s m n = refl
looked_from Arming k own s m n = rw (ne_eqb (pending_of m) 0 n)
looked_from On k own s m n = refl

module _ (s : Cpu) (m : Memory) where
  pub settled_first : (next_insn s m ≡ Halt → s.ime ≡ Arming → pending_of m ≡ 0) → SettledBy (settled_ime s.ime s.ime) s m
  unfolding ready_of instruction_act
  settled_first n = settled_from s.ime _ s.pc (next_insn s m) (ready_of (next_after s m) s) m n

  pub looked_first : next_insn s m ≡ Halt → pending_of m ≢ 0 → SettledBy s.ime s m
  unfolding ready_of instruction_act
  looked_first e n = rw e (looked_from s.ime _ s.pc (ready_of (next_after s m) s) m n)

-- what holds of u holds of what is u
pub being : {A : Type 0} {t u : A} (P : A → Type 0) → t ≡ u → P u → P t
being P e h = rw e h

off_apart : Off ≡ Arming → ⊥
off_apart e = let z : ◌≡◌ {A = ℕ} 0 1 = cc in omega arith

-- IME Off is settled as it is
off_settled : (t : Ime) → t ≡ Off → t ≡ settled_ime t t
unfolding settled_ime
off_settled t e = being (λ u. u ≡ settled_ime u u) e refl

pub quiet_settled : (s : Cpu) (m : Memory) {u : Ime} → u ≡ s.ime → s.ime ≡ Off → SettledBy u s m
quiet_settled s m e o = rw (e ∙ off_settled s.ime o) (settled_first s m (λ _ a. absurd (off_apart (sym o ∙ a))))

-- every instruction but those four leaves it
left_alone : {t r : Ime} {i : Insn} → Switched t i r → i ≢ Di → i ≢ Ei → i ≢ Reti → i ≢ Halt → r ≡ t
left_alone di d e r h = absurd (d refl)
left_alone ei d e r h = absurd (e refl)
left_alone reti d e r h = absurd (r refl)
left_alone (halt a) d e r h = absurd (h refl)
left_alone kept d e r h = refl

pub exec_ime : (own : ℕ) (i : Insn) (s : Cpu) (m : Memory) → i ≢ Di → i ≢ Ei → i ≢ Reti → i ≢ Halt
    → (exec_of own i s m).out.cpu.ime ≡ s.ime
exec_ime own i s m = left_alone (exec_switched own i s m)

-- at the end of an instruction, by the IME at its start

from_arming : {r : Ime} {i : Insn} → Switched Arming i r → i ≢ Di → settled_ime Arming r ≡ On
unfolding settled_ime armed_of
from_arming di d = absurd (d refl)
from_arming ei d = refl
from_arming reti d = refl
from_arming (halt a) d = refl
from_arming kept d = refl

from_on : {r : Ime} {i : Insn} → Switched On i r → i ≢ Di → settled_ime On r ≡ On
unfolding settled_ime armed_of
from_on di d = absurd (d refl)
from_on ei d = refl
from_on reti d = refl
from_on (halt a) d = refl
from_on kept d = refl

from_off : {r : Ime} {i : Insn} → Switched Off i r → i ≢ Ei → i ≢ Reti → settled_ime Off r ≡ Off
unfolding settled_ime armed_of
from_off di e r = refl
from_off ei e r = absurd (e refl)
from_off reti e r = absurd (r refl)
from_off (halt a) e r = absurd (off_apart a)
from_off kept e r = refl

to_off : (t : Ime) → settled_ime t Off ≡ Off
unfolding settled_ime
to_off Off = refl
to_off Arming = refl
to_off On = refl

to_on : (t : Ime) → settled_ime t On ≡ On
unfolding settled_ime
to_on Off = refl
to_on Arming = refl
to_on On = refl

-- the instruction at PC
module _ (s : Cpu) (m : Memory) where
  -- IME when the instruction i is done, before rule 3's last sentence
  abbrev done_ime : Insn → Ime
  done_ime i = (exec_of s.pc i (ready_of (next_after s m) s) m).out.cpu.ime

  abbrev ended : Ime
  ended = done_ime (next_insn s m)

  switched : Switched s.ime (next_insn s m) ended
  unfolding ready_of
  switched = exec_switched s.pc (next_insn s m) (ready_of (next_after s m) s) m

  insn_ime : (instruction_act s m).cpu.ime ≡ settled_ime s.ime ended
  unfolding instruction_act end_of
  insn_ime = refl

  -- from a start t it ends with u
  abbrev Ends : Ime → Ime → Type 0
  Ends t u = Switched t (next_insn s m) ended → settled_ime t ended ≡ u

  pub arming_on : s.ime ≡ Arming → next_insn s m ≢ Di → (instruction_act s m).cpu.ime ≡ On
  arming_on e d = insn_ime ∙ being (λ t. Ends t On) e (λ h. from_arming h d) switched

  pub on_stays : s.ime ≡ On → next_insn s m ≢ Di → (instruction_act s m).cpu.ime ≡ On
  on_stays e d = insn_ime ∙ being (λ t. Ends t On) e (λ h. from_on h d) switched

  pub off_stays : s.ime ≡ Off → next_insn s m ≢ Ei → next_insn s m ≢ Reti → (instruction_act s m).cpu.ime ≡ Off
  off_stays e i r = insn_ime ∙ being (λ t. Ends t Off) e (λ h. from_off h i r) switched

  -- DI: Off; RETI: On at once; EI: Off becomes Arming
  pub di_off : next_insn s m ≡ Di → (instruction_act s m).cpu.ime ≡ Off
  unfolding exec_of
  di_off e = insn_ime ∙ being (λ i. settled_ime s.ime (done_ime i) ≡ Off) e (to_off s.ime)

  pub reti_on : next_insn s m ≡ Reti → (instruction_act s m).cpu.ime ≡ On
  unfolding exec_of
  reti_on e = insn_ime ∙ being (λ i. settled_ime s.ime (done_ime i) ≡ On) e (to_on s.ime)

  pub ei_arming : next_insn s m ≡ Ei → s.ime ≡ Off → (instruction_act s m).cpu.ime ≡ Arming
  unfolding exec_of ready_of settled_ime armed_of
  ei_arming e o =
      insn_ime
      ∙ being (λ i. settled_ime s.ime (done_ime i) ≡ Arming) e (being (λ t. settled_ime t (armed_of t) ≡ Arming) o refl)

  -- the document's sentence, of a step that is accepted and runs an instruction
  arming_dispatch : s.ime ≡ Arming → dispatches s m ≡ false
  unfolding dispatches dispatch_due_of is_on
  arming_dispatch e = being (λ t. dispatch_due_of t (pending_of m) ≡ false) e refl

  pub step_arming : s.ime ≡ Arming → idles s m ≡ false → (step_of s m).out.code ≡ 0 → next_insn s m ≢ Di
      → (step_of s m).out.cpu.ime ≡ On
  step_arming e i c d = rw (step_insn s m (arming_dispatch e) i c) (arming_on e d)

  pub step_di : s.ime ≡ Arming → idles s m ≡ false → (step_of s m).out.code ≡ 0 → next_insn s m ≡ Di
      → (step_of s m).out.cpu.ime ≡ Off
  step_di e i c d = rw (step_insn s m (arming_dispatch e) i c) (di_off d)

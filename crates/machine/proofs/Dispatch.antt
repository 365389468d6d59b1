-- The dispatch: what it stores and in which order, what it chooses from, and exactly when nothing is left to choose. Document 02,
-- M-100.
-- Assumes nothing.
use Prim.Native.Nat.{ℕ, ◌+◌, ◌*◌, ◌%◌, ◌<◌, ◌≤◌}
use mathlib.Core.Bool.{Bool, true, false}
use mathlib.Core.List.{[], ◌∷◌, ◌++◌}
use mathlib.Core.Logic.{◌≢◌, ◌↔◌, ◌⊎◌, inl, inr, ⊎_elim}
use mathlib.Core.Path.{◌≡◌, refl, sym, ◌∙◌}
use borrow.Author.Tests.{eqb-true, eqb-false, ne_eqb}
use native.Mathlib.Omega.{arith}
use lib.Bits.{bit_and}
use lib.Dec.{eqb}
use lib.ListN.{length}
use Rattle.arith.specs.Bytes.{reset_of}
use Rattle.arith.specs.Width.{difference_of}
use Rattle.arith.specs.Words.{high_of, low_of, back}
use Rattle.arith.proofs.Laws.{word_back, back_below}
use Rattle.machine.specs.Memory.{Memory, memory_size, byte_at, word_at, Store, store, made}
use Rattle.machine.specs.Answers.{storing}
use Rattle.machine.specs.Stack.{high_below, low_below}
use Rattle.machine.specs.Interrupts.{pending_of, lowest_of, chosen_if, chosen_of, vectored_of, dispatch_of}
use Rattle.machine.specs.Step.{act, accepting, dispatches, step_of}
use Rattle.machine.specs.declared.Ime.TheVariants.{On}
use Rattle.machine.specs.declared.Cpu.{Cpu}
use Rattle.machine.proofs.ReadOverWrite.{stored_length, stored_same, stored_other, made_append, made_length, Spared, made_other, back_apart, back_next}
use Rattle.machine.proofs.Rules.{dispatch_is, step_dispatch}

-- with IME On and a request pending the very next accepted step is a dispatch
pub step_served : (s : Cpu) (m : Memory) → s.ime ≡ On → pending_of m ≢ 0 → (step_of s m).out.code ≡ 0
    → step_of s m ≡ accepting (act 5 (dispatch_of s m)) m
unfolding dispatches
step_served s m i p = step_dispatch s m ((dispatch_is s.ime (pending_of m)).1 (i, p))

-- the choice stores IF or nothing

few_at : (p : Bool) (k : ℕ) (m : Memory) (x y : Store) → length (x ∷ ((chosen_if p k m).stores ++ (y ∷ []))) ≤ 3
unfolding chosen_if
few_at true k m x y = omega arith
few_at false k m x y = omega arith

spared_at : (p : Bool) (k : ℕ) (m : Memory) (at : ℕ) → at ≢ 0xFF0F → Spared at (chosen_if p k m).stores
unfolding chosen_if
spared_at true k m at d = (d, tt)
spared_at false k m at d = tt

module _ (s : Cpu) (m : Memory) where
  -- the memory by the time of the choice: the high byte of PC is stored
  abbrev pub by_then : Memory
  by_then = made (high_below s.sp s.pc ∷ []) m

  -- something is pending by then: the high byte, IF without the lowest bit of it, the low byte
  pub dispatch_served : pending_of by_then ≢ 0
      → (let k = lowest_of (pending_of by_then) in
      dispatch_of s m
      ≡ storing (vectored_of (0x40 + 8 * k) s)
      (high_below s.sp s.pc ∷ store 0xFF0F (reset_of k (byte_at by_then 0xFF0F)) ∷ low_below s.sp s.pc ∷ []))
  unfolding chosen_if chosen_of dispatch_of
  dispatch_served d = rw (ne_eqb (pending_of by_then) 0 d)

  -- nothing is: the two bytes of PC, and PC is 0
  pub dispatch_cancelled : pending_of by_then ≡ 0
      → dispatch_of s m ≡ storing (vectored_of 0 s) (high_below s.sp s.pc ∷ low_below s.sp s.pc ∷ [])
  unfolding chosen_if chosen_of dispatch_of
  dispatch_cancelled e = rw e

  pub cancelled_is : ((dispatch_of s m).out.pc ≡ 0) ↔ (pending_of by_then ≡ 0)
  unfolding vectored_of
  cancelled_is = (go (eqb (pending_of by_then) 0) refl, λ e. rw (dispatch_cancelled e))
    where
      go : (b : Bool) → eqb (pending_of by_then) 0 ≡ b → (dispatch_of s m).out.pc ≡ 0 → pending_of by_then ≡ 0
      go true e z = eqb-true (pending_of by_then) 0 e
      go false e z = let v = rw (dispatch_served (eqb-false (pending_of by_then) 0 e)) at z in absurd (omega (arith, v))

  pub dispatch_few : length (dispatch_of s m).stores ≤ 3
  unfolding chosen_of dispatch_of
  dispatch_few = few_at _ _ by_then (high_below s.sp s.pc) (low_below s.sp s.pc)

  -- what it chooses from: what was pending before, unless the high byte has landed on IE or on IF

  pub pending_kept : back 1 s.sp ≢ 0xFFFF → back 1 s.sp ≢ 0xFF0F → pending_of by_then ≡ pending_of m
  unfolding pending_of
  pending_kept p q =
      rw (
        stored_other m (back 1 s.sp) (high_of s.pc) 0xFFFF (λ e. p (omega arith)),
        stored_other m (back 1 s.sp) (high_of s.pc) 0xFF0F (λ e. q (omega arith)),
      )

  pub pending_by_ie : length m ≡ memory_size → back 1 s.sp ≡ 0xFFFF
      → pending_of by_then ≡ bit_and (high_of s.pc) (byte_at m 0xFF0F) % 32
  unfolding pending_of
  pending_by_ie l e =
      rw (e, stored_same m 0xFFFF (high_of s.pc) (omega arith), stored_other m 0xFFFF (high_of s.pc) 0xFF0F (λ q. omega arith))

  pub pending_by_if : length m ≡ memory_size → back 1 s.sp ≡ 0xFF0F
      → pending_of by_then ≡ bit_and (byte_at m 0xFFFF) (high_of s.pc) % 32
  unfolding pending_of
  pending_by_if l e =
      rw (e, stored_same m 0xFF0F (high_of s.pc) (omega arith), stored_other m 0xFF0F (high_of s.pc) 0xFFFF (λ q. omega arith))

  -- so a dispatch that is due is cancelled exactly if the high byte lands on IE, or on IF, and takes every request away
  abbrev pub Cancels : Type 0
  Cancels =
      ((s.sp ≡ 0) × (bit_and (high_of s.pc) (byte_at m 0xFF0F) % 32 ≡ 0))
      ⊎ ((s.sp ≡ 0xFF10) × (bit_and (byte_at m 0xFFFF) (high_of s.pc) % 32 ≡ 0))

  module _ (l : length m ≡ memory_size) (sp : s.sp < 65536) (due : pending_of m ≢ 0) where
    cancels_by : (b c : Bool) → eqb s.sp 0 ≡ b → eqb s.sp 0xFF10 ≡ c → pending_of by_then ≡ 0 → Cancels
    unfolding back difference_of
    cancels_by true c p q e =
        let z = eqb-true s.sp 0 p in inl (z, sym (pending_by_ie l (omega (arith, z))) ∙ e)
    cancels_by false true p q e =
        let z = eqb-true s.sp 0xFF10 q in inr (z, sym (pending_by_if l (omega (arith, z))) ∙ e)
    cancels_by false false p q e =
        let x = eqb-false s.sp 0 p in
        let y = eqb-false s.sp 0xFF10 q in
        absurd (due (sym (pending_kept (λ k. x (omega (arith, k, sp))) (λ k. y (omega (arith, k, sp)))) ∙ e))

    pub cancelled_exactly : (pending_of by_then ≡ 0) ↔ Cancels
    unfolding back difference_of
    cancelled_exactly = (
      cancels_by _ _ refl refl,
      ⊎_elim (λ h. pending_by_ie l (omega (arith, h.0)) ∙ h.1) (λ h. pending_by_if l (omega (arith, h.0)) ∙ h.1),
    )

  -- the word that was pushed is PC, unless its high byte was stored on IF, where the bit is cleared after it
  pub dispatch_word : length m ≡ memory_size → s.pc < 65536 → back 1 s.sp ≢ 0xFF0F
      → word_at (made (dispatch_of s m).stores m) (dispatch_of s m).out.sp ≡ s.pc
  unfolding word_at chosen_of vectored_of dispatch_of
  dispatch_word l p d =
      let chosen = made (chosen_of by_then).stores by_then in
      let long : length chosen ≡ memory_size = made_length (chosen_of by_then).stores by_then ∙ stored_length m _ _ ∙ l in
      let low = stored_same chosen (back 2 s.sp) (low_of s.pc) (omega (arith, back_below 2 s.sp, long)) in
      let kept = stored_other chosen (back 2 s.sp) (low_of s.pc) (back 1 s.sp) (back_apart s.sp) in
      let spared = made_other (chosen_of by_then).stores by_then (back 1 s.sp) (spared_at _ _ by_then (back 1 s.sp) d) in
      let high = stored_same m (back 1 s.sp) (high_of s.pc) (omega (arith, back_below 1 s.sp, l)) in
      rw (made_append, back_next s.sp, low, kept, spared, high) (word_back s.pc p)

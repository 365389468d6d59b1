-- What every instruction keeps, one line for each: what it costs beyond its own cycles, the low four bits of F at 0, registers below
-- 256, SP and PC below 65,536, and at most two stores of bytes below 256. A step keeps state and memory within these bounds.
-- Assumes nothing.
use Prim.Native.Nat.{ℕ, ◌-◌, ◌%◌, ◌<◌, ◌≤◌}
use mathlib.Core.Bool.{Bool, true, false}
use mathlib.Core.List.{List, [], ◌∷◌, ◌++◌}
use mathlib.Core.Path.{◌≡◌, refl}
use native.Mathlib.Omega.{arith}
use borrow.Author.Tests.{eqb-true, eqb-false, leb-true, leb-false}
use lib.Dec.{eqb, leb}
use lib.ListN.{length}
use Rattle.arith.specs.Bytes.{added_of, subtracted_of, logic_of, compared_of, alu_of}
use Rattle.arith.specs.Flags.{z_of, c_of}
use Rattle.arith.specs.Words.{high_of, back}
use Rattle.arith.specs.Rotates.{rotation_of, rotation_a_of}
use Rattle.arith.specs.declared.Alu.{Alu}
use Rattle.arith.specs.declared.Alu.TheVariants.{Add, Adc, Sub, Sbc, And, Xor, Or, Cp}
use Rattle.arith.specs.Flagged.{Byte}
use Rattle.arith.proofs.Laws.{ByteFits, flags_low, flags_below, high_below_lem, low_below_lem, word_below, further_below, back_below, offset_below, alu_fits, increased_fits, decreased_fits, rotation_fits, rotation_a_fits, decimal_fits, added_hl_fits, added_sp_fits, reset_below, set_below, tested_low, tested_below}
use Rattle.insn.specs.Shapes.{shape_of}
use Rattle.insn.specs.Grid.{operand_of}
use Rattle.insn.specs.declared.Register.{Register}
use Rattle.insn.specs.declared.Register.TheVariants as reg
use Rattle.insn.specs.declared.Operand.{Operand}
use Rattle.insn.specs.declared.Operand.TheVariants.{Reg, AtHl, Const}
use Rattle.insn.specs.declared.Place.{Place}
use Rattle.insn.specs.declared.Pair.{Pair}
use Rattle.insn.specs.declared.Pair.TheVariants as pair
use Rattle.insn.specs.declared.Stacked.{Stacked}
use Rattle.insn.specs.declared.Stacked.TheVariants as stacked
use Rattle.insn.specs.declared.Pointer.{Pointer}
use Rattle.insn.specs.declared.Pointer.TheVariants as pointer
use Rattle.insn.specs.declared.Insn.{Insn}
use Rattle.insn.specs.declared.Insn.TheVariants.{Nop, StoreSp, Stop, Jr, JrIf, LoadPair, AddHl, StoreAt, LoadAt, IncPair, DecPair, Inc, Dec, Load, RotateA, Daa, Cpl, Scf, Ccf, Halt, Math, RetIf, StoreHigh, AddSp, LoadHigh, LoadHlSp, Pop, Ret, Reti, JumpHl, LoadSpHl, JumpIf, StoreHighC, StoreTo, LoadHighC, LoadFrom, Jump, Rotate, Bit, Res, Set, Di, Ei, CallIf, Push, Call, Rst, Undefined}
use Rattle.insn.proofs.Sound.{SoundOperand, SoundInsn, place_sound, decode_sound}
use Rattle.machine.specs.State.{with_f, register_of, with_register, hl_of, with_hl, with_pair, with_stacked}
use Rattle.machine.specs.Answers.{With, Storing, storing}
use Rattle.machine.specs.Memory.{Memory, byte_at, word_at, Store, store, word_stores, stored, made}
use Rattle.machine.specs.Stack.{high_below, pushed_of, returned_to, called_of}
use Rattle.machine.specs.Operands.{value_of, held_of, placed_of, updated_of, moved_of}
use Rattle.machine.specs.Execute.{done, plainly, exec_of, result_of, added_to_hl_of, added_to_sp_of, hl_from_sp_of, taken_if, stores_if, stored_to, stored_at_of, loaded_from, complemented_of, with_carry_of, halted_by, halted_of}
use Rattle.machine.specs.Interrupts.{pending_of, lowest_set, lowest_of, chosen_if, chosen_of, vectored_of, dispatch_of}
use Rattle.machine.specs.Step.{Stepped, act, accepting, next_rest, next_insn, next_after, ready_of, end_of, instruction_act, rule_of, step_refusals, step_of}
use Rattle.machine.specs.declared.Ime.{Ime}
use Rattle.machine.specs.declared.Ime.TheVariants.{Off, Arming, On}
use Rattle.machine.specs.declared.Cpu.{Cpu}
use Rattle.machine.specs.declared.Done.{Done}
use Rattle.machine.proofs.Fields.{by_place, pair_same, moved_same, placed_same, updated_same, taken_same}
use Rattle.machine.proofs.Sound.{Sound, Bytes}
use Rattle.machine.proofs.ReadOverWrite.{stored_same, stored_other, stored_out}
use Rattle.machine.proofs.Rules.{by_outcome, by_rules}

-- what is read

pub word_at_below : (m : Memory) (at : ℕ) → Bytes m → word_at m at < 65536
unfolding word_at
word_at_below m at b = word_below _ _ (b _) (b at)

pub reg_below : (r : Register) (s : Cpu) → Sound s → register_of r s < 256
unfolding register_of
reg_below reg.B s h = h.b
reg_below reg.C s h = h.c
reg_below reg.D s h = h.d
reg_below reg.E s h = h.e
reg_below reg.H s h = h.h
reg_below reg.L s h = h.l
reg_below reg.A s h = h.a

pub hl_below : (s : Cpu) → Sound s → hl_of s < 65536
unfolding hl_of
hl_below s h = word_below s.h s.l h.h h.l

pub value_below : (o : Operand) (s : Cpu) (m : Memory) → SoundOperand o → Sound s → Bytes m → value_of o s m < 256
unfolding value_of
value_below (Reg r) s m i h b = reg_below r s h
value_below AtHl s m i h b = b (hl_of s)
value_below (Const v) s m i h b = i

held_below : (p : Place) (s : Cpu) (m : Memory) → Sound s → Bytes m → held_of p s m < 256
unfolding held_of
held_below p s m h b = value_below (operand_of p) s m (place_sound p) h b

-- what is set

reg_sound : (r : Register) (v : ℕ) (s : Cpu) → v < 256 → Sound s → Sound (with_register r v s)
unfolding with_register
reg_sound reg.B v s p h = omega arith
reg_sound reg.C v s p h = omega arith
reg_sound reg.D v s p h = omega arith
reg_sound reg.E v s p h = omega arith
reg_sound reg.H v s p h = omega arith
reg_sound reg.L v s p h = omega arith
reg_sound reg.A v s p h = omega arith

pair_sound : (rp : Pair) (w : ℕ) (s : Cpu) → w < 65536 → Sound s → Sound (with_pair rp w s)
unfolding with_pair with_hl
pair_sound pair.Bc w s p h = omega (arith, high_below_lem w, low_below_lem w)
pair_sound pair.De w s p h = omega (arith, high_below_lem w, low_below_lem w)
pair_sound pair.Hl w s p h = omega (arith, high_below_lem w, low_below_lem w)
pair_sound pair.Sp w s p h = omega arith

stacked_sound : (rp : Stacked) (w : ℕ) (s : Cpu) → Sound s → Sound (with_stacked rp w s)
unfolding with_stacked with_hl
stacked_sound stacked.Bc w s h = omega (arith, high_below_lem w, low_below_lem w)
stacked_sound stacked.De w s h = omega (arith, high_below_lem w, low_below_lem w)
stacked_sound stacked.Hl w s h = omega (arith, high_below_lem w, low_below_lem w)
stacked_sound stacked.Af w s h = omega (arith, high_below_lem w, low_below_lem w)

flags_sound : (f : ℕ) (s : Cpu) → f < 256 → Sound s → Sound (with_f f s)
flags_sound f s p h = omega arith

hl_sound : (w : ℕ) (s : Cpu) → Sound s → Sound (with_hl w s)
unfolding with_hl
hl_sound w s h = omega (arith, high_below_lem w, low_below_lem w)

moved_sound : (p : Pointer) (s : Cpu) → Sound s → Sound (moved_of p s)
unfolding moved_of
moved_sound pointer.Bc s h = h
moved_sound pointer.De s h = h
moved_sound pointer.Hli s h = hl_sound _ s h
moved_sound pointer.Hld s h = hl_sound _ s h

placed_sound : (q : Place) (v : ℕ) (s : Cpu) → v < 256 → Sound s → Sound (placed_of q v s).out
placed_sound q v s p h = by_place (λ w. Sound w.out) v s (λ r. reg_sound r v s p h) h q

updated_sound : (q : Place) (r : Byte) (s : Cpu) → ByteFits r → Sound s → Sound (updated_of q r s).out
unfolding updated_of
updated_sound q r s f h = placed_sound q r.value _ f.value_below (omega (arith, f.flags_below))

result_sound : (r : Byte) (s : Cpu) → ByteFits r → Sound s → Sound (result_of r s)
unfolding result_of
result_sound r s f h = omega (arith, f.value_below, f.flags_below)

loaded_sound : (at : ℕ) (s : Cpu) (m : Memory) → Sound s → Bytes m → Sound (loaded_from at s m)
unfolding loaded_from
loaded_sound at s m h b = omega (arith, b at)

halted_sound : (b : Bool) (t : Ime) (own : ℕ) (s : Cpu) → own < 65536 → Sound s → Sound (halted_by b t own s)
unfolding halted_by
halted_sound true Off own s p h = omega arith
halted_sound true Arming own s p h = omega arith
halted_sound true On own s p h = omega arith
halted_sound false t own s p h = omega arith

taken_sound : (t : Bool) (k : ℕ) (next s : Cpu) → Sound next → Sound s → Sound (taken_if t k next s).cpu
unfolding taken_if
taken_sound true k next s n h = n
taken_sound false k next s n h = h

-- what is stored

abbrev Small : List Store → Type 0
Small [] = Unit {0}
Small (x ∷ xs) = (x.value < 256) × Small xs

stored_small : (m : Memory) (to v at : ℕ) (t u : Bool) → eqb at to ≡ t → leb (length m) to ≡ u → v < 256 → Bytes m
    → byte_at (stored m to v) at < 256
stored_small m to v at false u e k p b = rw (stored_other m to v at (eqb-false at to e)) (b at)
stored_small m to v at true true e k p b = rw (stored_out m to v (leb-true _ _ k)) (b at)
stored_small m to v at true false e k p b =
    rw (eqb-true at to e, stored_same m to v (leb-false (length m) to k)) p

pub stored_bytes : (m : Memory) (to v : ℕ) → v < 256 → Bytes m → Bytes (stored m to v)
stored_bytes m to v p b at = stored_small m to v at _ _ refl refl p b

made_bytes : (xs : List Store) (m : Memory) → Small xs → Bytes m → Bytes (made xs m)
made_bytes [] m p b = b
made_bytes (x ∷ xs) m p b = made_bytes xs _ p.1 (stored_bytes m x.at x.value p.0 b)

-- what an instruction stores: at most two bytes, each below 256
pub record Stored (i : Insn) (s : Cpu) (m : Memory) (xs : List Store) : Type 0 where
  pub few : length xs ≤ 2
  pub small : SoundInsn i → Sound s → Bytes m → Small xs

module _ {i : Insn} {s : Cpu} {m : Memory} where
  none : Stored i s m []
  none = record { few = omega arith; small = λ _ _ _. tt }

  one : {at v : ℕ} → (SoundInsn i → Sound s → Bytes m → v < 256) → Stored i s m (store at v ∷ [])
  one p = record { few = omega arith; small = λ i h b. (p i h b, tt) }

  two : {at v to w : ℕ} → v < 256 → w < 256 → Stored i s m (store at v ∷ store to w ∷ [])
  two p q = record { few = omega arith; small = λ _ _ _. (p, (q, tt)) }

  push_stores : (w : ℕ) (t : Cpu) → Stored i s m (pushed_of w t).stores
  unfolding pushed_of
  push_stores w t = two (high_below_lem w) (low_below_lem w)

  if_stores : (t : Bool) {xs : List Store} → Stored i s m xs → Stored i s m (stores_if t xs)
  unfolding stores_if
  if_stores true p = p
  if_stores false p = none

  place_stores : (q : Place) (v : ℕ) (t : Cpu) → (SoundInsn i → Sound s → Bytes m → v < 256) → Stored i s m (placed_of q v t).stores
  place_stores q v t p = by_place (λ w. Stored i s m w.stores) v t (λ r. none) (one p) q

-- the low four bits of F

alu_low : (op : Alu) (a b f : ℕ) → (alu_of op a b f).flags % 16 ≡ 0
unfolding alu_of added_of subtracted_of logic_of compared_of
alu_low Add a b f = flags_low _ _ _ _
alu_low Adc a b f = flags_low _ _ _ _
alu_low Sub a b f = flags_low _ _ _ _
alu_low Sbc a b f = flags_low _ _ _ _
alu_low And a b f = flags_low _ _ _ _
alu_low Xor a b f = flags_low _ _ _ _
alu_low Or a b f = flags_low _ _ _ _
alu_low Cp a b f = flags_low _ _ _ _

same_low : {f g : ℕ} → g ≡ f → f % 16 ≡ 0 → g % 16 ≡ 0
same_low e p = rw e p

stacked_low : (rp : Stacked) (w : ℕ) (s : Cpu) → s.f % 16 ≡ 0 → (with_stacked rp w s).f % 16 ≡ 0
unfolding with_stacked with_hl
stacked_low stacked.Bc w s p = p
stacked_low stacked.De w s p = p
stacked_low stacked.Hl w s p = p
stacked_low stacked.Af w s p = omega arith

halted_same : (b : Bool) (t : Ime) (own : ℕ) (s : Cpu) → (halted_by b t own s).f ≡ s.f
unfolding halted_by
halted_same true Off own s = refl
halted_same true Arming own s = refl
halted_same true On own s = refl
halted_same false t own s = refl

-- what a taken branch costs more

taken_most : (t : Bool) (k : ℕ) (next s : Cpu) → (taken_if t k next s).extra ≤ k
unfolding taken_if
taken_most true k next s = omega arith
taken_most false k next s = omega arith

-- what an instruction makes of the state: valid flags stay valid, and what is sound stays sound
pub record Changed (own : ℕ) (i : Insn) (s : Cpu) (m : Memory) (t : Cpu) : Type 0 where
  pub low : s.f % 16 ≡ 0 → t.f % 16 ≡ 0
  pub sound : own < 65536 → SoundInsn i → Sound s → Bytes m → Sound t

-- what holds of an instruction that is done: it costs no more than its shape says, and its state and its stores are such
pub record Executed (own : ℕ) (i : Insn) (s : Cpu) (m : Memory) (w : Storing Done) : Type 0 where
  pub extra : w.out.extra ≤ (shape_of i).taken
  pub state : Changed own i s m w.out.cpu
  pub stores : Stored i s m w.stores

module _ {own : ℕ} {i : Insn} {s : Cpu} {m : Memory} where
  -- a state with other flags, with the same, and the state itself
  new : {t : Cpu} → t.f % 16 ≡ 0 → (SoundInsn i → Sound s → Bytes m → Sound t) → Changed own i s m t
  new e h = record { low = λ _. e; sound = λ _. h }

  same : {t : Cpu} → t.f ≡ s.f → (SoundInsn i → Sound s → Bytes m → Sound t) → Changed own i s m t
  same e h = record { low = λ p. same_low e p; sound = λ _. h }

  kept : Changed own i s m s
  kept = same refl (λ _ h _. h)

  plain : {t : Cpu} → Changed own i s m t → Executed own i s m (plainly t)
  plain p = record { extra = omega arith; state = p; stores = none }

  does : {t : Cpu} {xs : List Store} → Changed own i s m t → Stored i s m xs → Executed own i s m (storing (done t) xs)
  does p x = record { extra = omega arith; state = p; stores = x }

  branches : (t : Bool) {next : Cpu} {xs : List Store} → next.f ≡ s.f → (SoundInsn i → Sound s → Bytes m → Sound next)
      → Stored i s m xs → Executed own i s m (storing (taken_if t (shape_of i).taken next s) xs)
  branches t e p x =
      record {
        extra = taken_most t _ _ _;
        state = same (taken_same t _ _ s e) (λ i h b. taken_sound t _ _ s (p i h b) h);
        stores = x;
      }

-- every instruction
pub executed : (own : ℕ) (i : Insn) (s : Cpu) (m : Memory) → Executed own i s m (exec_of own i s m)
unfolding exec_of word_stores result_of added_to_hl_of added_to_sp_of hl_from_sp_of with_hl stored_to stored_at_of loaded_from complemented_of with_carry_of halted_of rotation_of rotation_a_of returned_to called_of pushed_of updated_of
executed own Nop s m = plain kept
executed own (StoreSp w) s m = does kept (two (low_below_lem s.sp) (high_below_lem s.sp))
executed own Stop s m = plain (same refl (λ i h b. omega arith))
executed own (Jr e) s m = plain (same refl (λ i h b. omega (arith, offset_below e s.pc)))
executed own (JrIf cc e) s m = branches _ refl (λ i h b. omega (arith, offset_below e s.pc)) none
executed own (LoadPair w rp) s m = plain (same (pair_same rp _ _) (λ i h b. pair_sound rp w s i h))
executed own (AddHl rp) s m = plain (new (added_hl_fits _ _ _).flags_low (λ i h b. hl_sound _ _ (flags_sound _ s (added_hl_fits _ _ _).flags_below h)))
executed own (StoreAt p) s m = does (same (moved_same p _) (λ i h b. moved_sound p s h)) (one (λ _ h _. h.a))
executed own (LoadAt p) s m = plain (same (moved_same p _) (λ i h b. moved_sound p _ (loaded_sound _ s m h b)))
executed own (IncPair rp) s m = plain (same (pair_same rp _ _) (λ i h b. pair_sound rp _ s (further_below 1 _) h))
executed own (DecPair rp) s m = plain (same (pair_same rp _ _) (λ i h b. pair_sound rp _ s (back_below 1 _) h))
executed own (Inc q) s m = does (new (same_low (updated_same q _ s) (increased_fits _ _).flags_low) (λ i h b. updated_sound q _ s (increased_fits _ _) h)) (place_stores q _ _ (λ i h b. (increased_fits _ _).value_below))
executed own (Dec q) s m = does (new (same_low (updated_same q _ s) (decreased_fits _ _).flags_low) (λ i h b. updated_sound q _ s (decreased_fits _ _) h)) (place_stores q _ _ (λ i h b. (decreased_fits _ _).value_below))
executed own (Load q o) s m = does (same (placed_same _ _ _) (λ i h b. placed_sound q _ s (value_below o s m i h b) h)) (place_stores q _ _ (λ i h b. value_below o s m i h b))
executed own (RotateA r) s m = plain (new (flags_low _ _ _ _) (λ i h b. result_sound _ s (rotation_a_fits r s.a _ h.a) h))
executed own Daa s m = plain (new (decimal_fits _ _).flags_low (λ i h b. result_sound _ s (decimal_fits s.a s.f) h))
executed own Cpl s m = plain (new (flags_low _ _ _ _) (λ i h b. omega (arith, flags_below (z_of s.f) true true (c_of s.f))))
executed own Scf s m = plain (new (flags_low _ _ _ _) (λ i h b. flags_sound _ s (flags_below _ _ _ _) h))
executed own Ccf s m = plain (new (flags_low _ _ _ _) (λ i h b. flags_sound _ s (flags_below _ _ _ _) h))
executed own Halt s m = plain (record { low = same_low (halted_same _ s.ime own s); sound = λ o i h b. halted_sound _ s.ime own s o h })
executed own (Math op o) s m = plain (new (alu_low op _ _ _) (λ i h b. result_sound _ s (alu_fits op s.a _ s.f h.a (value_below o s m i h b)) h))
executed own (RetIf cc) s m = branches _ refl (λ i h b. omega (arith, further_below 2 s.sp, word_at_below m s.sp b)) none
executed own (StoreHigh n) s m = does kept (one (λ _ h _. h.a))
executed own (AddSp e) s m = plain (new (added_sp_fits _ _).flags_low (λ i h b. let r = added_sp_fits s.sp e in omega (arith, r.flags_below, r.value_below)))
executed own (LoadHigh n) s m = plain (same refl (λ i h b. loaded_sound _ s m h b))
executed own (LoadHlSp e) s m = plain (new (added_sp_fits _ _).flags_low (λ i h b. hl_sound _ _ (flags_sound _ s (added_sp_fits _ _).flags_below h)))
executed own (Pop rp) s m = plain (record { low = stacked_low rp _ _; sound = λ _ i h b. stacked_sound rp _ _ (omega (arith, further_below 2 s.sp)) })
executed own Ret s m = plain (same refl (λ i h b. omega (arith, further_below 2 s.sp, word_at_below m s.sp b)))
executed own Reti s m = plain (same refl (λ i h b. omega (arith, further_below 2 s.sp, word_at_below m s.sp b)))
executed own JumpHl s m = plain (same refl (λ i h b. omega (arith, hl_below s h)))
executed own LoadSpHl s m = plain (same refl (λ i h b. omega (arith, hl_below s h)))
executed own (JumpIf cc w) s m = branches _ refl (λ i h b. omega (arith, i)) none
executed own StoreHighC s m = does kept (one (λ _ h _. h.a))
executed own (StoreTo w) s m = does kept (one (λ _ h _. h.a))
executed own LoadHighC s m = plain (same refl (λ i h b. loaded_sound _ s m h b))
executed own (LoadFrom w) s m = plain (same refl (λ i h b. loaded_sound _ s m h b))
executed own (Jump w) s m = plain (same refl (λ i h b. omega (arith, i)))
executed own (Rotate r q) s m = does (new (same_low (updated_same q _ s) (flags_low _ _ _ _)) (λ i h b. updated_sound q _ s (rotation_fits r _ _ (held_below q s m h b)) h)) (place_stores q _ _ (λ i h b. (rotation_fits r _ _ (held_below q s m h b)).value_below))
executed own (Bit k q) s m = plain (new (tested_low _ _ _) (λ i h b. flags_sound _ s (tested_below _ _ _) h))
executed own (Res k q) s m = does (same (placed_same _ _ _) (λ i h b. placed_sound q _ s (reset_below k _ (held_below q s m h b)) h)) (place_stores q _ _ (λ i h b. reset_below k _ (held_below q s m h b)))
executed own (Set k q) s m = does (same (placed_same _ _ _) (λ i h b. placed_sound q _ s (set_below k _ (held_below q s m h b)) h)) (place_stores q _ _ (λ i h b. set_below k _ (held_below q s m h b)))
executed own Di s m = plain (same refl (λ i h b. omega arith))
executed own Ei s m = plain (same refl (λ i h b. omega arith))
executed own (CallIf cc w) s m = branches _ refl (λ i h b. omega (arith, back_below 2 s.sp, i)) (if_stores _ (push_stores _ s))
executed own (Push rp) s m = does (same refl (λ i h b. omega (arith, back_below 2 s.sp))) (push_stores _ s)
executed own (Call w) s m = does (same refl (λ i h b. omega (arith, back_below 2 s.sp, i))) (push_stores _ s)
executed own (Rst v) s m = does (same refl (λ i h b. omega (arith, back_below 2 s.sp, i))) (push_stores _ s)
executed own Undefined s m = plain kept

pub exec_bytes : (own : ℕ) (i : Insn) (s : Cpu) (m : Memory) → SoundInsn i → Sound s → Bytes m
    → Bytes (made (exec_of own i s m).stores m)
exec_bytes own i s m k h b = made_bytes (exec_of own i s m).stores m ((executed own i s m).stores.small k h b) b

-- a dispatch

lowest_at : (b0 b1 b2 b3 : Bool) → lowest_set b0 b1 b2 b3 ≤ 4
unfolding lowest_set
lowest_at true b1 b2 b3 = omega arith
lowest_at false true b2 b3 = omega arith
lowest_at false false true b3 = omega arith
lowest_at false false false true = omega arith
lowest_at false false false false = omega arith

pub lowest_most : (p : ℕ) → lowest_of p ≤ 4
unfolding lowest_of
lowest_most p = lowest_at _ _ _ _

-- what is chosen: a vector, and a byte stored
pub record ChosenFits (w : Storing ℕ) : Type 0 where
  pub vector_below : w.out < 65536
  pub small_then : (xs : List Store) → Small xs → Small (w.stores ++ xs)

chosen_at : (p : Bool) (k : ℕ) (m : Memory) → k ≤ 4 → Bytes m → ChosenFits (chosen_if p k m)
unfolding chosen_if
chosen_at true k m l b =
    record { vector_below = omega arith; small_then = λ _ h. (reset_below k _ (b 0xFF0F), h) }
chosen_at false k m l b = record { vector_below = omega arith; small_then = λ _ h. h }

pub chosen_fits : (m : Memory) → Bytes m → ChosenFits (chosen_of m)
unfolding chosen_of
chosen_fits m b = chosen_at _ _ m (lowest_most (pending_of m)) b

-- a step

pub record SoundStep (w : With Stepped) : Type 0 where
  pub cpu : Sound w.out.cpu
  pub mem : Bytes w.mem

module _ (s : Cpu) (m : Memory) (h : Sound s) (b : Bytes m) where
  dispatch_sound : SoundStep (accepting (act 5 (dispatch_of s m)) m)
  unfolding dispatch_of vectored_of
  dispatch_sound =
      let higher = stored_bytes m (back 1 s.sp) (high_of s.pc) (high_below_lem s.pc) b in
      let c = chosen_fits (made (high_below s.sp s.pc ∷ []) m) higher in
      record {
        cpu = omega (arith, c.vector_below, back_below 2 s.sp);
        mem = made_bytes (dispatch_of s m).stores m (high_below_lem s.pc, c.small_then _ (low_below_lem s.pc, tt)) b;
      }

  pub next_sound : SoundInsn (next_insn s m)
  unfolding next_insn
  next_sound = decode_sound _ _ _ (b _) (word_at_below m (next_rest s) b)

  ready_sound : Sound (ready_of (next_after s m) s)
  unfolding ready_of next_after
  ready_sound = omega (arith, further_below ((shape_of (next_insn s m)).bytes - 1) (next_rest s))

  insn_sound : SoundStep (accepting (instruction_act s m) m)
  unfolding instruction_act end_of
  insn_sound =
      let r = (executed s.pc (next_insn s m) (ready_of (next_after s m) s) m).state.sound h.pc next_sound ready_sound b in
      record {
        cpu = omega (arith, r);
        mem = exec_bytes s.pc (next_insn s m) (ready_of (next_after s m) s) m next_sound ready_sound b;
      }

  rule_sound : SoundStep (accepting (rule_of s m) m)
  rule_sound =
      by_rules (λ a. SoundStep (accepting a m)) s m
      record { dispatch = dispatch_sound; idle = record { cpu = h; mem = b }; insn = insn_sound }

  pub step_sound : SoundStep (step_of s m)
  unfolding step_of
  step_sound = by_outcome SoundStep (rule_of s m) s m (λ _. record { cpu = h; mem = b }) rule_sound (step_refusals s m)

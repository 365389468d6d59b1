-- The premises are met at each of their edges.
-- Assumes nothing.
use Prim.Native.Nat.{ℕ, zero, suc, ◌+◌, ◌%◌, ◌<◌, ◌≤◌}
use mathlib.Core.List.{List, [], ◌∷◌}
use mathlib.Core.Logic.{◌⊎◌, inl, inr}
use mathlib.Core.Path.{◌≡◌, refl, ◌∙◌}
use native.Mathlib.Nat.{add-zero}
use native.Mathlib.Omega.{arith}
use lib.ListN.{length, get_or, length-replicate, get_or-replicate}
use Rattle.arith.specs.Width.{sum_of}
use Rattle.arith.specs.Words.{further}
use Rattle.arith.proofs.Laws.{word_back}
use Rattle.machine.specs.Memory.{memory_size, Memory, byte_at}
use Rattle.machine.specs.Interrupts.{pending_of}
use Rattle.machine.proofs.ReadOverWrite.{stored_length, stored_same, stored_other}
use Rattle.routines.specs.Decimals.{Decimal, Digits}
use Rattle.routines.specs.Premises.{Apart, Outside}
use Rattle.routines.specs.Adding.{adding_routine}
use Rattle.routines.specs.Edges.{written, all_of, edge_memory, Edge, Met, Edges}
use Rattle.routines.proofs.Fields.{one_on}

-- reading what was written

written_length : (m : Memory) (at : ℕ) (bs : List ℕ) → length (written m at bs) ≡ length m
unfolding written
written_length m at [] = refl
written_length m at (b ∷ bs) = stored_length _ at b ∙ written_length m (at + 1) bs

written_here : (m : Memory) (at : ℕ) (bs : List ℕ) → at + length bs ≤ length m → (i : ℕ) → i < length bs
    → byte_at (written m at bs) (at + i) ≡ get_or bs i 0
unfolding written
written_here m at [] h i l = absurd (omega arith)
written_here m at (b ∷ bs) h zero l =
    rw add-zero (stored_same (written m (at + 1) bs) at b (omega (arith, written_length m (at + 1) bs)))
written_here m at (b ∷ bs) h (suc i) l =
    stored_other (written m (at + 1) bs) at b (at + suc i) (omega arith)
    ∙ rw one_on at (written_here m (at + 1) bs (omega arith) i (omega arith))

written_else : (m : Memory) (at : ℕ) (bs : List ℕ) (x : ℕ) → Outside x at (length bs) → byte_at (written m at bs) x ≡ byte_at m x
unfolding written
written_else m at [] x h = refl
written_else m at (b ∷ bs) x h =
    stored_other (written m (at + 1) bs) at b x (omega (arith, h 0 (omega arith)))
    ∙ written_else m (at + 1) bs x (λ j l. omega (arith, h (suc j) (omega arith)))

all_length : (v : ℕ) → length (all_of v) ≡ memory_size
unfolding all_of
all_length v = length-replicate 65536 v

all_at : (v x : ℕ) → x < 65536 → byte_at (all_of v) x ≡ v
unfolding all_of byte_at
all_at v x h = get_or-replicate 65536 x v 0 h

edge_else : (v pc x : ℕ) → x < 65536 → Outside x pc 10 → byte_at (edge_memory v pc) x ≡ v
unfolding edge_memory
edge_else v pc x h o = written_else (all_of v) pc adding_routine x o ∙ all_at v x h

-- what is asked of the numbers alone
record Room (x : Edge) : Type 0 where
  least : 1 ≤ x.n
  most : x.n ≤ 256
  digits : Decimal x.v
  flags : x.f % 16 ≡ 0
  code : x.pc + 10 ≤ 65536
  dst_fits : x.dst + x.n ≤ 65536
  src_fits : x.src + x.n ≤ 65536
  dst_clear : Apart x.pc 10 x.dst x.n
  src_clear : Apart x.pc 10 x.src x.n
  stack_low : Outside x.sp x.dst x.n
  stack_high : Outside (further 1 x.sp) x.dst x.n

module _ (x : Edge) (r : Room x) where
  -- a field that does not touch the routine has the byte v everywhere
  in_field : (at : ℕ) → at + x.n ≤ 65536 → Apart x.pc 10 at x.n → Digits (edge_memory x.v x.pc) at x.n
  in_field at fits clear i h =
      rw (edge_else x.v x.pc (at + i) (omega arith) (λ j l. omega (arith, clear j i l h))) r.digits

  code_at : (i : ℕ) → i < 10 → byte_at (edge_memory x.v x.pc) (x.pc + i) ≡ get_or adding_routine i 0
  unfolding edge_memory
  code_at i h = written_here (all_of x.v) x.pc adding_routine (omega (arith, all_length x.v)) i h

  size : length (edge_memory x.v x.pc) ≡ memory_size
  unfolding edge_memory
  size = written_length (all_of x.v) x.pc adding_routine ∙ all_length x.v

  met : (x.src ≡ x.dst) ⊎ Apart x.src x.n x.dst x.n → Met x
  met fields =
      record {
        n_least = omega arith;
        n_most = omega arith;
        memory = size;
        hl = word_back x.dst (omega arith);
        de = word_back x.src (omega arith);
        b = refl;
        pc = code_at;
        mode = refl;
        ime = refl;
        f = omega arith;
        routine_fits = omega arith;
        dst_fits = omega arith;
        src_fits = omega arith;
        dst_clear = λ i j a b. omega (arith, r.dst_clear i j (omega arith) (omega arith));
        src_clear = λ i j a b. omega (arith, r.src_clear i j (omega arith) (omega arith));
        fields = fields;
        dst_digits = in_field x.dst r.dst_fits r.dst_clear;
        src_digits = in_field x.src r.src_fits r.src_clear;
        stack_low = λ j h. omega (arith, r.stack_low j (omega arith));
        stack_high = λ j h. omega (arith, r.stack_high j (omega arith));
      }

pending_at : pending_of (edge_memory 0x99 0x0150) ≡ 0x19
unfolding pending_of
pending_at = rw (edge_else 0x99 0x0150 0xFFFF (omega arith) (omega arith), edge_else 0x99 0x0150 0xFF0F (omega arith) (omega arith))

pub edges : Edges
unfolding further sum_of
edges =
    record {
      one = met _ (omega arith) (inr (omega arith));
      two = met _ (omega arith) (inr (omega arith));
      most_in_b = met _ (omega arith) (inr (omega arith));
      most = met _ (omega arith) (inr (omega arith));
      nought = met _ (omega arith) (inr (omega arith));
      nine_low = met _ (omega arith) (inr (omega arith));
      nine_high = met _ (omega arith) (inr (omega arith));
      doubled = met _ (omega arith) (inl (omega arith));
      after_dst = met _ (omega arith) (inr (omega arith));
      before_dst = met _ (omega arith) (inr (omega arith));
      dst_ends = met _ (omega arith) (inr (omega arith));
      src_ends = met _ (omega arith) (inr (omega arith));
      both_end = met _ (omega arith) (inl (omega arith));
      dst_begins = met _ (omega arith) (inr (omega arith));
      src_begins = met _ (omega arith) (inr (omega arith));
      routine_ends = met _ (omega arith) (inr (omega arith));
      routine_begins = met _ (omega arith) (inr (omega arith));
      dst_then_routine = met _ (omega arith) (inr (omega arith));
      routine_then_dst = met _ (omega arith) (inr (omega arith));
      src_then_routine = met _ (omega arith) (inr (omega arith));
      routine_then_src = met _ (omega arith) (inr (omega arith));
      wraps_before_dst = met _ (omega arith) (inr (omega arith));
      wraps_after_dst = met _ (omega arith) (inr (omega arith));
      stack_then_dst = met _ (omega arith) (inr (omega arith));
      dst_then_stack = met _ (omega arith) (inr (omega arith));
      stack_in_src = met _ (omega arith) (inr (omega arith));
      stack_in_routine = met _ (omega arith) (inr (omega arith));
      pending = pending_at;
    }

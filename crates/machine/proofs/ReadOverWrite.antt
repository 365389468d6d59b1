-- Reading what was stored: a byte at the address of a store is the byte stored, and every other byte is as it was; the same of
-- a list of stores, of words and of a push.
-- Assumes nothing.
use Prim.Native.Nat.{ℕ, ◌<◌, ◌≤◌}
use mathlib.Core.List.{List, [], ◌∷◌, ◌++◌}
use mathlib.Core.Logic.{◌≢◌}
use mathlib.Core.Path.{◌≡◌, refl, ◌∙◌}
use native.Mathlib.Omega.{arith}
use lib.ListN.{length, length-set}
use lib.Seq.{get_or-set_same, get_or-set_other, set-set, set_comm, set-get_or, set_out}
use Rattle.arith.specs.Width.{sum_of, difference_of}
use Rattle.arith.specs.Words.{high_of, low_of, further, back}
use Rattle.arith.proofs.Laws.{word_back, further_below, back_below, further_back}
use Rattle.machine.specs.Memory.{Memory, memory_size, byte_at, word_at, Store, word_stores, stored, made}
use Rattle.machine.specs.Stack.{pushed_of}
use Rattle.machine.specs.declared.Cpu.{Cpu}

-- bytes

module _ (m : Memory) where
  pub stored_length : (at v : ℕ) → length (stored m at v) ≡ length m
  unfolding stored
  stored_length at v = length-set m at v

  pub stored_same : (at v : ℕ) → at < length m → byte_at (stored m at v) at ≡ v
  unfolding byte_at stored
  stored_same at v h = get_or-set_same m at v 0 h

  pub stored_other : (to v at : ℕ) → at ≢ to → byte_at (stored m to v) at ≡ byte_at m at
  unfolding byte_at stored
  stored_other to v at h = get_or-set_other m to at v 0 h

  -- a store past the end changes nothing
  pub stored_out : (at v : ℕ) → length m ≤ at → stored m at v ≡ m
  unfolding stored
  stored_out at v h = set_out m at v h

  -- the second of two stores at one address stays, stores at two addresses go in any order, and the old byte put back restores
  pub stored_again : (at v w : ℕ) → stored (stored m at v) at w ≡ stored m at w
  unfolding stored
  stored_again at v w = set-set m at v w

  pub stored_apart : (at v to w : ℕ) → at ≢ to → stored (stored m at v) to w ≡ stored (stored m to w) at v
  unfolding stored
  stored_apart at v to w h = set_comm m at to v w h

  pub stored_undone : (at v : ℕ) → stored (stored m at v) at (byte_at m at) ≡ m
  unfolding byte_at stored
  stored_undone at v = set-set m at v _ ∙ set-get_or m at 0

-- stores in their order

pub made_length : (xs : List Store) (m : Memory) → length (made xs m) ≡ length m
made_length [] m = refl
made_length (x ∷ xs) m = made_length xs _ ∙ stored_length m x.at x.value

pub made_append : (xs ys : List Store) (m : Memory) → made (xs ++ ys) m ≡ made ys (made xs m)
made_append [] ys m = refl
made_append (x ∷ xs) ys m = made_append xs ys _

-- an address that no store of a list touches, and the byte at it
abbrev pub Spared : ℕ → List Store → Type 0
Spared at [] = Unit {0}
Spared at (x ∷ xs) = (at ≢ x.at) × Spared at xs

pub made_other : (xs : List Store) (m : Memory) (at : ℕ) → Spared at xs → byte_at (made xs m) at ≡ byte_at m at
made_other [] m at h = refl
made_other (x ∷ xs) m at h = made_other xs _ at h.1 ∙ stored_other m x.at x.value at h.0

-- addresses one and two apart

pub further_apart : (at : ℕ) → at ≢ further 1 at
unfolding further sum_of
further_apart at = omega arith

pub back_apart : (at : ℕ) → back 1 at ≢ back 2 at
unfolding back difference_of
back_apart at = omega arith

pub back_next : (at : ℕ) → further 1 (back 2 at) ≡ back 1 at
unfolding further back sum_of difference_of
back_next at = omega arith

-- words

module _ (m : Memory) where
  pub word_same : (at w : ℕ) → length m ≡ memory_size → at < 65536 → w < 65536 → word_at (made (word_stores at w) m) at ≡ w
  unfolding word_at word_stores
  word_same at w l p q =
      let lower = stored m at (low_of w) in
      let high = stored_same lower (further 1 at) (high_of w) (rw stored_length (omega (arith, further_below 1 at))) in
      let kept = stored_other lower (further 1 at) (high_of w) at (further_apart at) in
      let low = stored_same m at (low_of w) (omega arith) in
      rw (high, kept, low) (word_back w q)

  pub word_other : (to w at : ℕ) → at ≢ to → at ≢ further 1 to → byte_at (made (word_stores to w) m) at ≡ byte_at m at
  unfolding word_stores
  word_other to w at p q = made_other (word_stores to w) m at (p, (q, tt))

  pub word_unstored : (to v at : ℕ) → at ≢ to → further 1 at ≢ to → word_at (stored m to v) at ≡ word_at m at
  unfolding word_at
  word_unstored to v at p q = rw (stored_other m to v at p, stored_other m to v (further 1 at) q)

-- a push: the word lies where SP points afterwards, and the rest of the memory is as it was

module _ (w : ℕ) (s : Cpu) (m : Memory) where
  pub push_same : length m ≡ memory_size → w < 65536 → word_at (made (pushed_of w s).stores m) (pushed_of w s).out.sp ≡ w
  unfolding pushed_of word_at
  push_same l q =
      let higher = stored m (back 1 s.sp) (high_of w) in
      let low = stored_same higher (back 2 s.sp) (low_of w) (rw stored_length (omega (arith, back_below 2 s.sp))) in
      let kept = stored_other higher (back 2 s.sp) (low_of w) (back 1 s.sp) (back_apart s.sp) in
      let high = stored_same m (back 1 s.sp) (high_of w) (omega (arith, back_below 1 s.sp)) in
      rw (back_next s.sp, low, kept, high) (word_back w q)

  pub push_other : (at : ℕ) → at ≢ back 1 s.sp → at ≢ back 2 s.sp → byte_at (made (pushed_of w s).stores m) at ≡ byte_at m at
  unfolding pushed_of
  push_other at p q = made_other (pushed_of w s).stores m at (p, (q, tt))

  -- and SP comes back where a word is popped
  pub push_popped : s.sp < 65536 → further 2 (pushed_of w s).out.sp ≡ s.sp
  unfolding pushed_of
  push_popped p = further_back 2 s.sp (omega arith) p

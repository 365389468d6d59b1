-- What antt computes for each opcode, whatever follows it: for the prefix $CB, for each byte after it.
-- Assumes nothing.
use Prim.Native.Nat.{ℕ, ◌<◌}
use mathlib.Core.Bool.{Bool, true, false}
use mathlib.Core.Path.{◌≡◌, refl}
use borrow.Author.Tests.{eqb-true}
use lib.Dec.{eqb}
use Rattle.insn.proofs.Entries.{tabulate, agree}

-- a value of no weight where the opcode is the prefix
abbrev pub unless_prefix : {A : Type 0} → Bool → A → A → A
unless_prefix true d x = d
unless_prefix false d x = x

pub each_opcode : {A : Type 0} (f g : ℕ → ℕ → ℕ → A) (d : A)
    → ((n w : ℕ) → tabulate (λ op. unless_prefix (eqb op 0xCB) d (f op n w)) 0 256 ≡ tabulate (λ op. unless_prefix (eqb op 0xCB) d (g op n w)) 0 256)
    → ((w : ℕ) → tabulate (λ n. f 0xCB n w) 0 256 ≡ tabulate (λ n. g 0xCB n w) 0 256)
    → (op n w : ℕ) → op < 256 → n < 256 → f op n w ≡ g op n w
each_opcode f g d unprefixed prefixed op n w h hn = go (eqb op 0xCB) refl
  where
    go : (t : Bool) → eqb op 0xCB ≡ t → f op n w ≡ g op n w
    go true e = rw (eqb-true op 0xCB e) (agree (λ k. f 0xCB k w) (λ k. g 0xCB k w) 256 (prefixed w) n hn)
    go false e =
        rw e at
        (agree (λ k. unless_prefix (eqb k 0xCB) d (f k n w)) (λ k. unless_prefix (eqb k 0xCB) d (g k n w)) 256 (unprefixed n w) op h)

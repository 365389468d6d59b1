-- The last arm of a match on a number: what is none of the numbers before it.
-- Assumes nothing.
use Prim.Native.Nat.{ℕ, zero, suc, ◌+◌, ◌<◌, ◌≤◌}
use mathlib.Core.Path.{◌≡◌}
use native.Mathlib.Omega.{arith}

-- x is none of the n numbers from b on
abbrev pub Passed : ℕ → ℕ → ℕ → Type 0
Passed b zero x = Unit {0}
Passed b (suc n) x = Passed b n x × (x ≡ b + n → ⊥)

pub past : (b n x : ℕ) → b ≤ x → Passed b n x → b + n ≤ x
past b zero x h p = omega arith
past b (suc n) x h p = let i : b + n ≤ x = past b n x h p.0 in omega (arith, p.1)

pub last : (n x : ℕ) → x < suc n → Passed 0 n x → x ≡ n
last n x h p = let i : 0 + n ≤ x = past 0 n x (omega arith) p in omega arith

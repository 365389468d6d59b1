-- The codes of IME and mode and what they stand for: each way back.
-- Assumes nothing.
use Prim.Native.Nat.{ℕ, zero, suc, ◌≤◌}
use mathlib.Core.Path.{◌≡◌, refl}
use native.Mathlib.Omega.{arith}
use Rattle.machine.specs.declared.Ime.{Ime}
use Rattle.machine.specs.declared.Ime.TheVariants.{Off, Arming, On}
use Rattle.machine.specs.declared.Mode.{Mode}
use Rattle.machine.specs.declared.Mode.TheVariants.{Running, Repeat, Halted, Stopped}
use Rattle.saved.specs.Codes.{ime_code, ime_at, mode_code, mode_at}

pub ime_back : (i : Ime) → ime_at (ime_code i) ≡ i
unfolding ime_code ime_at
ime_back Off = refl
ime_back Arming = refl
ime_back On = refl

pub ime_most : (i : Ime) → ime_code i ≤ 2
unfolding ime_code
ime_most Off = omega arith
ime_most Arming = omega arith
ime_most On = omega arith

pub ime_code_back : (k : ℕ) → k ≤ 2 → ime_code (ime_at k) ≡ k
unfolding ime_code ime_at
ime_code_back zero h = refl
ime_code_back (suc zero) h = refl
ime_code_back (suc (suc zero)) h = refl
ime_code_back (suc (suc (suc k))) h = omega arith

pub ime_last : (k : ℕ) → 2 ≤ k → ime_at k ≡ On
unfolding ime_at
ime_last zero h = absurd (omega arith)
ime_last (suc zero) h = absurd (omega arith)
ime_last (suc (suc zero)) h = refl
ime_last (suc (suc (suc k))) h = refl

pub mode_back : (m : Mode) → mode_at (mode_code m) ≡ m
unfolding mode_code mode_at
mode_back Running = refl
mode_back Repeat = refl
mode_back Halted = refl
mode_back Stopped = refl

pub mode_most : (m : Mode) → mode_code m ≤ 3
unfolding mode_code
mode_most Running = omega arith
mode_most Repeat = omega arith
mode_most Halted = omega arith
mode_most Stopped = omega arith

pub mode_code_back : (k : ℕ) → k ≤ 3 → mode_code (mode_at k) ≡ k
unfolding mode_code mode_at
mode_code_back zero h = refl
mode_code_back (suc zero) h = refl
mode_code_back (suc (suc zero)) h = refl
mode_code_back (suc (suc (suc zero))) h = refl
mode_code_back (suc (suc (suc (suc k)))) h = omega arith

pub mode_last : (k : ℕ) → 3 ≤ k → mode_at k ≡ Stopped
unfolding mode_at
mode_last zero h = absurd (omega arith)
mode_last (suc zero) h = absurd (omega arith)
mode_last (suc (suc zero)) h = absurd (omega arith)
mode_last (suc (suc (suc zero))) h = refl
mode_last (suc (suc (suc (suc k)))) h = refl

-- What is told of an answer determines it: the number of a save, and the number and the state of a load.
-- Assumes nothing.
use Rattle.std.specs.Prelude.{Result, Ok, Err}
use Prim.Native.Nat.{ℕ}
use mathlib.Core.Bool.{Bool, true, false}
use mathlib.Core.List.{List}
use mathlib.Core.Path.{◌≡◌, refl, sym, ap}
use native.Mathlib.Omega.{arith}
use Rattle.arith.specs.Numbers.{number_of, code_in}
use Rattle.arith.specs.declared.Refusal.{Refusal}
use Rattle.arith.proofs.Numbers.{number_once, number_some}
use Rattle.machine.specs.Answers.{Gives}
use Rattle.machine.specs.declared.Cpu.{Cpu}
use Rattle.arith.specs.Refusals.{unless_refused}
use Rattle.saved.specs.Block.{has_codes, held_in}
use Rattle.saved.specs.Head.{state_in}
use Rattle.saved.specs.Answers.{Loaded, told_load, loaded_by, state_if, left_by, saved_by, read_if, read_of}
use Rattle.saved.proofs.Refused.{refused_state, refused_left}

pub code_once : (r s : Result (Unit {0}) Refusal) → code_in r ≡ code_in s → r ≡ s
code_once (Ok a) (Ok b) e = refl
code_once (Ok a) (Err s) e = absurd (number_some s (sym e))
code_once (Err r) (Ok b) e = absurd (number_some r e)
code_once (Err r) (Err s) e = ap Err (number_once r s e)

pub told_once : (r s : Result Cpu Refusal) → told_load r ≡ told_load s → r ≡ s
told_once (Ok s) (Ok t) e = ap Ok (ap (λ (l : Loaded). l.cpu) e)
told_once (Ok s) (Err r) e = absurd (number_some r (sym (ap (λ (l : Loaded). l.code) e)))
told_once (Err r) (Ok s) e = absurd (number_some r (ap (λ (l : Loaded). l.code) e))
told_once (Err r) (Err s) e = ap Err (number_once r s (ap (λ (l : Loaded). l.code) e))

-- a load that is refused tells a number that is not 0, and one that is not refused the state that is there

pub told_refused : (r : Refusal) (code : ℕ) (h : List ℕ) → number_of r ≡ code → told_load (Err r) ≡ loaded_by code h
unfolding loaded_by
told_refused r code h e = rw (← e, refused_state _ (number_some r) h)

pub told_done : (s : Cpu) (code : ℕ) (h : List ℕ) → code ≡ 0 → s ≡ state_in h → told_load (Ok s) ≡ loaded_by code h
unfolding loaded_by state_if unless_refused
told_done s code h e f = rw (e, f)

-- and back

pub load_refused : (r : Refusal) (code : ℕ) (h : List ℕ) → told_load (Err r) ≡ loaded_by code h → code ≡ number_of r
unfolding loaded_by
load_refused r code h e = sym (ap (λ (l : Loaded). l.code) e)

pub load_done : (s : Cpu) (code : ℕ) (h : List ℕ) → told_load (Ok s) ≡ loaded_by code h → code ≡ 0
unfolding loaded_by
load_done s code h e = sym (ap (λ (l : Loaded). l.code) e)

-- of a block likewise

pub record Unread (b : List ℕ) (r : Refusal) : Type 0 where
  pub codes : has_codes b ≡ false
  pub number : number_of r ≡ 9

pub record Read (b : List ℕ) (s : Cpu) : Type 0 where
  pub codes : has_codes b ≡ true
  pub state : s ≡ held_in b

unread_by : (t : Bool) (b : List ℕ) (r : Refusal) → has_codes b ≡ t → told_load (Err r) ≡ read_if t b → Unread b r
unread_by true b r t e = absurd (number_some r (ap (λ (l : Loaded). l.code) e))
unread_by false b r t e = record { codes = t; number = ap (λ (l : Loaded). l.code) e }

read_by : (t : Bool) (b : List ℕ) (s : Cpu) → has_codes b ≡ t → told_load (Ok s) ≡ read_if t b → Read b s
read_by true b s t e = record { codes = t; state = ap (λ (l : Loaded). l.cpu) e }
read_by false b s t e = absurd (omega (arith, ap (λ (l : Loaded). l.code) e))

pub unread : (b : List ℕ) (r : Refusal) → told_load (Err r) ≡ read_of b → Unread b r
unread b r e = unread_by (has_codes b) b r refl e

pub was_read : (b : List ℕ) (s : Cpu) → told_load (Ok s) ≡ read_of b → Read b s
was_read b s e = read_by (has_codes b) b s refl e

-- a save likewise: one that is refused leaves what was there

pub unsaved : (r : Refusal) (code : ℕ) (new old : List ℕ) → number_of r ≡ code → Gives (saved_by code new old) (number_of r) old
unfolding saved_by
unsaved r code new old e = record { answers = e; leaves = rw (← e) (sym (refused_left _ (number_some r) new old)) }

pub was_saved : (code : ℕ) (new old left : List ℕ) → code ≡ 0 → left ≡ new → Gives (saved_by code new old) 0 left
unfolding saved_by left_by unless_refused
was_saved code new old left e f = rw e (record { answers = refl; leaves = f })

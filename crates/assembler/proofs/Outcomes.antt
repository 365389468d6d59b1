-- What an outcome is told by, and that bytes without a fault have room.
-- Assumes nothing.
use Prim.Native.Nat.{ℕ, ◌+◌, ◌-◌, ◌≤◌}
use mathlib.Core.Bool.{Bool, true, false}
use mathlib.Core.List.{List, [], ◌∷◌, ◌++◌}
use mathlib.Core.Path.{◌≡◌, refl, sym}
use native.Mathlib.Omega.{arith}
use borrow.Author.Tests.{ltb-false}
use lib.Dec.{ltb}
use lib.ListN.{length, length-append}
use Rattle.arith.specs.Words.{further}
use Rattle.assembler.specs.Lines.{Verdict, Fault, Bytes, verdict_of}
use Rattle.assembler.specs.Text.{text_of, Outcome, Refused, Done, prepended, outcome_if, line_outcome, left_outcome, outcome_from, outcome_of}

pub refused_done : {n line : ℕ} {bytes : List ℕ} → Refused n line ≡ Done bytes → ⊥
refused_done e = let z : ◌≡◌ {A = ℕ} 0 1 = cc in omega arith

pub done_bytes : (xs ys : List ℕ) → Done xs ≡ Done ys → xs ≡ ys
done_bytes xs ys e = cc

-- the bytes of the first line, and those of the rest
pub record Parted (bytes more : List ℕ) (o : Outcome) : Type 0 where
  pub rest : List ℕ
  pub comes : o ≡ Done rest
  pub joins : more ≡ bytes ++ rest

pub parted : (bytes more : List ℕ) (o : Outcome) → prepended bytes o ≡ Done more → Parted bytes more o
unfolding prepended
parted bytes more (Refused n line) e = absurd (refused_done e)
parted bytes more (Done rest) e = record { rest = rest; comes = refl; joins = cc }

room_if : (t : Bool) (line room : ℕ) (bytes more : List ℕ) (o : Outcome) → ltb room (length bytes) ≡ t
    → ((rest : List ℕ) → o ≡ Done rest → length rest ≤ room - length bytes) → outcome_if t line (prepended bytes o) ≡ Done more → length more ≤ room
unfolding outcome_if
room_if true line room bytes more o h known e = absurd (refused_done e)
room_if false line room bytes more o h known e =
    let p = parted bytes more o e in
    let fits = ltb-false room (length bytes) h in
    let rest = known p.rest p.comes in
    rw (p.joins, length-append bytes p.rest) (omega (arith, fits, rest))

room_line : (line room : ℕ) (v : Verdict) (rest : ℕ → Outcome) → ((k : ℕ) (more : List ℕ) → rest k ≡ Done more → length more ≤ room - k)
    → (bytes : List ℕ) → line_outcome line room v rest ≡ Done bytes → length bytes ≤ room
unfolding line_outcome
room_line line room (Fault n) rest known bytes e = absurd (refused_done e)
room_line line room (Bytes first) rest known bytes e =
    room_if (ltb room (length first)) line room first bytes (rest (length first)) refl (known (length first)) e

room_left : (line room : ℕ) (rest bytes : List ℕ) → left_outcome line rest ≡ Done bytes → length bytes ≤ room
unfolding left_outcome
room_left line room [] bytes e = rw (sym (done_bytes [] bytes e)) (omega arith)
room_left line room (c ∷ cs) bytes e = absurd (refused_done e)

room_from : (ls : List (List ℕ)) (rest : List ℕ) (a line room : ℕ) (bytes : List ℕ) → outcome_from ls rest a line room ≡ Done bytes → length bytes ≤ room
unfolding outcome_from
room_from [] rest a line room bytes e = room_left line room rest bytes e
room_from (l ∷ ls) rest a line room bytes e =
    room_line line room (verdict_of a l) _ (λ k more h. room_from ls rest (further k a) (line + 1) (room - k) more h) bytes e

pub done_fits : (first : ℕ) (text : List ℕ) (room : ℕ) (bytes : List ℕ) → outcome_of first text room ≡ Done bytes → length bytes ≤ room
unfolding outcome_of
done_fits first text room bytes e = room_from (text_of text).lines (text_of text).rest first 1 room bytes e

-- A line by its place in a text: it is at fault, or it has its bytes and its newline, and what is left stands behind that.
-- Assumes nothing.
use Prim.Native.Nat.{ℕ, ◌+◌, ◌-◌, ◌≤◌, ◌<◌}
use mathlib.Core.Bool.{Bool, true, false}
use mathlib.Core.List.{List}
use mathlib.Core.Path.{◌≡◌, refl, sym, ◌∙◌, ap}
use native.Mathlib.Omega.{arith}
use borrow.Author.Tests.{lt-ltb, le-ltb, ltb-true, ltb-false}
use lib.Dec.{ltb}
use lib.ListN.{length, drop, length-drop}
use lib.Seq.{drop-drop}
use Rattle.arith.specs.Words.{further}
use Rattle.assembler.specs.Lines.{Verdict, Fault, Bytes}
use Rattle.assembler.specs.Text.{text_of, Refused, prepended, outcome_if, line_outcome}
use Rattle.assembler.specs.Judging.{head_verdict, outcome_on, behind_line}
use Rattle.assembler.specs.Judged.{Code, coded, Judged, Faulty, Takes, judged_of}
use Rattle.assembler.proofs.First.{line_in, behind_dropped, head_cut, outcome_first}
use Rattle.assembler.proofs.Short.{verdict_short}

-- what is judged tells the verdict
apart : {n : ℕ} {code : Code} → Faulty n ≡ Takes code → ⊥
apart e = let z : ◌≡◌ {A = ℕ} 0 1 = cc in omega arith

pub at_fault : (v : Verdict) (judged : Judged) (n : ℕ) → judged ≡ judged_of v → judged ≡ Faulty n → v ≡ Fault n
unfolding judged_of
at_fault (Fault m) judged n is told = let same : m ≡ n = (let e = sym is ∙ told in cc) in ap Fault same
at_fault (Bytes bytes) judged n is told = absurd (apart (sym told ∙ is))

-- a line that has bytes, held by value
pub record Taken (v : Verdict) (code : Code) : Type 0 where
  pub bytes : List ℕ
  pub has : v ≡ Bytes bytes
  pub held : code ≡ coded bytes

pub takes : (v : Verdict) (judged : Judged) (code : Code) → judged ≡ judged_of v → judged ≡ Takes code → Taken v code
unfolding judged_of
takes (Fault m) judged code is told = absurd (apart (sym is ∙ told))
takes (Bytes bytes) judged code is told = record { bytes = bytes; has = refl; held = (let e = sym is ∙ told in cc) }

module _ (text : List ℕ) (from end a : ℕ) (here : from < length text) (is : end ≡ from + length (line_in (drop from text))) where
  abbrev pub verdict_here : Verdict
  verdict_here = head_verdict a (text_of (drop from text)).lines

  some : 0 < length (drop from text)
  some = let left = length-drop from text in omega (arith, left)

  behind : drop (end + 1) text ≡ behind_line (drop from text)
  behind =
      let next : end + 1 ≡ from + (length (line_in (drop from text)) + 1) = omega (arith, is) in
      rw next (sym (drop-drop (length (line_in (drop from text)) + 1) from text) ∙ behind_dropped (drop from text))

  -- what comes of what is left
  pub turn : (line room : ℕ)
      → outcome_on (drop from text) a line room
      ≡ line_outcome line room verdict_here (λ k. outcome_on (drop (end + 1) text) (further k a) (line + 1) (room - k))
  turn line room = rw behind (outcome_first (drop from text) a line room some)

  -- a line that has bytes has its newline, and few of them
  module _ (code : Code) (t : Taken verdict_here code) where
    pub count_is : code.count ≡ length t.bytes
    unfolding coded
    count_is = ap (λ (c : Code). c.count) t.held

    pub count_few : code.count ≤ 3
    count_few = rw count_is (verdict_short a (text_of (drop from text)).lines t.bytes t.has)

    fault_bytes : {n : ℕ} {bytes : List ℕ} → Fault n ≡ Bytes bytes → ⊥
    fault_bytes e = let z : ◌≡◌ {A = ℕ} 0 1 = cc in omega arith

    pub ends_inside : end < length text
    ends_inside = go (ltb end (length text)) refl
      where
        go : (u : Bool) → ltb end (length text) ≡ u → end < length text
        go true h = ltb-true end (length text) h
        go false h =
            let left = length-drop from text in
            let past = ltb-false end (length text) h in
            absurd (fault_bytes (sym (head_cut a (drop from text) (omega (arith, is, left, past))) ∙ t.has))

    -- where there is room, its bytes stand before those of the rest
    pub on : (line room : ℕ) → code.count ≤ room
        → outcome_on (drop from text) a line room
        ≡ prepended t.bytes (outcome_on (drop (end + 1) text) (further code.count a) (line + 1) (room - code.count))
    unfolding line_outcome outcome_if
    on line room h =
        turn line room ∙ (rw (t.has, count_is, le-ltb room (length t.bytes) (rw count_is at h)) refl)

    pub no_room : (line room : ℕ) → room < code.count → outcome_on (drop from text) a line room ≡ Refused 10 line
    unfolding line_outcome outcome_if
    no_room line room h = turn line room ∙ (rw (t.has, lt-ltb room (length t.bytes) (rw count_is at h)) refl)

  pub fault_here : (n line room : ℕ) → verdict_here ≡ Fault n → outcome_on (drop from text) a line room ≡ Refused n line
  unfolding line_outcome
  fault_here n line room v = turn line room ∙ (rw v refl)

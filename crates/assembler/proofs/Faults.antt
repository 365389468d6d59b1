-- A refusal names the first line at fault, and a text is done exactly where no line is.
-- Assumes nothing.
use Prim.Native.Nat.{ℕ, suc, ◌+◌, ◌-◌, ◌≤◌, ◌<◌}
use mathlib.Core.Bool.{Bool, true, false}
use mathlib.Core.List.{List, [], ◌∷◌, ◌++◌}
use mathlib.Core.Path.{◌≡◌, refl, sym, ◌∙◌, ap}
use native.Mathlib.Nat.{zero-add, sub-zero}
use native.Mathlib.Omega.{arith}
use borrow.Author.Tests.{lt-ltb, le-ltb, ltb-true, ltb-false}
use lib.Dec.{ltb}
use lib.ListN.{length, length-append}
use Rattle.arith.specs.Words.{further}
use Rattle.arith.proofs.Laws.{further_below}
use Rattle.listing.proofs.Order.{further_none, further_more}
use Rattle.assembler.specs.Lines.{Verdict, Fault, Bytes, verdict_of}
use Rattle.assembler.specs.Text.{text_of, Outcome, Refused, Done, prepended, outcome_if, line_outcome, left_outcome, outcome_from, outcome_of}
use Rattle.assembler.specs.Faults.{GoodLines, no_line, a_line, own, no_room, FaultBehind, in_line, in_rest, Refuses, IsRefused, Completes, IsDone}
use Rattle.assembler.proofs.Outcomes.{refused_done, done_bytes, parted, done_fits}

-- the address behind bytes, and the room that is left, are those behind the first and then the others
on_behind : (bytes more : List ℕ) (a : ℕ) → further (length more) (further (length bytes) a) ≡ further (length (bytes ++ more)) a
on_behind bytes more a = further_more (length more) (length bytes) a ∙ ap (λ n. further n a) (sym (length-append bytes more))

room_behind : (bytes more : List ℕ) (room : ℕ) → room - length bytes - length more ≡ room - length (bytes ++ more)
room_behind bytes more room = let long = length-append bytes more in omega (arith, long)

-- a line that has bytes and room, and what comes of those behind it
line_on : (l : List ℕ) (ls : List (List ℕ)) (rest : List ℕ) (a line room : ℕ) (bytes : List ℕ) → verdict_of a l ≡ Bytes bytes → length bytes ≤ room
    → outcome_from (l ∷ ls) rest a line room ≡ prepended bytes (outcome_from ls rest (further (length bytes) a) (line + 1) (room - length bytes))
unfolding outcome_from line_outcome outcome_if
line_on l ls rest a line room bytes v h = rw (v, le-ltb room (length bytes) h) refl

-- lines without a fault, and what comes of those behind them
abbrev Lines : Type 0
Lines = List (List ℕ)

prepended_refused : (bytes : List ℕ) (n line : ℕ) (o : Outcome) → o ≡ Refused n line → prepended bytes o ≡ Refused n line
unfolding prepended
prepended_refused bytes n line o e = rw e refl

prepended_done : (bytes more : List ℕ) (o : Outcome) → o ≡ Done more → prepended bytes o ≡ Done (bytes ++ more)
unfolding prepended
prepended_done bytes more o e = rw e refl

-- a fault behind lines is refused with its number
behind_refused : (lines : Lines) (rest : List ℕ) (a line room n : ℕ) → FaultBehind lines rest a room n → outcome_from lines rest a line room ≡ Refused n line
unfolding outcome_from line_outcome outcome_if left_outcome
behind_refused lines rest a line room n (in_line e (own v)) = rw (e, v) refl
behind_refused lines rest a line room n (in_line e (no_room {bytes} v h)) = rw (e, v, lt-ltb room (length bytes) h) refl
behind_refused lines rest a line room n (in_rest e r) = rw (e, r) refl

refused_behind : (above behind : Lines) (rest : List ℕ) (a line room n : ℕ) (bytes : List ℕ) → a < 65536 → GoodLines above a bytes → length bytes ≤ room
    → FaultBehind behind rest (further (length bytes) a) (room - length bytes) n
    → outcome_from (above ++ behind) rest a line room ≡ Refused n (length above + line)
refused_behind [] behind rest a line room n bytes small no_line h f =
    behind_refused behind rest a line room n (rw (further_none a small, sub-zero room) at f) ∙ ap (Refused n) (sym (zero-add line))
refused_behind (l ∷ ls) behind rest a line room n bytes small (a_line {bytes = b} {more = more} v g) h f =
    let long = length-append b more in
    let rest_of = refused_behind ls behind rest (further (length b) a) (line + 1) (room - length b) n more (further_below (length b) a) g (omega (arith, long, h))
    (rw (on_behind b more a, room_behind b more room) f) in
    let number : length ls + (line + 1) ≡ suc (length ls) + line = omega arith in
    line_on l (ls ++ behind) rest a line room b v (omega (arith, long, h)) ∙ prepended_refused b n _ _ rest_of ∙ ap (Refused n) number

pub is_refused : IsRefused
unfolding outcome_of
is_refused first text room n line small f =
    ap (λ (ls : Lines). outcome_from ls (text_of text).rest first 1 room) f.lines
    ∙ refused_behind f.above f.behind (text_of text).rest first 1 room n f.bytes small f.good f.fits f.fault
    ∙ ap (Refused n) (sym f.number)

-- and back: a refusal is that of a fault behind lines without one
record FaultFrom (lines : Lines) (rest : List ℕ) (a room n k line : ℕ) : Type 0 where
  above : Lines
  behind : Lines
  bytes : List ℕ
  parts : lines ≡ above ++ behind
  good : GoodLines above a bytes
  fits : length bytes ≤ room
  number : k ≡ length above + line
  fault : FaultBehind behind rest (further (length bytes) a) (room - length bytes) n

same_refusal : (n k m j : ℕ) → Refused n k ≡ Refused m j → (n ≡ m) × (k ≡ j)
same_refusal n k m j e = (cc, cc)

-- at once
fault_here : (lines : Lines) (rest : List ℕ) (a room n k line : ℕ) → a < 65536 → k ≡ line → FaultBehind lines rest a room n → FaultFrom lines rest a room n k line
fault_here lines rest a room n k line small e f =
    record {
      above = [];
      behind = lines;
      bytes = [];
      parts = refl;
      good = no_line;
      fits = omega arith;
      number = e ∙ sym (zero-add line);
      fault = rw (further_none a small, sub-zero room) f;
    }

-- or behind a line that has bytes and room
fault_later : (l : List ℕ) (ls : Lines) (rest : List ℕ) (a room n k line : ℕ) (b : List ℕ) → verdict_of a l ≡ Bytes b → length b ≤ room
    → FaultFrom ls rest (further (length b) a) (room - length b) n k (line + 1) → FaultFrom (l ∷ ls) rest a room n k line
fault_later l ls rest a room n k line b v h f =
    let long = length-append b f.bytes in
    let number : length f.above + (line + 1) ≡ suc (length f.above) + line = omega arith in
    record {
      above = l ∷ f.above;
      behind = f.behind;
      bytes = b ++ f.bytes;
      parts = ap (λ (x : Lines). l ∷ x) f.parts;
      good = a_line v f.good;
      fits = omega (arith, long, h, f.fits);
      number = f.number ∙ number;
      fault = rw (sym (on_behind b f.bytes a), sym (room_behind b f.bytes room)) f.fault;
    }

refused_parted : (bytes : List ℕ) (n k : ℕ) (o : Outcome) → prepended bytes o ≡ Refused n k → o ≡ Refused n k
unfolding prepended
refused_parted bytes n k (Refused m j) e = e
refused_parted bytes n k (Done more) e = absurd (refused_done (sym e))

left_fault : (rest : List ℕ) (a room n k line : ℕ) → a < 65536 → left_outcome line rest ≡ Refused n k → FaultFrom [] rest a room n k line
unfolding left_outcome
left_fault [] a room n k line small e = absurd (refused_done (sym e))
left_fault (c ∷ cs) a room n k line small e =
    let same = same_refusal 12 line n k e in
    fault_here [] (c ∷ cs) a room n k line small (sym same.1) (rw (sym same.0) (in_rest refl refl))

room_fault : (t : Bool) (l : List ℕ) (ls : Lines) (rest : List ℕ) (a room n k line : ℕ) (b : List ℕ) → a < 65536 → verdict_of a l ≡ Bytes b → ltb room (length b) ≡ t
    → (outcome_from ls rest (further (length b) a) (line + 1) (room - length b) ≡ Refused n k → FaultFrom ls rest (further (length b) a) (room - length b) n k (line + 1))
    → outcome_if t line (prepended b (outcome_from ls rest (further (length b) a) (line + 1) (room - length b))) ≡ Refused n k
    → FaultFrom (l ∷ ls) rest a room n k line
unfolding outcome_if
room_fault true l ls rest a room n k line b small v t known e =
    let same = same_refusal 10 line n k e in
    fault_here (l ∷ ls) rest a room n k line small (sym same.1) (in_line refl (rw (sym same.0) (no_room v (ltb-true room (length b) t))))
room_fault false l ls rest a room n k line b small v t known e =
    fault_later l ls rest a room n k line b v (ltb-false room (length b) t) (known (refused_parted b n k _ e))

line_fault : (v : Verdict) (l : List ℕ) (ls : Lines) (rest : List ℕ) (a room n k line : ℕ) → a < 65536 → verdict_of a l ≡ v
    → ((b : List ℕ) → outcome_from ls rest (further (length b) a) (line + 1) (room - length b) ≡ Refused n k → FaultFrom ls rest (further (length b) a) (room - length b) n k (line + 1))
    → line_outcome line room v (λ j. outcome_from ls rest (further j a) (line + 1) (room - j)) ≡ Refused n k → FaultFrom (l ∷ ls) rest a room n k line
unfolding line_outcome
line_fault (Fault m) l ls rest a room n k line small v known e =
    let same = same_refusal m line n k e in
    fault_here (l ∷ ls) rest a room n k line small (sym same.1) (in_line refl (own (v ∙ ap Fault same.0)))
line_fault (Bytes b) l ls rest a room n k line small v known e =
    room_fault (ltb room (length b)) l ls rest a room n k line b small v refl (known b) e

fault_from : (lines : Lines) (rest : List ℕ) (a line room n k : ℕ) → a < 65536 → outcome_from lines rest a line room ≡ Refused n k → FaultFrom lines rest a room n k line
unfolding outcome_from
fault_from [] rest a line room n k small e = left_fault rest a room n k line small e
fault_from (l ∷ ls) rest a line room n k small e =
    line_fault (verdict_of a l) l ls rest a room n k line small refl
    (λ b. fault_from ls rest (further (length b) a) (line + 1) (room - length b) n k (further_below (length b) a)) e

pub refuses : Refuses
unfolding outcome_of
refuses first text room n line small e =
    let f = fault_from (text_of text).lines (text_of text).rest first 1 room n line small e in
    record {
      above = f.above;
      behind = f.behind;
      bytes = f.bytes;
      lines = f.parts;
      good = f.good;
      fits = f.fits;
      number = f.number;
      fault = f.fault;
    }

-- a text without a fault
done_from : (lines : Lines) (a line room : ℕ) (bytes : List ℕ) → GoodLines lines a bytes → length bytes ≤ room → outcome_from lines [] a line room ≡ Done bytes
done_from [] a line room bytes no_line h = unfold outcome_from left_outcome in refl
done_from (l ∷ ls) a line room bytes (a_line {bytes = b} {more = more} v g) h =
    let long = length-append b more in
    line_on l ls [] a line room b v (omega (arith, long, h))
    ∙ prepended_done b more _ (done_from ls (further (length b) a) (line + 1) (room - length b) more g (omega (arith, long, h)))

pub is_done : IsDone
unfolding outcome_of
is_done first text room bytes g =
    ap (λ (rest : List ℕ). outcome_from (text_of text).lines rest first 1 room) g.ended
    ∙ done_from (text_of text).lines first 1 room bytes g.good g.fits

record GoodFrom (lines : Lines) (rest : List ℕ) (a : ℕ) (bytes : List ℕ) : Type 0 where
  good : GoodLines lines a bytes
  ended : rest ≡ []

left_good : (rest : List ℕ) (a line : ℕ) (bytes : List ℕ) → left_outcome line rest ≡ Done bytes → GoodFrom [] rest a bytes
unfolding left_outcome
left_good [] a line bytes e = rw (sym (done_bytes [] bytes e)) (record { good = no_line; ended = refl })
left_good (c ∷ cs) a line bytes e = absurd (refused_done e)

room_good : (t : Bool) (l : List ℕ) (ls : Lines) (rest : List ℕ) (a room line : ℕ) (b bytes : List ℕ) (o : Outcome) → verdict_of a l ≡ Bytes b
    → ((more : List ℕ) → o ≡ Done more → GoodFrom ls rest (further (length b) a) more) → outcome_if t line (prepended b o) ≡ Done bytes
    → GoodFrom (l ∷ ls) rest a bytes
unfolding outcome_if
room_good true l ls rest a room line b bytes o v known e = absurd (refused_done e)
room_good false l ls rest a room line b bytes o v known e =
    let p = parted b bytes o e in
    let g = known p.rest p.comes in
    rw p.joins (record { good = a_line v g.good; ended = g.ended })

line_good : (v : Verdict) (l : List ℕ) (ls : Lines) (rest : List ℕ) (a room line : ℕ) (bytes : List ℕ) (o : ℕ → Outcome) → verdict_of a l ≡ v
    → ((b more : List ℕ) → o (length b) ≡ Done more → GoodFrom ls rest (further (length b) a) more) → line_outcome line room v o ≡ Done bytes
    → GoodFrom (l ∷ ls) rest a bytes
unfolding line_outcome
line_good (Fault m) l ls rest a room line bytes o v known e = absurd (refused_done e)
line_good (Bytes b) l ls rest a room line bytes o v known e =
    room_good (ltb room (length b)) l ls rest a room line b bytes (o (length b)) v (known b) e

good_from : (lines : Lines) (rest : List ℕ) (a line room : ℕ) (bytes : List ℕ) → outcome_from lines rest a line room ≡ Done bytes → GoodFrom lines rest a bytes
unfolding outcome_from
good_from [] rest a line room bytes e = left_good rest a line bytes e
good_from (l ∷ ls) rest a line room bytes e =
    line_good (verdict_of a l) l ls rest a room line bytes _ refl
    (λ b more h. good_from ls rest (further (length b) a) (line + 1) (room - length b) more h) e

pub completes : Completes
unfolding outcome_of
completes first text room bytes e =
    let g = good_from (text_of text).lines (text_of text).rest first 1 room bytes e in
    record { good = g.good; ended = g.ended; fits = done_fits first text room bytes e }

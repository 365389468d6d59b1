-- `line` cuts the text at its first newline, and judges what stands before it.
use Prim.Native.Nat.{ℕ, ◌+◌, ◌-◌}
use mathlib.Core.List.{List}
use mathlib.Core.Path.{◌≡◌, refl, ap, ◌∙◌}
use native.Mathlib.Omega.{arith}
use lib.ListN.{length, take, drop, length-drop}
use Rattle.std.specs.Prelude.{Some, None, position}
use Rattle.std.proofs.lemmas.List.{length-take-le, take_all}
use Rattle.arith.specs.Numbers.{number_of}
use Rattle.arith.specs.Words.{further}
use Rattle.arith.specs.declared.Refusal.TheVariants.{Form}
use Rattle.spellings.proofs.Passed.{CutAt, none_found, some_found}
use Rattle.assembler.specs.Lines.{Fault, Bytes, verdict_of}
use Rattle.assembler.specs.Text.{text_of}
use Rattle.assembler.specs.Judging.{is_newline, head_verdict, behind_line, TakesLine, FaultsLine}
use Rattle.assembler.specs.declared.Fault as code
use Rattle.assembler.specs.declared.texts.Left.{Left}
use Rattle.assembler.proofs.First.{head_whole, head_cut}
use Rattle.assembler.proofs.texts.Left.line.Goals as goal

module _ (s : Left) where
  uncut : (f : code.Fault) → None ≡ position is_newline s.text.now → f.refusal ≡ Form → f.line ≡ s.line → FaultsLine s f
  uncut f none is line =
      let whole = ap length (none_found is_newline s.text.now none).0 in
      record { has = rw is (head_cut s.address s.text.now (omega (arith, whole))); line = line }

  module _ (n : ℕ) (at : Some n ≡ position is_newline s.text.now) where
    cut : CutAt is_newline s.text.now n
    cut = some_found is_newline s.text.now n at

    head_here : head_verdict s.address (text_of s.text.now).lines ≡ verdict_of s.address (take n s.text.now)
    head_here =
        let long = length-take-le n s.text.now (omega (arith, cut.within)) in
        let before = ap length cut.before in
        rw cut.before (head_whole s.address s.text.now (omega (arith, long, before, cut.within)))

    refused : (f : code.Fault) → verdict_of s.address (take n s.text.now) ≡ Fault (number_of f.refusal) → f.line ≡ s.line → FaultsLine s f
    refused f is line = record { has = head_here ∙ is; line = line }

    part : take (length s.text.now - (n + 1)) (drop (n + 1) s.text.now) ≡ drop (n + 1) s.text.now
    part = take_all _ (drop (n + 1) s.text.now) (omega (arith, length-drop (n + 1) s.text.now))

    behind_is : behind_line s.text.now ≡ drop (n + 1) s.text.now
    behind_is = ap (drop 1) cut.behind

    taken : (bytes : List ℕ) (behind : Left) → verdict_of s.address (take n s.text.now) ≡ Bytes bytes
        → behind.text.now ≡ take (length s.text.now - (n + 1)) (drop (n + 1) s.text.now)
        → behind.address ≡ further (length bytes) s.address → behind.line ≡ s.line + 1 → TakesLine s bytes behind
    taken bytes behind is text address line = record {
      has = head_here ∙ is;
      text = text ∙ part ∙ rw behind_is;
      address = address;
      line = line;
      shorter = rw (text, part) (omega (arith, length-drop (n + 1) s.text.now, cut.within));
    }

pub returns-in_default-clause-fault : goal.returns-in_default-clause-fault
returns-in_default-clause-fault c = uncut _ _ c.in_default.ensures c.fault.ensures.refusal c.fault.ensures.line

pub returns-in-Err-clause-fault : goal.returns-in-Err-clause-fault
returns-in-Err-clause-fault c =
    refused _ c.in-Some.end c.in-Some.ensures _ (rw c.fault-in-Err.ensures.refusal c.in-Err.ensures) c.fault-in-Err.ensures.line

pub returns-clause-taken : goal.returns-clause-taken
returns-clause-taken c =
    let address = rw c.len.ensures.value at c.further.ensures in
    taken _ c.in-Some.end c.in-Some.ensures _ _ c.in-Ok.ensures refl address refl

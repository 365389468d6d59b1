-- `answer` meets its contract: 6 for a wrong length, the number of a refused head, and else the lines of the run.
use Prim.Native.Nat.{ℕ, ◌-◌}
use mathlib.Core.List.{List, [], ◌∷◌}
use mathlib.Core.Path.{◌≡◌, sym, ap, ◌∙◌}
use native.Mathlib.Omega.{arith}
use lib.ListN.{length, get_or, take, drop, length-drop}
use lib.Seq.{take_all}
use Rattle.arith.proofs.Numbers.{number_some}
use Rattle.arith.specs.Refusals.{unless_refused}
use Rattle.digits.specs.Digits.{number_of, number_in}
use Rattle.digits.proofs.Places.{bytes_at, part_bytes}
use Rattle.machine.proofs.Gives.{exactly}
use Rattle.saved.specs.Answers.{Loaded, load_head_of}
use Rattle.saved.proofs.Refused.{refused_by_lem}
use Rattle.machine.specs.Answers.{keeping}
use Rattle.text.specs.Answer.{budget_size, refusal_line, printed, ran_of, loaded_run, answer_of}
use Rattle.text.proofs.Ends.{too_short_or_long, lead_wrong, lengths_right}
use Rattle.text.proofs.answer.answer.Goals as goal
use Rattle.text.proofs.answer.answer.Goals.{then-got-ne-INPUT_SIZE-via-then-got-ne-INPUT_SIZE, then-got-ne-INPUT_SIZE-via-else-got-ne-INPUT_SIZE+then-lead-ne-LEAD_SIZE}

-- the budget of a lead, and the head that was loaded
module _ (lead : List ℕ) (size : length lead ≡ 27) where
  budget : (n : ℕ) → n ≡ number_of (get_or lead 0 0 ∷ get_or lead 1 0 ∷ get_or lead 2 0 ∷ get_or lead 3 0 ∷ []) → n ≡ number_in budget_size 0 lead
  unfolding number_in bytes_at
  budget n e = e ∙ ap number_of (sym (part_bytes budget_size 0 lead (omega arith)))

  loaded : (l : Loaded) → l ≡ load_head_of (take (length lead - budget_size) (drop budget_size lead)) → l ≡ load_head_of (drop budget_size lead)
  loaded l e = e ∙ ap load_head_of (take_all (length lead - budget_size) (drop budget_size lead) (simp length-drop (omega arith)))

pub returns-then-got-ne-INPUT_SIZE : goal.returns-then-got-ne-INPUT_SIZE
returns-then-got-ne-INPUT_SIZE c =
    let a = c.args in
    let wrong : answer_of a.got a.lead.now a.mem.now ≡ keeping (printed (refusal_line 6)) a.mem.now =
    elim c.then-got-ne-INPUT_SIZE.branch [
      | then-got-ne-INPUT_SIZE-via-then-got-ne-INPUT_SIZE w ↦ too_short_or_long _ _ _ w.if-got-ne-INPUT_SIZE.true
      | then-got-ne-INPUT_SIZE-via-else-got-ne-INPUT_SIZE+then-lead-ne-LEAD_SIZE w ↦
          lead_wrong _ _ _ w.if-got-ne-INPUT_SIZE.false w.if-lead-ne-LEAD_SIZE.true
    ]
    in
    rw (wrong, c.refusal.ensures) exactly

pub returns-in-Ok : goal.returns-in-Ok
unfolding loaded_run unless_refused ran_of
returns-in-Ok c =
    rw (
      lengths_right _ _ _ c.if-got-ne-INPUT_SIZE.false c.if-lead-ne-LEAD_SIZE.false,
      ← (loaded _ c.if-lead-ne-LEAD_SIZE.false _ c.in-Ok.ensures),
      ← (budget _ c.if-lead-ne-LEAD_SIZE.false _ c.number-budget.ensures),
      c.ran.ensures,
      c.run.ensures.answers,
      c.run.ensures.leaves,
    )
    exactly

pub returns-in-Err : goal.returns-in-Err
unfolding loaded_run
returns-in-Err c =
    rw (
      lengths_right _ _ _ c.if-got-ne-INPUT_SIZE.false c.if-lead-ne-LEAD_SIZE.false,
      ← (loaded _ c.if-lead-ne-LEAD_SIZE.false _ c.in-Err.ensures),
      refused_by_lem _ _ _ (number_some c.in-Err.refused),
      c.refusal-in-Err.ensures,
    )
    exactly

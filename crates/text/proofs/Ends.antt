-- Where the lengths of the program's input lead: to 6, or to its head and its run.
-- Assumes nothing.
use Prim.Native.Nat.{ℕ}
use mathlib.Core.List.{List}
use mathlib.Core.Logic.{◌≢◌}
use mathlib.Core.Path.{◌≡◌}
use borrow.Author.Tests.{eq-eqb, ne_eqb}
use lib.ListN.{length, drop}
use Rattle.digits.specs.Digits.{number_in}
use Rattle.machine.specs.Answers.{keeping}
use Rattle.saved.specs.Answers.{load_head_of}
use Rattle.text.specs.Answer.{budget_size, lead_size, input_size, refusal_line, printed, loaded_run, answer_if, answer_of}

module _ (got : ℕ) (lead m : List ℕ) where
  pub too_short_or_long : got ≢ input_size → answer_of got lead m ≡ keeping (printed (refusal_line 6)) m
  unfolding answer_of answer_if
  too_short_or_long p = rw (ne_eqb got input_size p)

  pub lead_wrong : got ≡ input_size → length lead ≢ lead_size → answer_of got lead m ≡ keeping (printed (refusal_line 6)) m
  unfolding answer_of answer_if
  lead_wrong p q = rw (eq-eqb got input_size p, ne_eqb (length lead) lead_size q)

  pub lengths_right : got ≡ input_size → length lead ≡ lead_size
      → answer_of got lead m
      ≡ loaded_run (load_head_of (drop budget_size lead)).code (load_head_of (drop budget_size lead)).cpu (number_in budget_size 0 lead) m
  unfolding answer_of answer_if
  lengths_right p q = rw (eq-eqb got input_size p, eq-eqb (length lead) lead_size q)

-- `trnadulek_list` hands on what the listing answers.
use mathlib.Core.Path.{◌≡◌, refl, ap, ◌∙◌}
use Rattle.std.specs.Prelude.{ℕ, Result, Ok, Err}
use Rattle.std.specs.Result.{result_unwrap_or}
use Rattle.arith.specs.Numbers.{code_in}
use Rattle.arith.specs.declared.Refusal.{Refusal}
use Rattle.listing.specs.Answer.{Listed, told_list}
use Rattle.trnadulek.proofs.trnadulek_list.Goals as goal

-- what is told of a listing is its number, and its length or 0
told : (r : Result ℕ Refusal) → record { code = code_in r; length = result_unwrap_or r 0 } ≡ told_list r
unfolding told_list
told (Ok n) = refl
told (Err r) = refl

pub returns : goal.returns
returns c =
    let listed = c.list-listed.ensures in
    let same = told c.list-listed.result ∙ listed.answers in
    record {
      answers = c.code.ensures ∙ ap (λ (l : Listed). l.code) same;
      leaves_out = listed.leaves;
      leaves_length = c.unwrap_or.ensures ∙ ap (λ (l : Listed). l.length) same;
    }

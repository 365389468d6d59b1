-- `try_from` takes 1 for the old edition and 2 for the new one.
use native.Mathlib.Omega.{arith}
use borrow.Author.Tests.{ne_eqb}
use Rattle.listing.specs.Answer.{edition_if, edition_of, numbered_if, numbered}
use Rattle.listing.proofs.EditionTryFromU32.try_from.Goals as goal

pub returns-in-1 : goal.returns-in-1
unfolding edition_if edition_of numbered_if numbered
returns-in-1 c = rw c.in-1.is

pub returns-in-2 : goal.returns-in-2
unfolding edition_if edition_of numbered_if numbered
returns-in-2 c = rw c.in-2.is

pub returns-in_default : goal.returns-in_default
unfolding edition_if edition_of numbered_if numbered
returns-in_default c = rw (ne_eqb c.args.number 1 (omega arith), ne_eqb c.args.number 2 (omega arith))

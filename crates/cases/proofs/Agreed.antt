-- The list `twelve` and the paper's numbers agree: twelve cases each, in one order, and in each place that the paper names the same
-- number. So no case is cut, added, exchanged or changed in one of the two alone.
-- Assumes nothing.
use mathlib.Core.List.{[]}
use mathlib.Core.Path.{◌≡◌, refl}
use lib.ListN.{length}
use Rattle.arith.specs.Words.{high_of, low_of}
use Rattle.cases.specs.Case.{state_of}
use Rattle.cases.specs.Twelve.{twelve}
use Rattle.cases.specs.Paper.{paper}
use Rattle.cases.specs.Agreed.{ime_number, or_else, listed, value_at, has_all, agrees, unless_so, differing}

pub twelve_in_all : length twelve ≡ 12
unfolding twelve
twelve_in_all = refl

pub twelve_on_paper : length paper ≡ 12
unfolding paper
twelve_on_paper = refl

pub twelve_agree : differing 1 paper twelve ≡ []
unfolding twelve paper state_of high_of low_of ime_number or_else listed value_at has_all agrees unless_so differing
twelve_agree = refl

-- `next` reads the line that comes next, and goes on behind it.
use borrow.Author.Rules.{rules}
use mathlib.Core.Path.{ap}
use native.Mathlib.Omega.{arith}
use lib.ListN.{length}
use Rattle.listing.proofs.Left.{none_left, fits_here, few_here, one_less}
use Rattle.listing.proofs.lines.LinesIterator.next.Goals as goal

pub returns-then-is_empty-clause-steps : goal.returns-then-is_empty-clause-steps
returns-then-is_empty-clause-steps c =
    let none = none_left _ _ c.args.self.now.rest.now (search rules) in (none, none)

pub slice_bounds-self-count : goal.slice_bounds-self-count
slice_bounds-self-count c = fits_here _ _ _ (search rules) c.first-reading.result c.first-reading.ensures

pub slice_bounds-self-start : goal.slice_bounds-self-start
slice_bounds-self-start c = fits_here _ _ _ (search rules) c.first-reading.result c.first-reading.ensures

pub overflow_cast-count : goal.overflow_cast-count
overflow_cast-count c = record { fits = few_here _ _ _ (search rules) c.first-reading.result c.first-reading.ensures }

pub returns-clause-steps : goal.returns-clause-steps
returns-clause-steps c =
    rw c.further-self.ensures (one_less _ _ _ (search rules) c.first-reading.result c.first-reading.ensures (search rules))

pub returns-clause-goes : goal.returns-clause-goes
returns-clause-goes c =
    let less = one_less c.args.self.now.edition _ _ (search rules) c.first-reading.result c.first-reading.ensures (search rules) in
    rw c.further-self.ensures (record { on = λ _. (tt, tt, omega (arith, ap length less)); keeps = tt; rests = λ _. tt })

-- `load` tests the length, and then the content.
use borrow.Author.Tests.{eq-eqb, ne_eqb}
use Rattle.arith.specs.Refusals.{number_or, code_of}
use Rattle.arith.specs.declared.Refusal.TheVariants.{Length}
use Rattle.saved.specs.Answers.{load_of}
use Rattle.saved.specs.Refusals.{load_refusals, load_code}
use Rattle.saved.proofs.Told.{told_refused}
use Rattle.saved.proofs.head.load.Goals as goal

pub returns-then-bytes-size : goal.returns-then-bytes-size
unfolding load_of load_code load_refusals code_of number_or
returns-then-bytes-size c =
    told_refused Length (code_of (load_refusals c.args.size c.args.bytes.now)) c.args.bytes.now (rw (ne_eqb _ _ c.if-bytes-size.true))

pub returns : goal.returns
unfolding load_of load_code load_refusals code_of number_or
returns c = rw (c.content.ensures, eq-eqb _ _ c.if-bytes-size.false)

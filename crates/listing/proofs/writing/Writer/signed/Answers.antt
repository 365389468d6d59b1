-- `signed` writes a minus before what is negative.
use Prim.Native.Nat.{◌+◌, ◌-◌}
use borrow.Author.Tests.{lt-ltb, le-ltb}
use mathlib.Core.Path.{◌≡◌}
use native.Mathlib.Omega.{arith}
use Rattle.digits.specs.Ascii.{ascii}
use Rattle.listing.specs.Spelling.{signed_if, signed_text}
use Rattle.listing.proofs.Writers.{after}
use Rattle.listing.proofs.writing.Writer.signed.Goals as goal

pub returns-then-e-lt128 : goal.returns-then-e-lt128
unfolding signed_if signed_text
returns-then-e-lt128 c = rw (lt-ltb _ 0x80 c.if-e-lt128.true) c.hex_byte.ensures

pub returns-else-e-lt128 : goal.returns-else-e-lt128
unfolding signed_if signed_text ascii
returns-else-e-lt128 c =
    let e = c.args.e in
    let size : 256 - e ≡ 255 - e + 1 = omega arith in
    rw (le-ltb _ 0x80 c.if-e-lt128.false, size) (after c.push.ensures c.hex_byte-else-e-lt128.ensures)

-- `named` writes the name that a mark stands for.
use native.Mathlib.Omega.{arith}
use Prim.Native.Nat.{ℕ}
use borrow.Author.Tests.{ne_eqb}
use mathlib.Core.List.{[], ◌∷◌}
use mathlib.Core.Logic.{◌≢◌}
use mathlib.Core.Path.{◌≡◌}
use Rattle.digits.specs.Ascii.{ascii}
use Rattle.std.proofs.Common.{mod-lt}
use Rattle.listing.specs.Lines.{joined}
use Rattle.listing.specs.Forms.{text_if, letter_text, named_text}
use Rattle.listing.specs.declared.Edition.{Edition}
use Rattle.listing.proofs.Names.{names_of, named}
use Rattle.listing.proofs.Writers.{told}
use Rattle.listing.proofs.Operands.named.Goals as goal

-- any other character is itself
plain : (e : Edition) (op m : ℕ) → m ≢ 97 → m ≢ 99 → m ≢ 100 → m ≢ 105 → m ≢ 107 → m ≢ 108 → m ≢ 111 → m ≢ 112 → m ≢ 113 → m ≢ 116 → m ≢ 121
    → m ≢ 122 → named_text e op m ≡ m ∷ []
unfolding named_text text_if
plain e op m a c d i k l o p q t y z =
    rw (
      ne_eqb m 97 a,
      ne_eqb m 99 c,
      ne_eqb m 100 d,
      ne_eqb m 105 i,
      ne_eqb m 107 k,
      ne_eqb m 108 l,
      ne_eqb m 111 o,
      ne_eqb m 112 p,
      ne_eqb m 113 q,
      ne_eqb m 116 t,
      ne_eqb m 121 y,
      ne_eqb m 122 z,
    )

pub returns-in-97 : goal.returns-in-97
unfolding named_text text_if ascii joined letter_text names_of
returns-in-97 c = told (named_text _ _) c.in-97.is (named 8 (ascii "ADD.ADC.SUB.SBC.AND.XOR.OR..CP..") (mod-lt _ (omega arith)) c.name.ensures)

pub returns-in-99 : goal.returns-in-99
unfolding named_text text_if ascii joined letter_text names_of
returns-in-99 c = told (named_text _ _) c.in-99.is (named 4 (ascii "NZ..Z...NC..C...") (mod-lt _ (omega arith)) c.name-in-99.ensures)

pub returns-in-111 : goal.returns-in-111
unfolding named_text text_if ascii joined letter_text names_of
returns-in-111 c = told (named_text _ _) c.in-111.is (named 8 (ascii "RLC.RRC.RL..RR..SLA.SRA.SWAPSRL.") (mod-lt _ (omega arith)) c.name-in-111.ensures)

pub returns-in-112 : goal.returns-in-112
unfolding named_text text_if ascii joined letter_text names_of
returns-in-112 c = told (named_text _ _) c.in-112.is (named 4 (ascii "BC..DE..HL..SP..") (mod-lt _ (omega arith)) c.name-in-112.ensures)

pub returns-in-113 : goal.returns-in-113
unfolding named_text text_if ascii joined letter_text names_of
returns-in-113 c = told (named_text _ _) c.in-113.is (named 4 (ascii "BC..DE..HL..AF..") (mod-lt _ (omega arith)) c.name-in-113.ensures)

pub returns-in_default : goal.returns-in_default
returns-in_default c =
    rw
    (plain _ _ c.args.mark (omega arith) (omega arith) (omega arith) (omega arith) (omega arith)
    (omega arith) (omega arith) (omega arith) (omega arith) (omega arith) (omega arith) (omega arith))
    c.push-in_default.ensures

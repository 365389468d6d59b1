-- The list of cases beside the paper's numbers: which cases do not have the number that the paper names in each place.
-- Assumes nothing.
use Rattle.std.specs.Prelude.{ℕ, ◌*◌, ◌+◌, ◌/◌, ◌%◌, Bool, true, false, ◌&&◌, List, [], ◌∷◌, eqb}
use Rattle.machine.specs.declared.Ime.{Ime}
use Rattle.machine.specs.declared.Ime.TheVariants.{Off, Arming, On}
use Rattle.machine.specs.declared.Cpu.{Cpu}
use Rattle.cases.specs.Case.{Cell, Case}
use Rattle.cases.specs.Paper.{Place, Number, Row}
use Rattle.cases.specs.Paper.Place.{A, F, B, HL, BC, SP, PC, Carry, IME, Opcode, Next, Top, Under, At}

unfoldable pub ime_number : Ime → ℕ
ime_number Off = 0
ime_number Arming = 1
ime_number On = 2

-- the byte that is listed for an address; one that is not listed is 65,536, which no byte is
unfoldable pub or_else : Bool → ℕ → ℕ → ℕ
or_else true v w = v
or_else false v w = w

unfoldable pub listed : ℕ → List Cell → ℕ
listed at [] = 65536
listed at (x ∷ xs) = or_else (eqb at x.at) x.value (listed at xs)

unfoldable pub value_at : Cpu → List Cell → Place → ℕ
value_at s xs A = s.a
value_at s xs F = s.f
value_at s xs B = s.b
value_at s xs HL = s.h * 256 + s.l
value_at s xs BC = s.b * 256 + s.c
value_at s xs SP = s.sp
value_at s xs PC = s.pc
value_at s xs Carry = s.f / 16 % 2
value_at s xs IME = ime_number s.ime
value_at s xs Opcode = listed s.pc xs
value_at s xs Next = listed (s.pc + 1) xs
value_at s xs Top = listed s.sp xs
value_at s xs Under = listed (s.sp + 1) xs
value_at s xs (At at) = listed at xs

-- a case has all the numbers of a row
unfoldable pub has_all : Cpu → List Cell → List Number → Bool
has_all s xs [] = true
has_all s xs (n ∷ ns) = eqb (value_at s xs n.place) n.value && has_all s xs ns

unfoldable pub agrees : Row → Case → Bool
agrees r c = has_all c.start c.bytes r.given && has_all c.end c.left r.gives

unfoldable pub unless_so : Bool → ℕ → List ℕ → List ℕ
unless_so true k ks = ks
unless_so false k ks = k ∷ ks

-- the numbers, from k on, of the cases that do not agree; one that only one of the lists has is among them
unfoldable pub differing : ℕ → List Row → List Case → List ℕ
differing k [] [] = []
differing k [] (c ∷ cs) = k ∷ differing (k + 1) [] cs
differing k (r ∷ rs) [] = k ∷ differing (k + 1) rs []
differing k (r ∷ rs) (c ∷ cs) = unless_so (agrees r c) k (differing (k + 1) rs cs)

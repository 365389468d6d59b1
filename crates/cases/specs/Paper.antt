-- The numbers of document 01, "Cases to prove together", in its order: for each case the opcode, by the grid, what else is given, and
-- what comes out. They were typed from the paper and not from the list `twelve`, so that a slip in one is seen in the other.
-- Assumes nothing.
use Rattle.std.specs.Prelude.{ℕ, List, [], ◌∷◌}

-- where a number of the paper stands: a register or a pair, the carry of F, the code of IME, the opcode at PC and the byte after it,
-- the two bytes at SP, or an address
pub data Place : Type 0 where
  A F B HL BC SP PC Carry IME Opcode Next Top Under : Place
  At : ℕ → Place

pub record Number : Type 0 where
  pub place : Place
  pub value : ℕ

infix 70 ◌is◌
abbrev pub ◌is◌ : Place → ℕ → Number
p is v = record { place = p; value = v }

pub record Row : Type 0 where
  pub given : List Number
  pub gives : List Number

abbrev pub row : List Number → List Number → Row
row given gives = record { given = given; gives = gives }

unfoldable pub paper : List Row
paper =
    -- 1, ADD A,B
    row (Opcode is 0x80 ∷ A is 0x3A ∷ B is 0xC6 ∷ []) (A is 0x00 ∷ F is 0xB0 ∷ [])
    -- 2, ADC A,B
    ∷ row (Opcode is 0x88 ∷ A is 0x0F ∷ B is 0 ∷ Carry is 1 ∷ []) (A is 0x10 ∷ F is 0x20 ∷ [])
    -- 3, SUB A,B
    ∷ row (Opcode is 0x90 ∷ A is 0 ∷ B is 1 ∷ []) (A is 0xFF ∷ F is 0x70 ∷ [])
    -- 4, SBC A,B
    ∷ row (Opcode is 0x98 ∷ A is 0x3B ∷ B is 0x2A ∷ Carry is 1 ∷ []) (A is 0x10 ∷ F is 0x40 ∷ [])
    -- 5, INC A
    ∷ row (Opcode is 0x3C ∷ A is 0xFF ∷ F is 0x10 ∷ []) (A is 0 ∷ F is 0xB0 ∷ [])
    -- 6, ADD HL,BC
    ∷ row (Opcode is 0x09 ∷ HL is 0x8A23 ∷ BC is 0x0605 ∷ F is 0x80 ∷ []) (HL is 0x9028 ∷ F is 0xA0 ∷ [])
    -- 7, ADD SP with -1
    ∷ row (Opcode is 0xE8 ∷ SP is 1 ∷ Next is 0xFF ∷ []) (SP is 0 ∷ F is 0x30 ∷ [])
    -- 8, DAA
    ∷ row (Opcode is 0x27 ∷ A is 0x9A ∷ F is 0 ∷ []) (A is 0 ∷ F is 0x90 ∷ [])
    -- 9, DAA after a subtraction
    ∷ row (Opcode is 0x27 ∷ A is 0xFF ∷ F is 0x70 ∷ []) (A is 0x99 ∷ F is 0x50 ∷ [])
    -- 10, POP AF
    ∷ row (Opcode is 0xF1 ∷ Top is 0xFF ∷ Under is 0x12 ∷ []) (A is 0x12 ∷ F is 0xF0 ∷ [])
    -- 11, JR across the end of memory
    ∷ row (Opcode is 0x18 ∷ Next is 2 ∷ PC is 0xFFFE ∷ []) (PC is 2 ∷ [])
    -- 12, a dispatch: $FFFF is IE, $FF0F is IF, and IME is 0 Off, 1 Arming, 2 On
    ∷ row (IME is 2 ∷ At 0xFFFF is 5 ∷ At 0xFF0F is 6 ∷ PC is 0xC123 ∷ SP is 0xFFFE ∷ [])
    (PC is 0x0050 ∷ At 0xFF0F is 2 ∷ At 0xFFFD is 0xC1 ∷ At 0xFFFC is 0x23 ∷ [])
    ∷ []

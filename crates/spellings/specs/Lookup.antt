-- How the code finds a row: a name and its operands go by their places in three tables, and from these a row follows by the groups of the
-- opcodes.
-- Assumes nothing.
use Rattle.std.specs.Prelude.{ℕ, zero, suc, ◌+◌, ◌-◌, ◌*◌, ◌≤◌, Bool, not, ◌||◌, ◌&&◌, List, [], ◌∷◌, ◌++◌, ◌≡◌, eqb, leb, ltb, length, take, drop}
use Rattle.digits.specs.Ascii.{ascii, space}
use Rattle.listing.specs.Forms.{number_if}
use Rattle.spellings.specs.Outline.{up_to, on_from, before_in, constant_in}
use Rattle.spellings.specs.Rows.{same, no_row}

-- the letters of an entry, which points fill up
unfoldable pub letters_of : List ℕ → List ℕ
letters_of entry = up_to (λ c. eqb c 46) entry

-- the number of the first entry, five characters each, that a text is, or their count
unfoldable pub place_in : ℕ → List ℕ → List ℕ → ℕ
place_in zero entries text = 0
place_in (suc n) entries text = number_if (same (letters_of (take 5 entries)) text) 0 (suc (place_in n (drop 5 entries) text))

-- names that stand alone, names that operands follow, and operands
unfoldable pub bares : List ℕ
bares = ascii "RLCA.RRCA.RLA..RRA..DAA..CPL..SCF..CCF..RET..RETI.DI...EI...NOP..STOP.HALT."

unfoldable pub names : List ℕ
names =
    ascii "ADD..ADC..SUB..SBC..AND..XOR..OR...CP...BIT..RES..SET..LD...LDI..LDD..LDH..LDIO.JR...CALL.JP...RET..RST..DB..."
    ++ ascii "RLC..RRC..RL...RR...SLA..SRA..SWAP.SRL..INC..DEC..POP..PUSH."

unfoldable pub operands : List ℕ
operands =
    ascii "B....C....D....E....H....L....[HL].A....BC...DE...HL...SP...AF...[BC].[DE].[HLI][HLD]NZ...Z....NC...[C]..$....[$]..SP+$."

unfoldable pub bare_in : List ℕ → ℕ
bare_in text = place_in 15 bares text

unfoldable pub name_in : List ℕ → ℕ
name_in text = place_in 34 names text

unfoldable pub operand_in : List ℕ → ℕ
operand_in text = place_in 24 operands text

-- a name alone
unfoldable pub alone_row : ℕ → ℕ
alone_row k =
    number_if (ltb k 8) (0x07 + 8 * k)
    (number_if (ltb k 10) (0xC9 + 16 * (k - 8))
    (number_if (ltb k 12) (0xF3 + 8 * (k - 10)) (number_if (ltb k 14) (16 * (k - 12)) (number_if (eqb k 14) 0x76 no_row))))

-- a name and an operand: a condition, a pair on the stack, and 4 where there is none
unfoldable pub condition_of : ℕ → ℕ
condition_of a = number_if (eqb a 1) 3 (number_if (leb 17 a && ltb a 20) (a - 17) 4)

unfoldable pub stacked_of : ℕ → ℕ
stacked_of a = number_if (eqb a 12) 3 (number_if (leb 8 a && ltb a 11) (a - 8) 4)

unfoldable pub number_row : ℕ → ℕ
number_row name =
    number_if (eqb name 16) 0x18
    (number_if (eqb name 17) 0xCD (number_if (eqb name 18) 0xC3 (number_if (eqb name 20) 0xC7 (number_if (eqb name 21) 512 no_row))))

unfoldable pub jump_row : ℕ → ℕ → ℕ
jump_row name a =
    number_if (eqb a 21) (number_row name)
    (number_if (eqb name 18 && eqb a 10) 0xE9
    (number_if (eqb name 19 && ltb (condition_of a) 4) (0xC0 + 8 * condition_of a) no_row))

unfoldable pub step_row : ℕ → ℕ → ℕ
step_row k a = number_if (ltb a 8) (0x04 + k + 8 * a) (number_if (ltb a 12) (0x03 + 8 * k + 16 * (a - 8)) no_row)

unfoldable pub stack_row : ℕ → ℕ → ℕ
stack_row k a = number_if (ltb (stacked_of a) 4) (0xC1 + 4 * k + 16 * stacked_of a) no_row

unfoldable pub rotate_row : ℕ → ℕ → ℕ
rotate_row k a = number_if (ltb a 8) (256 + 8 * k + a) no_row

unfoldable pub single_row : ℕ → ℕ → ℕ
single_row name a =
    number_if (ltb name 22) (jump_row name a)
    (number_if (ltb name 30) (rotate_row (name - 22) a)
    (number_if (ltb name 32) (step_row (name - 30) a) (number_if (leb name 33) (stack_row (name - 32) a) no_row)))

-- a name and two operands
unfoldable pub add_row : ℕ → ℕ → ℕ
add_row a b =
    number_if (eqb a 10 && (leb 8 b && ltb b 12)) (0x09 + 16 * (b - 8)) (number_if (eqb a 11 && eqb b 21) 0xE8 no_row)

unfoldable pub math_row : ℕ → ℕ → ℕ → ℕ
math_row k a b =
    number_if (eqb a 7) (number_if (ltb b 8) (0x80 + 8 * k + b) (number_if (eqb b 21) (0xC6 + 8 * k) no_row))
    (number_if (eqb k 0) (add_row a b) no_row)

unfoldable pub bit_row : ℕ → ℕ → ℕ → ℕ
bit_row k a b = number_if (eqb a 21 && ltb b 8) (320 + 64 * k + b) no_row

unfoldable pub place_load_row : ℕ → ℕ → ℕ
place_load_row a b =
    number_if (ltb b 8) (number_if (eqb a 6 && eqb b 6) no_row (0x40 + 8 * a + b))
    (number_if (eqb b 21) (0x06 + 8 * a)
    (number_if (eqb a 7 && (leb 13 b && ltb b 17)) (0x0A + 16 * (b - 13)) (number_if (eqb a 7 && eqb b 22) 0xFA no_row)))

unfoldable pub store_row : ℕ → ℕ
store_row a = number_if (leb 13 a && ltb a 17) (0x02 + 16 * (a - 13)) (number_if (eqb a 22) 0xEA no_row)

unfoldable pub word_load_row : ℕ → ℕ → ℕ
word_load_row a b =
    number_if (eqb b 21 && (leb 8 a && ltb a 12)) (0x01 + 16 * (a - 8))
    (number_if (eqb a 22 && eqb b 11) 0x08 (number_if (eqb a 10 && eqb b 23) 0xF8 (number_if (eqb a 11 && eqb b 10) 0xF9 no_row)))

unfoldable pub load_row : ℕ → ℕ → ℕ
load_row a b = number_if (ltb a 8) (place_load_row a b) (number_if (eqb b 7) (store_row a) (word_load_row a b))

unfoldable pub moved_row : ℕ → ℕ → ℕ → ℕ
moved_row k a b = number_if (eqb a 6 && eqb b 7) (0x22 + 16 * k) (number_if (eqb a 7 && eqb b 6) (0x2A + 16 * k) no_row)

unfoldable pub high_row : ℕ → ℕ → ℕ
high_row a b =
    number_if (eqb a 22 && eqb b 7) 0xE0
    (number_if (eqb a 7 && eqb b 22) 0xF0 (number_if (eqb a 20 && eqb b 7) 0xE2 (number_if (eqb a 7 && eqb b 20) 0xF2 no_row)))

unfoldable pub branch_row : ℕ → ℕ → ℕ → ℕ
branch_row name a b =
    number_if (leb 4 (condition_of a) || not (eqb b 21)) no_row
    (number_if (eqb name 16) (0x20 + 8 * condition_of a)
    (number_if (eqb name 17) (0xC4 + 8 * condition_of a) (number_if (eqb name 18) (0xC2 + 8 * condition_of a) no_row)))

unfoldable pub double_row : ℕ → ℕ → ℕ → ℕ
double_row name a b =
    number_if (ltb name 8) (math_row name a b)
    (number_if (ltb name 11) (bit_row (name - 8) a b)
    (number_if (eqb name 11) (load_row a b)
    (number_if (ltb name 14) (moved_row (name - 12) a b) (number_if (ltb name 16) (high_row a b) (branch_row name a b)))))

-- a text falls apart at its first space, and behind that at its first comma
abbrev pub is_space : ℕ → Bool
is_space c = eqb c space

abbrev pub is_comma : ℕ → Bool
is_comma c = eqb c 44

unfoldable pub operands_row : ℕ → List ℕ → List ℕ → ℕ
operands_row name first [] = single_row name (operand_in first)
operands_row name first (c ∷ second) = double_row name (operand_in first) (operand_in second)

unfoldable pub named_row : List ℕ → List ℕ → ℕ
named_row name [] = alone_row (bare_in name)
named_row name (c ∷ rest) = operands_row (name_in name) (up_to is_comma rest) (on_from is_comma rest)

unfoldable pub lookup : List ℕ → ℕ
lookup text = named_row (up_to is_space text) (on_from is_space text)

-- a line's constant begins and ends at two places
pub record Stands (line : List ℕ) (from to : ℕ) : Type 0 where
  pub begin : from ≡ length (before_in line)
  pub end : to ≡ from + length (constant_in line)
  pub within : to ≤ length line

-- opens these in a proof
unfoldable pub lookups : Unit {0}
unfolding letters_of place_in bares names operands bare_in name_in operand_in alone_row condition_of stacked_of number_row jump_row step_row stack_row rotate_row single_row add_row math_row bit_row place_load_row store_row word_load_row load_row moved_row high_row branch_row double_row operands_row named_row lookup
lookups = tt

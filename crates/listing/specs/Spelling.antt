-- How an instruction is spelled: its name, a space, and its operands with commas between. Document 02, M-101 and M-102; the headings
-- of the instruction reference, edition 001, and what editions 002 to 004 say is written for some of them.
-- Assumes nothing.
use Rattle.std.specs.Prelude.{ℕ, ◌-◌, Bool, true, false, List, [], ◌∷◌, ◌++◌, eqb, ltb}
use Prim.Native.String.{String}
use Rattle.arith.specs.Words.{word_of, offset_of}
use Rattle.arith.specs.declared.Alu.{Alu}
use Rattle.arith.specs.declared.Alu.TheVariants.{Add, Adc, Sub, Sbc, And, Xor, Or, Cp}
use Rattle.arith.specs.declared.Rot.{Rot}
use Rattle.arith.specs.declared.Rot.TheVariants.{Rlc, Rrc, Rl, Rr, Sla, Sra, Swap, Srl}
use Rattle.digits.specs.Ascii.{ascii, space}
use Rattle.digits.specs.Numerals.{hex_text, decimal_text}
use Rattle.insn.specs.Grid.{operand_of, decode_of}
use Rattle.insn.specs.declared.Register.{Register}
use Rattle.insn.specs.declared.Register.TheVariants as reg
use Rattle.insn.specs.declared.Operand.{Operand}
use Rattle.insn.specs.declared.Operand.TheVariants.{Reg, AtHl, Const}
use Rattle.insn.specs.declared.Place.{Place}
use Rattle.insn.specs.declared.Pair.{Pair}
use Rattle.insn.specs.declared.Pair.TheVariants as pair
use Rattle.insn.specs.declared.Stacked.{Stacked}
use Rattle.insn.specs.declared.Stacked.TheVariants as stacked
use Rattle.insn.specs.declared.Pointer.{Pointer}
use Rattle.insn.specs.declared.Pointer.TheVariants as pointer
use Rattle.insn.specs.declared.Cond.{Cond}
use Rattle.insn.specs.declared.Cond.TheVariants as cond
use Rattle.insn.specs.declared.Insn.{Insn}
use Rattle.insn.specs.declared.Insn.TheVariants.{Nop, StoreSp, Stop, Jr, JrIf, LoadPair, AddHl, StoreAt, LoadAt, IncPair, DecPair, Inc, Dec, Load, RotateA, Daa, Cpl, Scf, Ccf, Halt, Math, RetIf, StoreHigh, AddSp, LoadHigh, LoadHlSp, Pop, Ret, Reti, JumpHl, LoadSpHl, JumpIf, StoreHighC, StoreTo, LoadHighC, LoadFrom, Jump, Rotate, Bit, Res, Set, Di, Ei, CallIf, Push, Call, Rst, Undefined}
use Rattle.listing.specs.declared.Edition.{Edition}
use Rattle.listing.specs.declared.Edition.TheVariants.{Old, New}

-- the kind of a constant, as the reference's headings have it: n8; n16; [n16]; [n16] of LDH, by its low byte; e8; SP+e8; the e8 of JR,
-- which leads to a target; u3; vec
pub data Kind : Type 0 where
  n8 : Kind
  n16 : Kind
  at_n16 : Kind
  at_high : Kind
  e8 : Kind
  sp_plus_e8 : Kind
  target : Kind
  u3 : Kind
  vec : Kind

-- an operand: the name of a register, a pair or a condition, or of the place that one leads to; or a constant of a kind
pub data Shown : Type 0 where
  Named : String → Shown
  Of : Kind → ℕ → Shown

-- a name and its operands
pub record Spelling : Type 0 where
  pub name : String
  pub operands : List Shown

abbrev pub alone : String → Spelling
alone t = record { name = t; operands = [] }

abbrev pub one : String → Shown → Spelling
one t x = record { name = t; operands = x ∷ [] }

abbrev pub two : String → Shown → Shown → Spelling
two t x y = record { name = t; operands = x ∷ y ∷ [] }

-- the names of registers, pairs and conditions; brackets stand around an address

unfoldable pub register_name : Register → Shown
register_name reg.B = Named "B"
register_name reg.C = Named "C"
register_name reg.D = Named "D"
register_name reg.E = Named "E"
register_name reg.H = Named "H"
register_name reg.L = Named "L"
register_name reg.A = Named "A"

unfoldable pub operand_name : Operand → Shown
operand_name (Reg r) = register_name r
operand_name AtHl = Named "[HL]"
operand_name (Const n) = Of n8 n

-- a place is named as the operand that it is
unfoldable pub place_name : Place → Shown
place_name p = operand_name (operand_of p)

unfoldable pub pair_name : Pair → Shown
pair_name pair.Bc = Named "BC"
pair_name pair.De = Named "DE"
pair_name pair.Hl = Named "HL"
pair_name pair.Sp = Named "SP"

unfoldable pub stacked_name : Stacked → Shown
stacked_name stacked.Bc = Named "BC"
stacked_name stacked.De = Named "DE"
stacked_name stacked.Hl = Named "HL"
stacked_name stacked.Af = Named "AF"

unfoldable pub pointer_name : Pointer → Shown
pointer_name pointer.Bc = Named "[BC]"
pointer_name pointer.De = Named "[DE]"
pointer_name pointer.Hli = Named "[HLI]"
pointer_name pointer.Hld = Named "[HLD]"

unfoldable pub cond_name : Cond → Shown
cond_name cond.Nz = Named "NZ"
cond_name cond.Z = Named "Z"
cond_name cond.Nc = Named "NC"
cond_name cond.C = Named "C"

unfoldable pub alu_name : Alu → String
alu_name Add = "ADD"
alu_name Adc = "ADC"
alu_name Sub = "SUB"
alu_name Sbc = "SBC"
alu_name And = "AND"
alu_name Xor = "XOR"
alu_name Or = "OR"
alu_name Cp = "CP"

unfoldable pub rot_name : Rot → String
rot_name Rlc = "RLC"
rot_name Rrc = "RRC"
rot_name Rl = "RL"
rot_name Rr = "RR"
rot_name Sla = "SLA"
rot_name Sra = "SRA"
rot_name Swap = "SWAP"
rot_name Srl = "SRL"

-- the rotates of A that are one byte have names of their own; no other rotate stands there
unfoldable pub rot_a_name : Rot → String
rot_a_name Rlc = "RLCA"
rot_a_name Rrc = "RRCA"
rot_a_name Rl = "RLA"
rot_a_name Rr = "RRA"
rot_a_name Sla = ""
rot_a_name Sra = ""
rot_a_name Swap = ""
rot_a_name Srl = ""

-- the table of spellings of edition 2, a row for each kind of instruction. What is undefined has none: it is listed as data
unfoldable pub spelling_of : Insn → Spelling
spelling_of Nop = alone "NOP"
spelling_of (StoreSp w) = two "LD" (Of at_n16 w) (Named "SP")
spelling_of Stop = alone "STOP"
spelling_of (Jr e) = one "JR" (Of target e)
spelling_of (JrIf cc e) = two "JR" (cond_name cc) (Of target e)
spelling_of (LoadPair w rp) = two "LD" (pair_name rp) (Of n16 w)
spelling_of (AddHl rp) = two "ADD" (Named "HL") (pair_name rp)
spelling_of (StoreAt p) = two "LD" (pointer_name p) (Named "A")
spelling_of (LoadAt p) = two "LD" (Named "A") (pointer_name p)
spelling_of (IncPair rp) = one "INC" (pair_name rp)
spelling_of (DecPair rp) = one "DEC" (pair_name rp)
spelling_of (Inc p) = one "INC" (place_name p)
spelling_of (Dec p) = one "DEC" (place_name p)
spelling_of (Load p s) = two "LD" (place_name p) (operand_name s)
spelling_of (RotateA r) = alone (rot_a_name r)
spelling_of Daa = alone "DAA"
spelling_of Cpl = alone "CPL"
spelling_of Scf = alone "SCF"
spelling_of Ccf = alone "CCF"
spelling_of Halt = alone "HALT"
spelling_of (Math op s) = two (alu_name op) (Named "A") (operand_name s)
spelling_of (RetIf cc) = one "RET" (cond_name cc)
spelling_of (StoreHigh n) = two "LDH" (Of at_high n) (Named "A")
spelling_of (AddSp e) = two "ADD" (Named "SP") (Of e8 e)
spelling_of (LoadHigh n) = two "LDH" (Named "A") (Of at_high n)
spelling_of (LoadHlSp e) = two "LD" (Named "HL") (Of sp_plus_e8 e)
spelling_of (Pop rp) = one "POP" (stacked_name rp)
spelling_of Ret = alone "RET"
spelling_of Reti = alone "RETI"
spelling_of JumpHl = one "JP" (Named "HL")
spelling_of LoadSpHl = two "LD" (Named "SP") (Named "HL")
spelling_of (JumpIf cc w) = two "JP" (cond_name cc) (Of n16 w)
spelling_of StoreHighC = two "LDH" (Named "[C]") (Named "A")
spelling_of (StoreTo w) = two "LD" (Of at_n16 w) (Named "A")
spelling_of LoadHighC = two "LDH" (Named "A") (Named "[C]")
spelling_of (LoadFrom w) = two "LD" (Named "A") (Of at_n16 w)
spelling_of (Jump w) = one "JP" (Of n16 w)
spelling_of (Rotate r p) = one (rot_name r) (place_name p)
spelling_of (Bit k p) = two "BIT" (Of u3 k) (place_name p)
spelling_of (Res k p) = two "RES" (Of u3 k) (place_name p)
spelling_of (Set k p) = two "SET" (Of u3 k) (place_name p)
spelling_of Di = alone "DI"
spelling_of Ei = alone "EI"
spelling_of (CallIf cc w) = two "CALL" (cond_name cc) (Of n16 w)
spelling_of (Push rp) = one "PUSH" (stacked_name rp)
spelling_of (Call w) = one "CALL" (Of n16 w)
spelling_of (Rst v) = one "RST" (Of vec v)
spelling_of Undefined = alone ""

-- a row that edition 1 has otherwise: an opcode, and what it is spelled there
pub record Row : Type 0 where
  pub opcode : ℕ
  pub spelling : Spelling

infix 70 ◌spelled◌
abbrev pub ◌spelled◌ : ℕ → Spelling → Row
op spelled s = record { opcode = op; spelling = s }

-- edition 1 is edition 2's table with eight rows changed: LDI and LDD for the HLI and HLD loads, LDIO for LDH; n is the byte after
-- the opcode
unfoldable pub old_rows : ℕ → List Row
old_rows n =
    0x22 spelled two "LDI" (Named "[HL]") (Named "A")
    ∷ 0x2A spelled two "LDI" (Named "A") (Named "[HL]")
    ∷ 0x32 spelled two "LDD" (Named "[HL]") (Named "A")
    ∷ 0x3A spelled two "LDD" (Named "A") (Named "[HL]")
    ∷ 0xE0 spelled two "LDIO" (Of at_high n) (Named "A")
    ∷ 0xE2 spelled two "LDIO" (Named "[C]") (Named "A")
    ∷ 0xF0 spelled two "LDIO" (Named "A") (Of at_high n)
    ∷ 0xF2 spelled two "LDIO" (Named "A") (Named "[C]")
    ∷ []

unfoldable pub changed_if : Bool → Spelling → Spelling → Spelling
changed_if true row other = row
changed_if false row other = other

unfoldable pub changed_by : List Row → ℕ → Spelling → Spelling
changed_by [] op s = s
changed_by (r ∷ rs) op s = changed_if (eqb op r.opcode) r.spelling (changed_by rs op s)

-- the spelling in an edition of the instruction that begins with op, before the byte n and the word w
unfoldable pub spelling_in : Edition → ℕ → ℕ → ℕ → Spelling
spelling_in New op n w = spelling_of (decode_of op n w)
spelling_in Old op n w = changed_by (old_rows n) op (spelling_of (decode_of op n w))

-- a byte that is listed as data, in either edition
abbrev pub data_of : ℕ → Spelling
data_of b = one "DB" (Of n8 b)

-- a constant is $ and two or four capital digits, and e8 has a minus before it where it is negative
unfoldable pub hex : ℕ → ℕ → List ℕ
hex k n = ascii "$" ++ hex_text k n

unfoldable pub signed_if : Bool → ℕ → List ℕ
signed_if true e = hex 2 e
signed_if false e = ascii "-" ++ hex 2 (256 - e)

unfoldable pub signed_text : ℕ → List ℕ
signed_text e = signed_if (ltb e 0x80) e

unfoldable pub bracketed : List ℕ → List ℕ
bracketed t = ascii "[" ++ (t ++ ascii "]")

-- the text of a constant, where the next instruction stands at next: JR shows its target, LDH its full address, and a bit's number is
-- decimal
unfoldable pub constant_text : ℕ → Kind → ℕ → List ℕ
constant_text next n8 n = hex 2 n
constant_text next n16 w = hex 4 w
constant_text next at_n16 w = hex 4 w
constant_text next at_high n = hex 4 (word_of 0xFF n)
constant_text next e8 e = signed_text e
constant_text next sp_plus_e8 e = signed_text e
constant_text next target e = hex 4 (offset_of e next)
constant_text next u3 k = decimal_text k
constant_text next vec v = hex 2 v

-- what stands around it
unfoldable pub around : Kind → List ℕ → List ℕ
around n8 t = t
around n16 t = t
around at_n16 t = bracketed t
around at_high t = bracketed t
around e8 t = t
around sp_plus_e8 t = ascii "SP+" ++ t
around target t = t
around u3 t = t
around vec t = t

unfoldable pub shown_text : ℕ → Shown → List ℕ
shown_text next (Named t) = ascii t
shown_text next (Of k n) = around k (constant_text next k n)

-- operands, each by its text: a space before the first, a comma before each other
unfoldable pub comma_text : (Shown → List ℕ) → List Shown → List ℕ
comma_text text [] = []
comma_text text (x ∷ xs) = ascii "," ++ (text x ++ comma_text text xs)

unfoldable pub operands_text : (Shown → List ℕ) → List Shown → List ℕ
operands_text text [] = []
operands_text text (x ∷ xs) = space ∷ (text x ++ comma_text text xs)

unfoldable pub spelling_by : (Shown → List ℕ) → Spelling → List ℕ
spelling_by text s = ascii s.name ++ operands_text text s.operands

unfoldable pub spelling_text : ℕ → Spelling → List ℕ
spelling_text next s = spelling_by (shown_text next) s

-- opens the spellings in a proof
unfoldable pub spellings : Unit {0}
unfolding register_name operand_name place_name pair_name stacked_name pointer_name cond_name alu_name rot_name rot_a_name spelling_of old_rows changed_if changed_by spelling_in hex signed_if signed_text bracketed constant_text around shown_text comma_text operands_text spelling_by spelling_text
spellings = tt

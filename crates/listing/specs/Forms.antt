-- How the code spells: by a table with a form of eight characters for each kind of spelling, in which marks stand for the operands.
-- Assumes nothing.
use Rattle.std.specs.Prelude.{ℕ, ◌+◌, ◌*◌, ◌/◌, ◌%◌, ◌<◌, ◌≤◌, Bool, true, false, ◌||◌, ◌&&◌, not, List, [], ◌∷◌, ◌++◌, ◌≡◌, eqb, leb, ltb, length, take, drop, Result, Ok, Err}
use Rattle.arith.specs.Words.{word_of, offset_of}
use Rattle.arith.specs.declared.Refusal.{Refusal}
use Rattle.arith.specs.declared.Refusal.TheVariants.{Room}
use Rattle.digits.specs.Ascii.{ascii}
use Rattle.digits.specs.Numerals.{glyph_of}
use Rattle.insn.specs.Grid.{decode_of}
use Rattle.insn.specs.Shapes.{is_undefined}
use Rattle.listing.specs.Lines.{Line, joined, line_text}
use Rattle.listing.specs.Spelling.{spelling_in, data_of, hex, signed_text, spelling_text}
use Rattle.listing.specs.declared.Edition.{Edition}
use Rattle.listing.specs.declared.Edition.TheVariants.{Old, New}
use Rattle.listing.specs.declared.Operands.{Operands}

-- one text or the other
unfoldable pub text_if : Bool → List ℕ → List ℕ → List ℕ
text_if true t u = t
text_if false t u = u

-- a name out of names of four characters; points fill it up
unfoldable pub letter_text : ℕ → List ℕ
letter_text c = text_if (eqb c 46) [] (c ∷ [])

unfoldable pub name_in : List ℕ → ℕ → List ℕ
name_in names k = joined letter_text (take 4 (drop (k * 4) names))

-- the fields of an opcode: the next three bits, the low three, and half of the former
abbrev pub y_of : ℕ → ℕ
y_of op = op / 8 % 8

abbrev pub z_of : ℕ → ℕ
z_of op = op % 8

abbrev pub p_of : ℕ → ℕ
p_of op = op / 16 % 4

unfoldable pub register_text : ℕ → List ℕ
register_text k = name_in (ascii "B...C...D...E...H...L...[HL]A...") k

-- what the editions have otherwise: LDH, which is LDIO in the old one
unfoldable pub high_text : Edition → List ℕ
high_text Old = ascii "LDIO"
high_text New = ascii "LDH"

-- and how HL moves with a load by a pointer: the old edition says it behind LD, and the new one behind the pointer's pair
unfoldable pub step_text : ℕ → List ℕ
step_text p = text_if (eqb p 2) (ascii "I") (text_if (eqb p 3) (ascii "D") [])

unfoldable pub load_text : Edition → ℕ → List ℕ
load_text Old p = ascii "LD" ++ step_text p
load_text New p = ascii "LD"

unfoldable pub pointer_text : Edition → ℕ → List ℕ
pointer_text Old p = name_in (ascii "BC..DE..HL..HL..") p
pointer_text New p = name_in (ascii "BC..DE..HL..HL..") p ++ step_text p

-- the marks of names: a an operation on A, c a condition, d LD, i LDH, k a bit's number, l a load by a pointer, o a rotate, p a pair,
-- q a pair on the stack, t a pointer, y and z a register or [HL]; any other character is itself
unfoldable pub named_text : Edition → ℕ → ℕ → List ℕ
named_text e op mark =
    text_if (eqb mark 97) (name_in (ascii "ADD.ADC.SUB.SBC.AND.XOR.OR..CP..") (y_of op))
    (text_if (eqb mark 99) (name_in (ascii "NZ..Z...NC..C...") (op / 8 % 4))
    (text_if (eqb mark 100) (ascii "LD")
    (text_if (eqb mark 105) (high_text e)
    (text_if (eqb mark 107) (glyph_of (y_of op) ∷ [])
    (text_if (eqb mark 108) (load_text e (p_of op))
    (text_if (eqb mark 111) (name_in (ascii "RLC.RRC.RL..RR..SLA.SRA.SWAPSRL.") (y_of op))
    (text_if (eqb mark 112) (name_in (ascii "BC..DE..HL..SP..") (p_of op))
    (text_if (eqb mark 113) (name_in (ascii "BC..DE..HL..AF..") (p_of op))
    (text_if (eqb mark 116) (pointer_text e (p_of op))
    (text_if (eqb mark 121) (register_text (y_of op)) (text_if (eqb mark 122) (register_text (z_of op)) (mark ∷ []))))))))))))

-- the marks of constants: b n8, e e8, h LDH's address, j JR's target, v RST's vector, w n16; a point is nothing
unfoldable pub mark_text : Operands → ℕ → List ℕ
mark_text o mark =
    text_if (eqb mark 46) []
    (text_if (eqb mark 98) (hex 2 o.n8)
    (text_if (eqb mark 101) (signed_text o.n8)
    (text_if (eqb mark 104) (hex 4 (word_of 0xFF o.n8))
    (text_if (eqb mark 106) (hex 4 (offset_of o.n8 o.next))
    (text_if (eqb mark 118) (hex 2 (8 * y_of o.op)) (text_if (eqb mark 119) (hex 4 o.n16) (named_text o.edition o.op mark)))))))

unfoldable pub marks_text : Operands → List ℕ → List ℕ
marks_text o marks = joined (mark_text o) marks

-- a form out of the table
unfoldable pub form_in : ℕ → List ℕ → List ℕ
form_in form table = take 8 (drop (form * 8) table)

-- the line that a form spells with its operands
abbrev pub line_by : ℕ → List ℕ → List ℕ → Operands → Line
line_by a bytes form o = record { address = a; bytes = bytes; spelling = marks_text o form }

-- the byte whose fields name the operands: that after the prefix $CB, where there is one
unfoldable pub fields_if : Bool → ℕ → ℕ → ℕ
fields_if true op n = n
fields_if false op n = op

unfoldable pub fields_of : ℕ → ℕ → ℕ
fields_of op n = fields_if (eqb op 0xCB) op n

abbrev pub operands : Edition → ℕ → ℕ → ℕ → ℕ → Operands
operands e op n w next = record { edition = e; op = fields_of op n; n8 = n; n16 = w; next = next }

-- the form of an opcode, by the fields of the grid: forms below 29 are of one byte, those below 42 of two, the others of three
unfoldable pub number_if : Bool → ℕ → ℕ → ℕ
number_if true n m = n
number_if false n m = m

abbrev pub data_form : ℕ
data_form = 28

-- in the first quarter, where z is 0
unfoldable pub first_form : ℕ → ℕ
first_form y = number_if (eqb y 0) 0 (number_if (eqb y 1) 42 (number_if (eqb y 2) 29 (number_if (eqb y 3) 30 31)))

unfoldable pub x0_form : ℕ → ℕ → ℕ
x0_form y z =
    number_if (eqb z 0) (first_form y)
    (number_if (eqb z 1) (number_if (eqb (y % 2) 0) 43 1)
    (number_if (eqb z 2) (2 + y % 2)
    (number_if (eqb z 3) (4 + y % 2)
    (number_if (eqb z 4) 6 (number_if (eqb z 5) 7 (number_if (eqb z 6) 32 (number_if (ltb y 4) 9 (6 + y))))))))

-- in the last, where z is 2, where it is 3, and where it is 5
unfoldable pub load_form : ℕ → ℕ
load_form y = number_if (eqb y 4) 22 (number_if (eqb y 5) 45 (number_if (eqb y 6) 23 (number_if (eqb y 7) 46 44)))

unfoldable pub jump_form : ℕ → ℕ
jump_form y = number_if (eqb y 0) 47 (number_if (eqb y 6) 24 (number_if (eqb y 7) 25 data_form))

unfoldable pub call_form : ℕ → ℕ
call_form y = number_if (eqb (y % 2) 0) 26 (number_if (eqb y 1) 49 data_form)

unfoldable pub x3_form : ℕ → ℕ → ℕ
x3_form y z =
    number_if (eqb z 0) (number_if (ltb y 4) 16 (29 + y))
    (number_if (eqb z 1) (number_if (eqb (y % 2) 0) 17 (18 + y / 2))
    (number_if (eqb z 2) (load_form y)
    (number_if (eqb z 3) (jump_form y)
    (number_if (eqb z 4) (number_if (ltb y 4) 48 data_form)
    (number_if (eqb z 5) (call_form y) (number_if (eqb z 6) 37 27))))))

unfoldable pub unprefixed_form : ℕ → ℕ
unprefixed_form op =
    number_if (eqb (op / 64) 0) (x0_form (y_of op) (z_of op))
    (number_if (eqb (op / 64) 1) (number_if (eqb op 0x76) 14 8) (number_if (eqb (op / 64) 2) 15 (x3_form (y_of op) (z_of op))))

unfoldable pub form_at : ℕ → ℕ → ℕ
form_at op n = number_if (eqb op 0xCB) (38 + n / 64) (unprefixed_form op)

unfoldable pub form_size : ℕ → ℕ
form_size form = number_if (ltb form 29) 1 (number_if (ltb form 42) 2 3)

-- opens the forms in a proof
unfoldable pub forms : Unit {0}
unfolding text_if letter_text name_in register_text high_text step_text load_text pointer_text named_text mark_text marks_text form_in fields_if fields_of number_if first_form x0_form load_form jump_form call_form x3_form unprefixed_form form_at form_size
forms = tt

-- a table that spells each instruction in both editions, and a byte of data
pub record Forms (table : List ℕ) : Type 0 where
  pub size : length table ≡ 400
  pub spell : (e : Edition) (op n w next : ℕ) → op < 256 → n < 256 → is_undefined (decode_of op n w) ≡ false
      → marks_text (operands e op n w next) (form_in (form_at op n) table) ≡ spelling_text next (spelling_in e op n w)
  pub data_byte : (e : Edition) (b next : ℕ) → marks_text (operands e 0 b 0 0) (form_in data_form table) ≡ spelling_text next (data_of b)

-- nothing to list but the byte, told from its form
unfoldable pub is_data_by : ℕ → ℕ → ℕ → ℕ → ℕ → Bool
is_data_by form size left op n = eqb form data_form || (ltb left size || (eqb op 0x10 && not (eqb n 0)))

-- what is read of a line: the number of its form, how many bytes it has, and its operands
pub record Reading : Type 0 where
  pub form : ℕ
  pub bytes : ℕ
  pub operands : Operands

-- what a line reads: a form that spells it with its operands, and how many bytes it has; and that no line is longer than 26
pub record Reads (l : Line) (a : ℕ) (bytes : List ℕ) (r : Reading) : Type 0 where
  pub form : r.form < 50
  pub fits : r.bytes ≤ length bytes
  pub stands : l.address ≡ a
  pub takes : l.bytes ≡ take r.bytes bytes
  pub spells : (table : List ℕ) → Forms table → l.spelling ≡ marks_text r.operands (form_in r.form table)
  pub short : length (line_text l) ≤ 26

-- a length that there is room for
unfoldable pub measured_if : Bool → ℕ → Result ℕ Refusal
measured_if true n = Ok n
measured_if false n = Err Room

unfoldable pub measured_of : ℕ → ℕ → Result ℕ Refusal
measured_of n room = measured_if (leb n room) n

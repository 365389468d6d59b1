-- The spellings as they stand in the instruction reference, typed from editions 001 and 004, and for the old edition from 002 to 004, by
-- the opcode grid of document 01, with sample operands; a row that has no instruction is empty. Nothing here is made from the
-- definition.
-- Assumes nothing.
use Rattle.std.specs.Prelude.{ℕ, List, [], ◌∷◌}
use Prim.Native.String.{String}

-- rows 0 to 511, at $0150, before the bytes $34 and $12
unfoldable pub typed : List String
typed =
    "NOP" ∷ "LD BC,$1234" ∷ "LD [BC],A" ∷ "INC BC" ∷ "INC B" ∷ "DEC B" ∷ "LD B,$34" ∷ "RLCA"
    ∷ "LD [$1234],SP" ∷ "ADD HL,BC" ∷ "LD A,[BC]" ∷ "DEC BC" ∷ "INC C" ∷ "DEC C" ∷ "LD C,$34" ∷ "RRCA"
    ∷ "STOP" ∷ "LD DE,$1234" ∷ "LD [DE],A" ∷ "INC DE" ∷ "INC D" ∷ "DEC D" ∷ "LD D,$34" ∷ "RLA"
    ∷ "JR $0186" ∷ "ADD HL,DE" ∷ "LD A,[DE]" ∷ "DEC DE" ∷ "INC E" ∷ "DEC E" ∷ "LD E,$34" ∷ "RRA"
    ∷ "JR NZ,$0186" ∷ "LD HL,$1234" ∷ "LD [HLI],A" ∷ "INC HL" ∷ "INC H" ∷ "DEC H" ∷ "LD H,$34" ∷ "DAA"
    ∷ "JR Z,$0186" ∷ "ADD HL,HL" ∷ "LD A,[HLI]" ∷ "DEC HL" ∷ "INC L" ∷ "DEC L" ∷ "LD L,$34" ∷ "CPL"
    ∷ "JR NC,$0186" ∷ "LD SP,$1234" ∷ "LD [HLD],A" ∷ "INC SP" ∷ "INC [HL]" ∷ "DEC [HL]" ∷ "LD [HL],$34" ∷ "SCF"
    ∷ "JR C,$0186" ∷ "ADD HL,SP" ∷ "LD A,[HLD]" ∷ "DEC SP" ∷ "INC A" ∷ "DEC A" ∷ "LD A,$34" ∷ "CCF"
    ∷ "LD B,B" ∷ "LD B,C" ∷ "LD B,D" ∷ "LD B,E" ∷ "LD B,H" ∷ "LD B,L" ∷ "LD B,[HL]" ∷ "LD B,A"
    ∷ "LD C,B" ∷ "LD C,C" ∷ "LD C,D" ∷ "LD C,E" ∷ "LD C,H" ∷ "LD C,L" ∷ "LD C,[HL]" ∷ "LD C,A"
    ∷ "LD D,B" ∷ "LD D,C" ∷ "LD D,D" ∷ "LD D,E" ∷ "LD D,H" ∷ "LD D,L" ∷ "LD D,[HL]" ∷ "LD D,A"
    ∷ "LD E,B" ∷ "LD E,C" ∷ "LD E,D" ∷ "LD E,E" ∷ "LD E,H" ∷ "LD E,L" ∷ "LD E,[HL]" ∷ "LD E,A"
    ∷ "LD H,B" ∷ "LD H,C" ∷ "LD H,D" ∷ "LD H,E" ∷ "LD H,H" ∷ "LD H,L" ∷ "LD H,[HL]" ∷ "LD H,A"
    ∷ "LD L,B" ∷ "LD L,C" ∷ "LD L,D" ∷ "LD L,E" ∷ "LD L,H" ∷ "LD L,L" ∷ "LD L,[HL]" ∷ "LD L,A"
    ∷ "LD [HL],B" ∷ "LD [HL],C" ∷ "LD [HL],D" ∷ "LD [HL],E" ∷ "LD [HL],H" ∷ "LD [HL],L" ∷ "HALT" ∷ "LD [HL],A"
    ∷ "LD A,B" ∷ "LD A,C" ∷ "LD A,D" ∷ "LD A,E" ∷ "LD A,H" ∷ "LD A,L" ∷ "LD A,[HL]" ∷ "LD A,A"
    ∷ "ADD A,B" ∷ "ADD A,C" ∷ "ADD A,D" ∷ "ADD A,E" ∷ "ADD A,H" ∷ "ADD A,L" ∷ "ADD A,[HL]" ∷ "ADD A,A"
    ∷ "ADC A,B" ∷ "ADC A,C" ∷ "ADC A,D" ∷ "ADC A,E" ∷ "ADC A,H" ∷ "ADC A,L" ∷ "ADC A,[HL]" ∷ "ADC A,A"
    ∷ "SUB A,B" ∷ "SUB A,C" ∷ "SUB A,D" ∷ "SUB A,E" ∷ "SUB A,H" ∷ "SUB A,L" ∷ "SUB A,[HL]" ∷ "SUB A,A"
    ∷ "SBC A,B" ∷ "SBC A,C" ∷ "SBC A,D" ∷ "SBC A,E" ∷ "SBC A,H" ∷ "SBC A,L" ∷ "SBC A,[HL]" ∷ "SBC A,A"
    ∷ "AND A,B" ∷ "AND A,C" ∷ "AND A,D" ∷ "AND A,E" ∷ "AND A,H" ∷ "AND A,L" ∷ "AND A,[HL]" ∷ "AND A,A"
    ∷ "XOR A,B" ∷ "XOR A,C" ∷ "XOR A,D" ∷ "XOR A,E" ∷ "XOR A,H" ∷ "XOR A,L" ∷ "XOR A,[HL]" ∷ "XOR A,A"
    ∷ "OR A,B" ∷ "OR A,C" ∷ "OR A,D" ∷ "OR A,E" ∷ "OR A,H" ∷ "OR A,L" ∷ "OR A,[HL]" ∷ "OR A,A"
    ∷ "CP A,B" ∷ "CP A,C" ∷ "CP A,D" ∷ "CP A,E" ∷ "CP A,H" ∷ "CP A,L" ∷ "CP A,[HL]" ∷ "CP A,A"
    ∷ "RET NZ" ∷ "POP BC" ∷ "JP NZ,$1234" ∷ "JP $1234" ∷ "CALL NZ,$1234" ∷ "PUSH BC" ∷ "ADD A,$34" ∷ "RST $00"
    ∷ "RET Z" ∷ "RET" ∷ "JP Z,$1234" ∷ "" ∷ "CALL Z,$1234" ∷ "CALL $1234" ∷ "ADC A,$34" ∷ "RST $08"
    ∷ "RET NC" ∷ "POP DE" ∷ "JP NC,$1234" ∷ "" ∷ "CALL NC,$1234" ∷ "PUSH DE" ∷ "SUB A,$34" ∷ "RST $10"
    ∷ "RET C" ∷ "RETI" ∷ "JP C,$1234" ∷ "" ∷ "CALL C,$1234" ∷ "" ∷ "SBC A,$34" ∷ "RST $18"
    ∷ "LDH [$FF34],A" ∷ "POP HL" ∷ "LDH [C],A" ∷ "" ∷ "" ∷ "PUSH HL" ∷ "AND A,$34" ∷ "RST $20"
    ∷ "ADD SP,$34" ∷ "JP HL" ∷ "LD [$1234],A" ∷ "" ∷ "" ∷ "" ∷ "XOR A,$34" ∷ "RST $28"
    ∷ "LDH A,[$FF34]" ∷ "POP AF" ∷ "LDH A,[C]" ∷ "DI" ∷ "" ∷ "PUSH AF" ∷ "OR A,$34" ∷ "RST $30"
    ∷ "LD HL,SP+$34" ∷ "LD SP,HL" ∷ "LD A,[$1234]" ∷ "EI" ∷ "" ∷ "" ∷ "CP A,$34" ∷ "RST $38"
    ∷ "RLC B" ∷ "RLC C" ∷ "RLC D" ∷ "RLC E" ∷ "RLC H" ∷ "RLC L" ∷ "RLC [HL]" ∷ "RLC A"
    ∷ "RRC B" ∷ "RRC C" ∷ "RRC D" ∷ "RRC E" ∷ "RRC H" ∷ "RRC L" ∷ "RRC [HL]" ∷ "RRC A"
    ∷ "RL B" ∷ "RL C" ∷ "RL D" ∷ "RL E" ∷ "RL H" ∷ "RL L" ∷ "RL [HL]" ∷ "RL A"
    ∷ "RR B" ∷ "RR C" ∷ "RR D" ∷ "RR E" ∷ "RR H" ∷ "RR L" ∷ "RR [HL]" ∷ "RR A"
    ∷ "SLA B" ∷ "SLA C" ∷ "SLA D" ∷ "SLA E" ∷ "SLA H" ∷ "SLA L" ∷ "SLA [HL]" ∷ "SLA A"
    ∷ "SRA B" ∷ "SRA C" ∷ "SRA D" ∷ "SRA E" ∷ "SRA H" ∷ "SRA L" ∷ "SRA [HL]" ∷ "SRA A"
    ∷ "SWAP B" ∷ "SWAP C" ∷ "SWAP D" ∷ "SWAP E" ∷ "SWAP H" ∷ "SWAP L" ∷ "SWAP [HL]" ∷ "SWAP A"
    ∷ "SRL B" ∷ "SRL C" ∷ "SRL D" ∷ "SRL E" ∷ "SRL H" ∷ "SRL L" ∷ "SRL [HL]" ∷ "SRL A"
    ∷ "BIT 0,B" ∷ "BIT 0,C" ∷ "BIT 0,D" ∷ "BIT 0,E" ∷ "BIT 0,H" ∷ "BIT 0,L" ∷ "BIT 0,[HL]" ∷ "BIT 0,A"
    ∷ "BIT 1,B" ∷ "BIT 1,C" ∷ "BIT 1,D" ∷ "BIT 1,E" ∷ "BIT 1,H" ∷ "BIT 1,L" ∷ "BIT 1,[HL]" ∷ "BIT 1,A"
    ∷ "BIT 2,B" ∷ "BIT 2,C" ∷ "BIT 2,D" ∷ "BIT 2,E" ∷ "BIT 2,H" ∷ "BIT 2,L" ∷ "BIT 2,[HL]" ∷ "BIT 2,A"
    ∷ "BIT 3,B" ∷ "BIT 3,C" ∷ "BIT 3,D" ∷ "BIT 3,E" ∷ "BIT 3,H" ∷ "BIT 3,L" ∷ "BIT 3,[HL]" ∷ "BIT 3,A"
    ∷ "BIT 4,B" ∷ "BIT 4,C" ∷ "BIT 4,D" ∷ "BIT 4,E" ∷ "BIT 4,H" ∷ "BIT 4,L" ∷ "BIT 4,[HL]" ∷ "BIT 4,A"
    ∷ "BIT 5,B" ∷ "BIT 5,C" ∷ "BIT 5,D" ∷ "BIT 5,E" ∷ "BIT 5,H" ∷ "BIT 5,L" ∷ "BIT 5,[HL]" ∷ "BIT 5,A"
    ∷ "BIT 6,B" ∷ "BIT 6,C" ∷ "BIT 6,D" ∷ "BIT 6,E" ∷ "BIT 6,H" ∷ "BIT 6,L" ∷ "BIT 6,[HL]" ∷ "BIT 6,A"
    ∷ "BIT 7,B" ∷ "BIT 7,C" ∷ "BIT 7,D" ∷ "BIT 7,E" ∷ "BIT 7,H" ∷ "BIT 7,L" ∷ "BIT 7,[HL]" ∷ "BIT 7,A"
    ∷ "RES 0,B" ∷ "RES 0,C" ∷ "RES 0,D" ∷ "RES 0,E" ∷ "RES 0,H" ∷ "RES 0,L" ∷ "RES 0,[HL]" ∷ "RES 0,A"
    ∷ "RES 1,B" ∷ "RES 1,C" ∷ "RES 1,D" ∷ "RES 1,E" ∷ "RES 1,H" ∷ "RES 1,L" ∷ "RES 1,[HL]" ∷ "RES 1,A"
    ∷ "RES 2,B" ∷ "RES 2,C" ∷ "RES 2,D" ∷ "RES 2,E" ∷ "RES 2,H" ∷ "RES 2,L" ∷ "RES 2,[HL]" ∷ "RES 2,A"
    ∷ "RES 3,B" ∷ "RES 3,C" ∷ "RES 3,D" ∷ "RES 3,E" ∷ "RES 3,H" ∷ "RES 3,L" ∷ "RES 3,[HL]" ∷ "RES 3,A"
    ∷ "RES 4,B" ∷ "RES 4,C" ∷ "RES 4,D" ∷ "RES 4,E" ∷ "RES 4,H" ∷ "RES 4,L" ∷ "RES 4,[HL]" ∷ "RES 4,A"
    ∷ "RES 5,B" ∷ "RES 5,C" ∷ "RES 5,D" ∷ "RES 5,E" ∷ "RES 5,H" ∷ "RES 5,L" ∷ "RES 5,[HL]" ∷ "RES 5,A"
    ∷ "RES 6,B" ∷ "RES 6,C" ∷ "RES 6,D" ∷ "RES 6,E" ∷ "RES 6,H" ∷ "RES 6,L" ∷ "RES 6,[HL]" ∷ "RES 6,A"
    ∷ "RES 7,B" ∷ "RES 7,C" ∷ "RES 7,D" ∷ "RES 7,E" ∷ "RES 7,H" ∷ "RES 7,L" ∷ "RES 7,[HL]" ∷ "RES 7,A"
    ∷ "SET 0,B" ∷ "SET 0,C" ∷ "SET 0,D" ∷ "SET 0,E" ∷ "SET 0,H" ∷ "SET 0,L" ∷ "SET 0,[HL]" ∷ "SET 0,A"
    ∷ "SET 1,B" ∷ "SET 1,C" ∷ "SET 1,D" ∷ "SET 1,E" ∷ "SET 1,H" ∷ "SET 1,L" ∷ "SET 1,[HL]" ∷ "SET 1,A"
    ∷ "SET 2,B" ∷ "SET 2,C" ∷ "SET 2,D" ∷ "SET 2,E" ∷ "SET 2,H" ∷ "SET 2,L" ∷ "SET 2,[HL]" ∷ "SET 2,A"
    ∷ "SET 3,B" ∷ "SET 3,C" ∷ "SET 3,D" ∷ "SET 3,E" ∷ "SET 3,H" ∷ "SET 3,L" ∷ "SET 3,[HL]" ∷ "SET 3,A"
    ∷ "SET 4,B" ∷ "SET 4,C" ∷ "SET 4,D" ∷ "SET 4,E" ∷ "SET 4,H" ∷ "SET 4,L" ∷ "SET 4,[HL]" ∷ "SET 4,A"
    ∷ "SET 5,B" ∷ "SET 5,C" ∷ "SET 5,D" ∷ "SET 5,E" ∷ "SET 5,H" ∷ "SET 5,L" ∷ "SET 5,[HL]" ∷ "SET 5,A"
    ∷ "SET 6,B" ∷ "SET 6,C" ∷ "SET 6,D" ∷ "SET 6,E" ∷ "SET 6,H" ∷ "SET 6,L" ∷ "SET 6,[HL]" ∷ "SET 6,A"
    ∷ "SET 7,B" ∷ "SET 7,C" ∷ "SET 7,D" ∷ "SET 7,E" ∷ "SET 7,H" ∷ "SET 7,L" ∷ "SET 7,[HL]" ∷ "SET 7,A"
    ∷ []

-- rows $00 to $3F and $C0 to $FF, at $0150, before the bytes $FB and $FF
unfoldable pub typed_low : List String
typed_low =
    "NOP" ∷ "LD BC,$FFFB" ∷ "LD [BC],A" ∷ "INC BC" ∷ "INC B" ∷ "DEC B" ∷ "LD B,$FB" ∷ "RLCA"
    ∷ "LD [$FFFB],SP" ∷ "ADD HL,BC" ∷ "LD A,[BC]" ∷ "DEC BC" ∷ "INC C" ∷ "DEC C" ∷ "LD C,$FB" ∷ "RRCA"
    ∷ "STOP" ∷ "LD DE,$FFFB" ∷ "LD [DE],A" ∷ "INC DE" ∷ "INC D" ∷ "DEC D" ∷ "LD D,$FB" ∷ "RLA"
    ∷ "JR $014D" ∷ "ADD HL,DE" ∷ "LD A,[DE]" ∷ "DEC DE" ∷ "INC E" ∷ "DEC E" ∷ "LD E,$FB" ∷ "RRA"
    ∷ "JR NZ,$014D" ∷ "LD HL,$FFFB" ∷ "LD [HLI],A" ∷ "INC HL" ∷ "INC H" ∷ "DEC H" ∷ "LD H,$FB" ∷ "DAA"
    ∷ "JR Z,$014D" ∷ "ADD HL,HL" ∷ "LD A,[HLI]" ∷ "DEC HL" ∷ "INC L" ∷ "DEC L" ∷ "LD L,$FB" ∷ "CPL"
    ∷ "JR NC,$014D" ∷ "LD SP,$FFFB" ∷ "LD [HLD],A" ∷ "INC SP" ∷ "INC [HL]" ∷ "DEC [HL]" ∷ "LD [HL],$FB" ∷ "SCF"
    ∷ "JR C,$014D" ∷ "ADD HL,SP" ∷ "LD A,[HLD]" ∷ "DEC SP" ∷ "INC A" ∷ "DEC A" ∷ "LD A,$FB" ∷ "CCF"
    ∷ []

unfoldable pub typed_high : List String
typed_high =
    "RET NZ" ∷ "POP BC" ∷ "JP NZ,$FFFB" ∷ "JP $FFFB" ∷ "CALL NZ,$FFFB" ∷ "PUSH BC" ∷ "ADD A,$FB" ∷ "RST $00"
    ∷ "RET Z" ∷ "RET" ∷ "JP Z,$FFFB" ∷ "" ∷ "CALL Z,$FFFB" ∷ "CALL $FFFB" ∷ "ADC A,$FB" ∷ "RST $08"
    ∷ "RET NC" ∷ "POP DE" ∷ "JP NC,$FFFB" ∷ "" ∷ "CALL NC,$FFFB" ∷ "PUSH DE" ∷ "SUB A,$FB" ∷ "RST $10"
    ∷ "RET C" ∷ "RETI" ∷ "JP C,$FFFB" ∷ "" ∷ "CALL C,$FFFB" ∷ "" ∷ "SBC A,$FB" ∷ "RST $18"
    ∷ "LDH [$FFFB],A" ∷ "POP HL" ∷ "LDH [C],A" ∷ "" ∷ "" ∷ "PUSH HL" ∷ "AND A,$FB" ∷ "RST $20"
    ∷ "ADD SP,-$05" ∷ "JP HL" ∷ "LD [$FFFB],A" ∷ "" ∷ "" ∷ "" ∷ "XOR A,$FB" ∷ "RST $28"
    ∷ "LDH A,[$FFFB]" ∷ "POP AF" ∷ "LDH A,[C]" ∷ "DI" ∷ "" ∷ "PUSH AF" ∷ "OR A,$FB" ∷ "RST $30"
    ∷ "LD HL,SP+-$05" ∷ "LD SP,HL" ∷ "LD A,[$FFFB]" ∷ "EI" ∷ "" ∷ "" ∷ "CP A,$FB" ∷ "RST $38"
    ∷ []

-- edition 1: the rows that editions 002 to 004 write otherwise, in their order, before the bytes $34 and $12
pub record Retyped : Type 0 where
  pub row : ℕ
  pub text : String

infix 70 ◌reads◌
abbrev pub ◌reads◌ : ℕ → String → Retyped
k reads t = record { row = k; text = t }

unfoldable pub typed_old : List Retyped
typed_old =
    0x22 reads "LDI [HL],A"
    ∷ 0x2A reads "LDI A,[HL]"
    ∷ 0x32 reads "LDD [HL],A"
    ∷ 0x3A reads "LDD A,[HL]"
    ∷ 0xE0 reads "LDIO [$FF34],A"
    ∷ 0xE2 reads "LDIO [C],A"
    ∷ 0xF0 reads "LDIO A,[$FF34]"
    ∷ 0xF2 reads "LDIO A,[C]"
    ∷ []

-- Document 01, "Cases to prove together", in its order. Each is one step at PC $0100 unless it says where.
-- Assumes nothing.
use Rattle.std.specs.Prelude.{List, [], ◌∷◌}
use Rattle.machine.specs.declared.Ime.TheVariants.{Off, On}
use Rattle.cases.specs.Case.{Case, case, cell, state_of}

unfoldable pub twelve : List Case
twelve =
    -- 1. ADD $3A + $C6: $00, F $B0
    case (state_of 0x3A00 0xC600 0 0 0 0x0100 Off) (cell 0x0100 0x80 ∷ []) 1 (state_of 0x00B0 0xC600 0 0 0 0x0101 Off) []
    -- 2. ADC $0F + 0, carry 1: $10, F $20
    ∷ case (state_of 0x0F10 0 0 0 0 0x0100 Off) (cell 0x0100 0x88 ∷ []) 1 (state_of 0x1020 0 0 0 0 0x0101 Off) []
    -- 3. SUB 0 - 1: $FF, F $70
    ∷ case (state_of 0x0000 0x0100 0 0 0 0x0100 Off) (cell 0x0100 0x90 ∷ []) 1 (state_of 0xFF70 0x0100 0 0 0 0x0101 Off) []
    -- 4. SBC $3B - $2A, carry 1: $10, F $40
    ∷ case (state_of 0x3B10 0x2A00 0 0 0 0x0100 Off) (cell 0x0100 0x98 ∷ []) 1 (state_of 0x1040 0x2A00 0 0 0 0x0101 Off) []
    -- 5. INC $FF, F $10: 0, F $B0
    ∷ case (state_of 0xFF10 0 0 0 0 0x0100 Off) (cell 0x0100 0x3C ∷ []) 1 (state_of 0x00B0 0 0 0 0 0x0101 Off) []
    -- 6. ADD HL $8A23 + $0605, F $80: $9028, F $A0
    ∷ case (state_of 0x0080 0x0605 0 0x8A23 0 0x0100 Off) (cell 0x0100 0x09 ∷ []) 2 (state_of 0x00A0 0x0605 0 0x9028 0 0x0101 Off) []
    -- 7. ADD SP 1 + (-1): 0, F $30
    ∷ case (state_of 0 0 0 0 1 0x0100 Off) (cell 0x0100 0xE8 ∷ cell 0x0101 0xFF ∷ []) 4 (state_of 0x0030 0 0 0 0 0x0102 Off) []
    -- 8. DAA $9A, F 0: 0, F $90
    ∷ case (state_of 0x9A00 0 0 0 0 0x0100 Off) (cell 0x0100 0x27 ∷ []) 1 (state_of 0x0090 0 0 0 0 0x0101 Off) []
    -- 9. DAA $FF, F $70: $99, F $50
    ∷ case (state_of 0xFF70 0 0 0 0 0x0100 Off) (cell 0x0100 0x27 ∷ []) 1 (state_of 0x9950 0 0 0 0 0x0101 Off) []
    -- 10. POP AF of $FF $12: A $12, F $F0
    ∷ case (state_of 0 0 0 0 0x0200 0x0100 Off) (cell 0x0100 0xF1 ∷ cell 0x0200 0xFF ∷ cell 0x0201 0x12 ∷ []) 3 (state_of 0x12F0 0 0 0 0x0202 0x0101 Off) []
    -- 11. JR +2 at $FFFE: PC 2
    ∷ case (state_of 0 0 0 0 0 0xFFFE Off) (cell 0xFFFE 0x18 ∷ cell 0xFFFF 2 ∷ []) 3 (state_of 0 0 0 0 0 2 Off) []
    -- 12. IME On, IE 5, IF 6, PC $C123, SP $FFFE: PC $0050, IF 2, $FFFD $C1, $FFFC $23
    ∷ case (state_of 0 0 0 0 0xFFFE 0xC123 On) (cell 0xFFFF 5 ∷ cell 0xFF0F 6 ∷ []) 5 (state_of 0 0 0 0 0xFFFC 0x0050 Off) (cell 0xFF0F 2 ∷ cell 0xFFFD 0xC1 ∷ cell 0xFFFC 0x23 ∷ [])
    ∷ []

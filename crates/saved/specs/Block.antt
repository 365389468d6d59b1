-- The state block: the 14 bytes that are the state itself, alone and inside a head. Document 01, "Saved state".
-- Assumes nothing.
use Rattle.std.specs.Prelude.{ℕ, Bool, ◌&&◌, List, [], ◌∷◌, leb}
use Rattle.arith.specs.Words.{word_of, high_of, low_of}
use Rattle.machine.specs.State.{cpu_of}
use Rattle.machine.specs.declared.Cpu.{Cpu}
use Rattle.machine.specs.declared.Ime.TheVariants.{Off}
use Rattle.machine.specs.declared.Mode.TheVariants.{Running}
use Rattle.digits.specs.Digits.{byte_in}
use Rattle.saved.specs.Codes.{ime_code, ime_at, mode_code, mode_at}

abbrev pub block_size : ℕ
block_size = 14

-- A F B C D E H L; SP and PC, high byte first; the codes of IME and mode
unfoldable pub block_of : Cpu → List ℕ
block_of s =
    s.a ∷ s.f ∷ s.b ∷ s.c ∷ s.d ∷ s.e ∷ s.h ∷ s.l
    ∷ high_of s.sp ∷ low_of s.sp ∷ high_of s.pc ∷ low_of s.pc
    ∷ ime_code s.ime ∷ mode_code s.mode ∷ []

-- the fields of a block that a refusal looks at, by their places
unfoldable pub flags_in : List ℕ → ℕ
flags_in b = byte_in 1 b

unfoldable pub ime_code_in : List ℕ → ℕ
ime_code_in b = byte_in 12 b

unfoldable pub mode_code_in : List ℕ → ℕ
mode_code_in b = byte_in 13 b

-- the codes of IME and mode stand for something: IME at most 2, mode at most 3
unfoldable pub has_codes : List ℕ → Bool
has_codes b = leb (ime_code_in b) 2 && leb (mode_code_in b) 3

-- the state that a block holds
unfoldable pub held_in : List ℕ → Cpu
held_in b =
    cpu_of (byte_in 0 b) (flags_in b) (byte_in 2 b) (byte_in 3 b) (byte_in 4 b) (byte_in 5 b) (byte_in 6 b) (byte_in 7 b)
    (word_of (byte_in 8 b) (byte_in 9 b)) (word_of (byte_in 10 b) (byte_in 11 b)) (ime_at (ime_code_in b)) (mode_at (mode_code_in b))

-- the all-zero state, Off and Running
unfoldable pub cleared_state : Cpu
cleared_state = cpu_of 0 0 0 0 0 0 0 0 0 0 Off Running

-- The program: from its input, 65,563 bytes, to the two lines that it prints. Document 01, "The program".
-- The input is a budget in four bytes and a head, which are the 27 bytes of the lead, and the memory.
-- Assumes nothing.
use Rattle.std.specs.Prelude.{ℕ, ◌+◌, Bool, true, false, ◌||◌, ◌&&◌, List, [], ◌∷◌, ◌++◌, eqb, length, drop}
use Rattle.arith.specs.Refusals.{unless_refused}
use Rattle.arith.specs.Words.{word_of}
use Rattle.digits.specs.Digits.{number_in}
use Rattle.digits.specs.Ascii.{ascii, space, newline}
use Rattle.digits.specs.Numerals.{hex_text, decimal_text}
use Rattle.machine.specs.Memory.{Memory, memory_size}
use Rattle.machine.specs.Answers.{With, keeping}
use Rattle.machine.specs.Run.{Ran, run_of}
use Rattle.machine.specs.declared.Cpu.{Cpu}
use Rattle.saved.specs.Answers.{load_head_of}
use Rattle.saved.specs.Codes.{ime_code, mode_code}
use Rattle.saved.specs.Head.{head_size}
use Rattle.text.specs.Written.{empty_text, written}
use Rattle.text.specs.declared.Text.{Text}

-- the sizes of its parts, and its own
abbrev pub budget_size : ℕ
budget_size = 4

abbrev pub lead_size : ℕ
lead_size = budget_size + head_size

abbrev pub input_size : ℕ
input_size = lead_size + memory_size

-- the first line
unfoldable pub header : List ℕ
header = ascii "code spent steps AF BC DE HL SP PC ime mode" ++ (newline ∷ [])

-- a number and a space, a word and a space
unfoldable pub number_then : ℕ → List ℕ
number_then n = decimal_text n ++ (space ∷ [])

unfoldable pub word_then : ℕ → List ℕ
word_then w = hex_text 4 w ++ (space ∷ [])

-- the code alone
unfoldable pub refusal_line : ℕ → List ℕ
refusal_line code = decimal_text code ++ (newline ∷ [])

-- AF to PC
unfoldable pub registers_line : Cpu → List ℕ
registers_line s =
    word_then (word_of s.a s.f)
    ++ (word_then (word_of s.b s.c)
    ++ (word_then (word_of s.d s.e) ++ (word_then (word_of s.h s.l) ++ (word_then s.sp ++ word_then s.pc))))

-- code, cycles and steps, the registers, the IME and mode codes
unfoldable pub run_line : Ran → List ℕ
run_line r =
    number_then r.code
    ++ (number_then r.spent
    ++ (number_then r.steps
    ++ (registers_line r.cpu ++ (number_then (ime_code r.cpu.ime) ++ (decimal_text (mode_code r.cpu.mode) ++ (newline ∷ []))))))

-- a run that answers 1, 2 or 5 prints its code alone
unfoldable pub is_bare : ℕ → Bool
is_bare code = eqb code 1 || (eqb code 2 || eqb code 5)

unfoldable pub line_if : Bool → Ran → List ℕ
line_if true r = refusal_line r.code
line_if false r = run_line r

unfoldable pub printed : List ℕ → Text
printed line = written line (written header empty_text)

unfoldable pub ran_text : Ran → Text
ran_text r = printed (line_if (is_bare r.code) r)

-- the run of a head that was loaded, or the code of one that was refused
unfoldable pub ran_of : With Ran → With Text
ran_of w = record { out = ran_text w.out; mem = w.mem }

unfoldable pub loaded_run : ℕ → Cpu → ℕ → Memory → With Text
loaded_run code s budget m = unless_refused code (λ _. ran_of (run_of budget s m)) (λ n. keeping (printed (refusal_line n)) m)

-- an input of the right length, or 6
unfoldable pub answer_if : Bool → List ℕ → Memory → With Text
answer_if true lead m =
    loaded_run (load_head_of (drop budget_size lead)).code (load_head_of (drop budget_size lead)).cpu (number_in budget_size 0 lead) m
answer_if false lead m = keeping (printed (refusal_line 6)) m

-- the lead and the memory, and how many bytes the input has
unfoldable pub answer_of : ℕ → List ℕ → Memory → With Text
answer_of got lead m = answer_if (eqb got input_size && eqb (length lead) lead_size) lead m

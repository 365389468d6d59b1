-- The program's two lines fit into the text whole: what it holds is the header line and the line after it, and nothing is cut.
-- Assumes nothing.
use Prim.Native.Nat.{ℕ, zero, suc, ◌+◌, ◌≤◌, ◌<◌}
use mathlib.Core.Bool.{Bool, true, false}
use mathlib.Core.List.{List, [], ◌∷◌, ◌++◌, append-nil, append_assoc}
use mathlib.Core.Path.{◌≡◌, refl, sym, ap, ◌∙◌}
use native.Mathlib.Nat.{not-suc-le-zero, le_of_suc-le-suc}
use native.Mathlib.Numerals.{add-one}
use native.Mathlib.Omega.{arith}
use borrow.Author.Tests.{lt-ltb}
use lib.ListN.{length, take, set, length-set, length-append}
use Rattle.digits.specs.Digits.{digits_of}
use Rattle.digits.specs.Ascii.{ascii}
use Rattle.digits.specs.Numerals.{hex_text}
use Rattle.digits.proofs.Decimal.{decimal_most}
use Rattle.machine.specs.declared.Cpu.{Cpu}
use Rattle.machine.specs.Run.{Ran}
use Rattle.saved.specs.Codes.{ime_code, mode_code}
use Rattle.text.specs.Written.{room, empty_text, pushed_if, pushed, written}
use Rattle.text.specs.Answer.{header, number_then, word_then, refusal_line, registers_line, run_line, line_if, printed}
use Rattle.text.specs.declared.Text.{Text}
use Rattle.text.proofs.Texts.{written_append}

-- what a text holds
abbrev pub told_by : Text → List ℕ
told_by t = take t.len t.bytes

-- one byte more behind the first n of a list
set_next : (bytes : List ℕ) (n b : ℕ) → n < length bytes → take (suc n) (set bytes n b) ≡ take n bytes ++ (b ∷ [])
set_next [] n b h = absurd (not-suc-le-zero h)
set_next (x ∷ bytes) zero b h = refl
set_next (x ∷ bytes) (suc n) b h = let rest = set_next bytes n b (le_of_suc-le-suc h) in λ i. x ∷ rest i

-- a byte that there is room for
abbrev next : ℕ → Text → Text
next b t = record { bytes = set t.bytes t.len b; len = t.len + 1 }

pushed_here : (b : ℕ) (t : Text) → t.len < room → pushed b t ≡ next b t
unfolding pushed pushed_if
pushed_here b t here = rw (lt-ltb t.len room here)

-- what is written is told, as long as there is room for all of it
pub written_whole : (bs : List ℕ) (t : Text) → length t.bytes ≡ room → t.len + length bs ≤ room
    → told_by (written bs t) ≡ told_by t ++ bs
unfolding written
written_whole [] t size fits = sym (append-nil _)
written_whole (b ∷ bs) t size fits =
    let here : t.len < room = omega arith in
    let left : (next b t).len + length bs ≤ room = omega arith in
    let kept : length (next b t).bytes ≡ room = rw length-set size in
    let rest = written_whole bs (next b t) kept left in
    let last : take (t.len + 1) (set t.bytes t.len b) ≡ told_by t ++ (b ∷ []) =
    rw add-one (set_next t.bytes t.len b (omega (arith, size))) in
    ap (λ (u : Text). told_by (written bs u)) (pushed_here b t here)
    ∙ rest
    ∙ ap (λ (l : List ℕ). l ++ bs) last
    ∙ append_assoc (told_by t) (b ∷ []) bs

-- how long the parts of a line are

number_most : (n : ℕ) → length (number_then n) ≤ 11
unfolding number_then
number_most n = rw length-append (omega (arith, decimal_most n))

registers_length : (s : Cpu) → length (registers_line s) ≡ 30
unfolding registers_line word_then hex_text digits_of
registers_length s = refl

run_line_most : (r : Ran) → length (run_line r) ≤ 85
unfolding run_line
run_line_most r =
    simp length-append
    (omega (
      arith,
      number_most r.code,
      number_most r.spent,
      number_most r.steps,
      registers_length r.cpu,
      number_most (ime_code r.cpu.ime),
      decimal_most (mode_code r.cpu.mode),
    ))

refusal_line_most : (code : ℕ) → length (refusal_line code) ≤ 11
unfolding refusal_line
refusal_line_most code = rw length-append (omega (arith, decimal_most code))

line_most : (bare : Bool) (r : Ran) → length (line_if bare r) ≤ 85
unfolding line_if
line_most true r = omega (arith, refusal_line_most r.code)
line_most false r = run_line_most r

header_length : length header ≡ 44
unfolding ascii header
header_length = refl

-- the two lines, whole

printed_whole : (line : List ℕ) → length line ≤ 85 → told_by (printed line) ≡ header ++ line
unfolding printed empty_text
printed_whole line most =
    rw (← (written_append header line empty_text))
    (written_whole (header ++ line) empty_text refl (rw (length-append, header_length) (omega arith)))

pub two_lines : (bare : Bool) (r : Ran) → told_by (printed (line_if bare r)) ≡ header ++ line_if bare r
two_lines bare r = printed_whole _ (line_most bare r)

pub refused_lines : (code : ℕ) → told_by (printed (refusal_line code)) ≡ header ++ refusal_line code
refused_lines code = printed_whole _ (omega (arith, refusal_line_most code))

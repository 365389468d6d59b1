-- Where a line is data, how many bytes a line has, and that they are those that the decoder takes.
-- Assumes nothing.
use Prim.Native.Nat.{ℕ, ◌+◌, ◌-◌, ◌≤◌, ◌<◌}
use mathlib.Core.Bool.{true, false, ◌||◌, ◌&&◌, not}
use mathlib.Core.List.{List}
use mathlib.Core.Path.{◌≡◌, refl}
use native.Mathlib.Omega.{arith}
use lib.Dec.{eqb, ltb}
use lib.ListN.{length, take}
use Rattle.arith.specs.Words.{word_of, further}
use Rattle.digits.specs.Digits.{byte_in}
use Rattle.insn.specs.Shapes.{shape_of, shaped_of, decoded_of}
use Rattle.insn.proofs.Laws.{undefined_bytes, among, undefined_bytes_lem}
use Rattle.listing.specs.Spelling.{data_of, spelling_text}
use Rattle.listing.specs.Lines.{insn_in, spelled_in, size_in, is_data, line_if, line_of}
use Rattle.listing.specs.declared.Edition.{Edition}
use Rattle.listing.proofs.Order.{counted, size_some}

pub line_size : (e : Edition) (a : ℕ) (bytes : List ℕ) → 0 < length bytes
    → (1 ≤ length (line_of e a bytes).bytes) × (length (line_of e a bytes).bytes ≤ 3)
line_size e a bytes h = let c = counted e a bytes h in (c.some, c.few)

-- one of the eleven undefined bytes, an instruction cut by the end, a $10 not followed by $00
pub data_exactly : (bytes : List ℕ) → byte_in 0 bytes < 256 → byte_in 1 bytes < 256
    → is_data bytes
    ≡ (among undefined_bytes (byte_in 0 bytes)
    || (ltb (length bytes) (size_in bytes) || (eqb (byte_in 0 bytes) 0x10 && not (eqb (byte_in 1 bytes) 0x00))))
unfolding is_data insn_in
data_exactly bytes first second =
    rw (undefined_bytes_lem (byte_in 0 bytes) (byte_in 1 bytes) (word_of (byte_in 2 bytes) (byte_in 1 bytes)) first second) refl

-- such a line has the one byte, and spells it as data
pub data_line : (e : Edition) (a : ℕ) (bytes : List ℕ) → is_data bytes ≡ true
    → line_of e a bytes
    ≡ record { address = a; bytes = take 1 bytes; spelling = spelling_text (further 1 a) (data_of (byte_in 0 bytes)) }
unfolding line_of line_if
data_line e a bytes d = rw d

-- any other has the bytes that the decoder takes, and spells what it decodes as its edition does
pub decoded_bytes : (e : Edition) (a : ℕ) (bytes : List ℕ) → is_data bytes ≡ false
    → ((line_of e a bytes).bytes ≡ take ((decoded_of (byte_in 0 bytes) (byte_in 1 bytes) (word_of (byte_in 2 bytes) (byte_in 1 bytes))).more + 1) bytes)
    × ((line_of e a bytes).spelling ≡ spelling_text (further (size_in bytes) a) (spelled_in e bytes))
unfolding line_of line_if size_in insn_in decoded_of shaped_of
decoded_bytes e a bytes d =
    let some = size_some bytes d in
    let back : (shape_of (insn_in bytes)).bytes - 1 + 1 ≡ size_in bytes = omega arith in
    (rw (d, back), rw d)

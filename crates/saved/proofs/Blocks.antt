-- A state and its block, each made from the other.
-- Assumes nothing.
use Prim.Native.Nat.{ℕ, ◌<◌}
use mathlib.Core.Bool.{true, and-eq-true_iff}
use mathlib.Core.List.{List}
use mathlib.Core.Path.{◌≡◌, refl, sym, ◌∙◌}
use native.Mathlib.Nat.{mod-lt}
use native.Mathlib.Omega.{arith}
use borrow.Author.Tests.{leb-true, le-leb}
use lib.Dec.{leb, lit<}
use lib.ListN.{length}
use lib.Seq.{take_all}
use Rattle.arith.specs.Words.{high_of, low_of}
use Rattle.arith.proofs.Laws.{word_below, word_back, high_back, low_back}
use Rattle.machine.specs.declared.Cpu.{Cpu}
use Rattle.machine.proofs.Sound.{Sound}
use Rattle.digits.specs.Digits.{byte_in}
use Rattle.saved.specs.Codes.{ime_code, mode_code}
use Rattle.saved.specs.Block.{block_size, block_of, flags_in, ime_code_in, mode_code_in, has_codes, held_in}
use Rattle.digits.proofs.Digits.{below_none, below_more}
use Rattle.saved.proofs.CodesBack.{ime_back, ime_most, ime_code_back, mode_back, mode_most, mode_code_back}
use Rattle.digits.proofs.Places.{ByteList, bytes_at, part_bytes}

-- the block of a state holds that state

pub held_back : (s : Cpu) → Sound s → held_in (block_of s) ≡ s
unfolding held_in block_of flags_in ime_code_in mode_code_in byte_in
held_back s p = rw (word_back s.sp p.sp, word_back s.pc p.pc, ime_back s.ime, mode_back s.mode)

pub has_codes_lem : (s : Cpu) → has_codes (block_of s) ≡ true
unfolding has_codes block_of ime_code_in mode_code_in byte_in
has_codes_lem s = rw (le-leb _ _ (ime_most s.ime), le-leb _ _ (mode_most s.mode))

-- and its F is the state's
pub held_flags : (s : Cpu) → flags_in (block_of s) ≡ s.f
unfolding flags_in block_of byte_in
held_flags s = refl

-- a block of bytes whose codes stand for something is the block of the state that it holds

pub block_back : (b : List ℕ) → length b ≡ block_size → ByteList b → has_codes b ≡ true → block_of (held_in b) ≡ b
unfolding held_in has_codes block_of flags_in ime_code_in mode_code_in byte_in bytes_at
block_back b size bytes codes =
    let most = (and-eq-true_iff (leb (ime_code_in b) 2) (leb (mode_code_in b) 3)).0 codes in
    let ime = ime_code_back (ime_code_in b) (leb-true _ _ most.0) in
    let mode = mode_code_back (mode_code_in b) (leb-true _ _ most.1) in
    let whole = take_all block_size b (omega (arith, size)) in
    rw (
      high_back (byte_in 8 b) (byte_in 9 b) (bytes.at 8) (bytes.at 9),
      low_back (byte_in 8 b) (byte_in 9 b) (bytes.at 9),
      high_back (byte_in 10 b) (byte_in 11 b) (bytes.at 10) (bytes.at 11),
      low_back (byte_in 10 b) (byte_in 11 b) (bytes.at 11),
      ime,
      mode,
    )
    (sym (part_bytes block_size 0 b (omega (arith, size))) ∙ whole)

-- a block's state is one as the code holds it, and a state's block is bytes

pub held_sound : (b : List ℕ) → ByteList b → Sound (held_in b)
unfolding held_in flags_in byte_in
held_sound b bytes =
    record {
      a = bytes.at 0;
      f = bytes.at 1;
      b = bytes.at 2;
      c = bytes.at 3;
      d = bytes.at 4;
      e = bytes.at 5;
      h = bytes.at 6;
      l = bytes.at 7;
      sp = word_below _ _ (bytes.at 8) (bytes.at 9);
      pc = word_below _ _ (bytes.at 10) (bytes.at 11);
    }

pub block_bytes : (s : Cpu) → Sound s → ByteList (block_of s)
unfolding block_of high_of low_of
block_bytes s p =
    let pos : 0 < 256 = lit< tt in
    let ime : ime_code s.ime < 256 = omega (arith, ime_most s.ime) in
    let mode : mode_code s.mode < 256 = omega (arith, mode_most s.mode) in
    let codes = below_more ime (below_more mode (below_none pos)) in
    let pc = below_more (mod-lt _ pos) (below_more (mod-lt _ pos) codes) in
    let sp = below_more (mod-lt _ pos) (below_more (mod-lt _ pos) pc) in
    below_more p.a
    (below_more p.f
    (below_more p.b
    (below_more p.c
    (below_more p.d
    (below_more p.e (below_more p.h (below_more p.l sp)))))))

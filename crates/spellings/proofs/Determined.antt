-- A line's address and spelling determine its bytes, over both editions: they are read back from it. So two parts with the same first
-- address and the same spellings are the same bytes.
-- Assumes nothing.
use Prim.Native.Nat.{ℕ, zero, suc, ◌≤◌, ◌<◌}
use mathlib.Core.Bool.{Bool, true, false, ◌&&◌, not, true≢false}
use mathlib.Core.List.{List, [], ◌∷◌, ◌++◌}
use mathlib.Core.Path.{◌≡◌, refl, sym, ◌∙◌, ap}
use native.Mathlib.Nat.{le_refl, le_of_suc-le-suc}
use native.Mathlib.Omega.{arith}
use borrow.Author.Tests.{eqb-true}
use lib.Dec.{eqb, ltb}
use lib.ListN.{length, get_or, take, drop, take-append-drop, length-drop}
use Rattle.arith.specs.Words.{word_of, further}
use Rattle.arith.proofs.Laws.{further_below, low_back, high_back, word_below}
use Rattle.digits.specs.Digits.{byte_in}
use Rattle.digits.proofs.Digits.{below_rest}
use Rattle.digits.proofs.Places.{ByteList, bytes_at, part_bytes}
use Rattle.insn.specs.Grid.{decode_of}
use Rattle.insn.specs.Shapes.{is_undefined}
use Rattle.listing.specs.Spelling.{Kind, n8, n16, at_n16, at_high, e8, sp_plus_e8, target, u3, vec, Shown, Named, Of, spelling_in, data_of, constant_text, spelling_text}
use Rattle.listing.specs.Forms.{text_if, number_if}
use Rattle.listing.specs.Lines.{Line, insn_in, spelled_in, size_in, is_data, line_if, line_of, lines_from, lines_of}
use Rattle.listing.specs.declared.Edition.{Edition}
use Rattle.listing.proofs.Addresses.{stands}
use Rattle.listing.proofs.Order.{or_left, or_right, whole, size_some, size_few, counted, line_first}
use Rattle.spellings.specs.Determined.{LineIn, LineDetermined, spellings_of, PartDetermined}
use Rattle.spellings.specs.Outline.{constant_in, outline_in}
use Rattle.spellings.specs.Rows.{row_by, slot_of, slot_at}
use Rattle.spellings.specs.Bytes.{bytes_of}
use Rattle.spellings.specs.declared.Slot.{Slot}
use Rattle.spellings.specs.declared.Slot.TheVariants.{Bare, N8, N16, High, E8, Target, U3, Vec}
use Rattle.spellings.proofs.Constants.{number_in, number_back}
use Rattle.spellings.proofs.Recovered.{held_slot, held_number, held_text, FitsIn, held, size, insn_bytes, next_is, recovered, recovered_data}

-- the number of a constant from its text, by what it may be: only its kind's place in the line differs within a slot
abbrev slot_number : ℕ → Slot → List ℕ → ℕ
slot_number next Bare t = 0
slot_number next N8 t = number_in next n8 t
slot_number next N16 t = number_in next n16 t
slot_number next High t = number_in next at_high t
slot_number next E8 t = number_in next e8 t
slot_number next Target t = number_in next target t
slot_number next U3 t = number_in next u3 t
slot_number next Vec t = number_in next vec t

-- the bytes of a line from its address, its row and its constant, and from its address and its spelling
abbrev bytes_back : ℕ → ℕ → List ℕ → List ℕ
bytes_back a row t = bytes_of row (slot_at row) (slot_number (further 2 a) (slot_at row) t)

unfoldable pub read_back : ℕ → List ℕ → List ℕ
read_back a spelling = bytes_back a (row_by (outline_in spelling)) (constant_in spelling)

slot_number_lem : (next : ℕ) (k : Kind) (t : List ℕ) → slot_number next (slot_of k) t ≡ number_in next k t
unfolding slot_of
slot_number_lem next n8 t = refl
slot_number_lem next n16 t = refl
slot_number_lem next at_n16 t = refl
slot_number_lem next at_high t = refl
slot_number_lem next e8 t = refl
slot_number_lem next sp_plus_e8 t = refl
slot_number_lem next target t = refl
slot_number_lem next u3 t = refl
slot_number_lem next vec t = refl

held_back : (next : ℕ) (x : Shown) → next < 65536 → FitsIn x → slot_number next (held_slot x) (held_text next x) ≡ held_number x
held_back next (Named t) small h = refl
held_back next (Of k n) small h = slot_number_lem next k (constant_text next k n) ∙ number_back next k n small h

-- an instruction
module _ (e : Edition) (a op n w : ℕ) (h : op < 256) (hn : n < 256) (hw : w < 65536) (d : is_undefined (decode_of op n w) ≡ false) where
  pub insn_back : read_back a (spelling_text (further (size op n w) a) (spelling_in e op n w)) ≡ insn_bytes (size op n w) op n w
  unfolding read_back
  insn_back =
      let r = recovered e (further (size op n w) a) op n w h hn hw d in
      rw (
        r.text,
        r.row,
        r.slot,
        next_is e a op n w h hn,
        held_back (further 2 a) (held e op n w) (further_below 2 a) r.fits,
      )
      r.bytes

-- a byte of data
pub data_back : (a next b : ℕ) → b < 256 → read_back a (spelling_text next (data_of b)) ≡ b ∷ []
unfolding read_back constant_text
data_back a next b h =
    let r = recovered_data next b h in
    rw (r.text, r.row, r.slot, number_back (further 2 a) n8 b (further_below 2 a) h) r.bytes

-- the bytes that a line has are the first of those that it begins with
module _ (bytes : List ℕ) (some : 0 < length bytes) where
  abbrev op : ℕ
  op = byte_in 0 bytes

  abbrev second : ℕ
  second = byte_in 1 bytes

  abbrev word : ℕ
  word = word_of (byte_in 2 bytes) (byte_in 1 bytes)

  front : (k : ℕ) → k ≤ length bytes → take k bytes ≡ bytes_at k 0 bytes
  front k h = part_bytes k 0 bytes (omega arith)

  data_front : take 1 bytes ≡ op ∷ []
  unfolding byte_in bytes_at
  data_front = front 1 some

  stop_second : (t u : Bool) (n : ℕ) → (t && not u) ≡ false → u ≡ eqb n 0 → number_if t 0 n ≡ n
  unfolding number_if
  stop_second false u n h e = refl
  stop_second true true n h e = sym (eqb-true n 0 (sym e))
  stop_second true false n h e = absurd (true≢false h)

  insn_front : ByteList bytes → (k : ℕ) → 1 ≤ k → k ≤ 3 → k ≤ length bytes → number_if (eqb op 0x10) 0x00 second ≡ second
      → insn_bytes k op second word ≡ take k bytes
  unfolding text_if byte_in bytes_at
  insn_front p zero low few h s = absurd (omega arith)
  insn_front p (suc zero) low few h s = sym (front 1 h)
  insn_front p (suc (suc zero)) low few h s = rw s (sym (front 2 h))
  insn_front p (suc (suc (suc zero))) low few h s = rw (low_back _ _ (p.at 1), high_back _ _ (p.at 2) (p.at 1)) (sym (front 3 h))
  insn_front p (suc (suc (suc (suc k)))) low few h s = absurd (omega arith)

-- where an instruction is not data: it is defined, whole, and a $10 has a $00 behind it
module _ (e : Edition) (a : ℕ) (bytes : List ℕ) (some : 0 < length bytes) (p : ByteList bytes) where
  insn_line : is_data bytes ≡ false → read_back a (line_if false e a bytes).spelling ≡ (line_if false e a bytes).bytes
  unfolding line_if spelled_in size_in insn_in is_data byte_in
  insn_line d =
      let rest = or_right (is_undefined (insn_in bytes)) _ d in
      let stop = or_right (ltb (length bytes) (size_in bytes)) _ rest in
      insn_back e a (op bytes some) (second bytes some) (word bytes some) (p.at 0) (p.at 1) (word_below _ _ (p.at 2) (p.at 1))
      (or_left (is_undefined (insn_in bytes)) _ d)
      ∙ insn_front bytes some p (size_in bytes) (size_some bytes d) (size_few bytes) (whole bytes d) (stop_second bytes some _ _ _ stop refl)

  line_if_lem : (t : Bool) → is_data bytes ≡ t → read_back a (line_if t e a bytes).spelling ≡ (line_if t e a bytes).bytes
  line_if_lem true d = unfold line_if byte_in in data_back a (further 1 a) (byte_in 0 bytes) (p.at 0) ∙ sym (data_front bytes some)
  line_if_lem false d = insn_line d

  -- the bytes of a line are read back from its address and its spelling
  pub line_back : read_back a (line_of e a bytes).spelling ≡ (line_of e a bytes).bytes
  unfolding line_of
  line_back = line_if_lem (is_data bytes) refl

line_read : (e : Edition) (l : Line) → LineIn e l → read_back l.address l.spelling ≡ l.bytes
line_read e l i =
    ap (λ (m : Line). read_back l.address m.spelling) i.is
    ∙ line_back e l.address i.bytes i.some i.each
    ∙ sym (ap (λ (m : Line). m.bytes) i.is)

-- two lines, of either edition, at one address and with one spelling have the same bytes
pub line_determined : LineDetermined
line_determined e e' l l' i i' address spelling =
    sym (line_read e l i) ∙ ap (λ a. read_back a l.spelling) address ∙ ap (read_back l'.address) spelling ∙ line_read e' l' i'

-- each line of a listing is such a line
lines_in : (e : Edition) (a few : ℕ) (bytes : List ℕ) → ByteList bytes → (i : ℕ) (d : Line) → i < length (lines_from e a few bytes)
    → LineIn e (get_or (lines_from e a few bytes) i d)
unfolding lines_from
lines_in e a few [] p i d here = absurd (omega arith)
lines_in e a (suc few) (b ∷ bytes) p i d here = lines_in e (further 1 a) few bytes (below_rest p) i d here
lines_in e a zero (b ∷ bytes) p zero d here =
    record { bytes = b ∷ bytes; some = omega arith; each = p; is = ap (λ n. line_of e n (b ∷ bytes)) (sym (stands e a (b ∷ bytes))) }
lines_in e a zero (b ∷ bytes) p (suc i) d here = lines_in e (further 1 a) _ bytes (below_rest p) i d (le_of_suc-le-suc here)

pub line_in_lem : (e : Edition) (first : ℕ) (part : List ℕ) → ByteList part → (i : ℕ) (d : Line) → i < length (lines_of e first part)
    → LineIn e (get_or (lines_of e first part) i d)
unfolding lines_of
line_in_lem e first part p = lines_in e first 0 part p

pub below_drop : (k : ℕ) (bytes : List ℕ) → ByteList bytes → ByteList (drop k bytes)
below_drop zero bytes p = p
below_drop (suc k) [] p = p
below_drop (suc k) (b ∷ bytes) p = below_drop k bytes (below_rest p)

-- no bytes have no lines, and others have some
no_lines : (e e' : Edition) (a b : ℕ) (bytes : List ℕ) → spellings_of (lines_from e a 0 []) ≡ spellings_of (lines_from e' a 0 (b ∷ bytes)) → ⊥
unfolding lines_from
no_lines e e' a b bytes s = let n = ap length s in omega (arith, n)

-- a line and what is left behind it make the part
rejoined : (e : Edition) (a : ℕ) (bytes : List ℕ) → 0 < length bytes
    → (line_of e a bytes).bytes ++ drop (length (line_of e a bytes).bytes) bytes ≡ bytes
rejoined e a bytes some =
    let k = length (line_of e a bytes).bytes in
    ap (λ (f : List ℕ). f ++ drop k bytes) (counted e a bytes some).front ∙ take-append-drop k bytes

-- line after line: there are no more of them than bytes
module _ (e e' : Edition) where
  abbrev SameUpTo : ℕ → Type 0
  SameUpTo most =
      (a : ℕ) (xs ys : List ℕ) → length xs ≤ most → a < 65536 → ByteList xs → ByteList ys
      → spellings_of (lines_from e a 0 xs) ≡ spellings_of (lines_from e' a 0 ys) → xs ≡ ys

  one_more_lem : (most : ℕ) → SameUpTo most → SameUpTo (suc most)
  one_more_lem most known a [] [] h small p q s = refl
  one_more_lem most known a [] (y ∷ ys) h small p q s = absurd (no_lines e e' a y ys s)
  one_more_lem most known a (x ∷ xs) [] h small p q s = absurd (no_lines e' e a x xs (sym s))
  one_more_lem most known a (x ∷ xs) (y ∷ ys) h small p q s =
      let k = length (line_of e a (x ∷ xs)).bytes in
      let k' = length (line_of e' a (y ∷ ys)).bytes in
      let some : 0 < length (x ∷ xs) = omega arith in
      let some' : 0 < length (y ∷ ys) = omega arith in
      let both = sym (ap spellings_of (line_first e a (x ∷ xs) small some)) ∙ s ∙ ap spellings_of (line_first e' a (y ∷ ys) small some') in
      let first = ap (λ (ss : List (List ℕ)). get_or ss 0 []) both in
      let bytes =
      sym (line_back e a (x ∷ xs) some p) ∙ ap (read_back a) first ∙ line_back e' a (y ∷ ys) some' q in
      let rest =
      ap (drop 1) both ∙ ap (λ n. spellings_of (lines_from e' (further n a) 0 (drop k' (y ∷ ys)))) (sym (ap length bytes)) in
      let less : length (drop k (x ∷ xs)) ≤ most =
      omega (arith, length-drop k (x ∷ xs), (counted e a (x ∷ xs) some).some) in
      let left =
      known (further k a) (drop k (x ∷ xs)) (drop k' (y ∷ ys)) less (further_below k a) (below_drop k (x ∷ xs) p)
      (below_drop k' (y ∷ ys) q) rest in
      sym (rejoined e a (x ∷ xs) some)
      ∙ ap (λ (f : List ℕ). f ++ drop k (x ∷ xs)) bytes
      ∙ ap (λ (r : List ℕ). (line_of e' a (y ∷ ys)).bytes ++ r) left
      ∙ rejoined e' a (y ∷ ys) some'

  none : SameUpTo 0
  none a [] [] h small p q s = refl
  none a [] (y ∷ ys) h small p q s = absurd (no_lines e e' a y ys s)
  none a (x ∷ xs) ys h small p q s = absurd (omega arith)

  same_up_to : (most : ℕ) → SameUpTo most
  same_up_to zero = none
  same_up_to (suc most) = one_more_lem most (same_up_to most)

-- two parts with the same first address and the same spellings, of either edition, are the same bytes
pub part_determined : PartDetermined
unfolding lines_of
part_determined e e' first part part' small p q s = same_up_to e e' (length part) first part part' (le_refl _) small p q s

-- The one argument over the width w, for 4, 8, 12 and 16 bits: numbers of w bits carry and borrow as whole numbers do, and a
-- sum or a difference modulo 2 to the w is off by 2 to the w where it carried or borrowed, and by nothing otherwise. What is
-- carried or borrowed there shows in bit w.
-- Assumes nothing.
use Rattle.std.proofs.Common.{◌≡◌, ℕ, suc, ◌+◌, ◌-◌, ◌*◌, ◌/◌, ◌%◌, ◌^◌, ◌<◌, ◌≤◌, Bool, true, false, eqb, ltb, leb, sym, refl, ap, ◌∙◌, mod-lt, mod-eq_of_lt, pow-suc, arith, pow_pos, pow-add, ltb-false, ltb-true, leb-false, leb-true}
use native.Mathlib.Nat.{mod-eq-sub-mod, add-mod_right}
use lib.Bits.{bit_xor, xor_shr, xor_add_and}
use lib.Pow.{high, split}
use Rattle.arith.specs.Width.{one_if, sum_of, difference_of, carry_of, borrow_of}
use Rattle.arith.proofs.Laws.{sum_below, difference_below}

pub carry_whole : (w a b c : ℕ) → a < 2 ^ w → b < 2 ^ w → carry_of w a b c ≡ leb (2 ^ w) (a + b + c)
unfolding carry_of
carry_whole w a b c ha hb = rw (mod-eq_of_lt ha, mod-eq_of_lt hb)

pub borrow_whole : (w a b c : ℕ) → a < 2 ^ w → b < 2 ^ w → borrow_of w a b c ≡ ltb a (b + c)
unfolding borrow_of
borrow_whole w a b c ha hb = rw (mod-eq_of_lt ha, mod-eq_of_lt hb)

-- n below two moduli: it is n modulo m, and m more where it reaches m
over : (m n : ℕ) (t : Bool) → leb m n ≡ t → n < m + m → n ≡ n % m + one_if t * m
over m n true e h =
    let l : m ≤ n = leb-true m n e in
    let k : n - m < m = omega arith in
    rw (mod-eq-sub-mod l, mod-eq_of_lt k) (omega arith)
over m n false e h = rw (mod-eq_of_lt (leb-false m n e)) (omega arith)

-- the same of a difference
under : (m a d : ℕ) (t : Bool) → ltb a d ≡ t → a < m → d ≤ m → a + one_if t * m ≡ (a + m - d) % m + d
under m a d true e ha hd =
    let l : a < d = ltb-true a d e in
    let k : a + m - d < m = omega arith in
    rw (mod-eq_of_lt k) (omega arith)
under m a d false e ha hd =
    let l : d ≤ a = ltb-false a d e in
    let k : a + m - d ≡ a - d + m = omega arith in
    let j : a - d < m = omega arith in
    rw (k, add-mod_right, mod-eq_of_lt j) (omega arith)

pub sum_law : (w a b c : ℕ) → a < 2 ^ w → b < 2 ^ w → c ≤ 1
    → a + b + c ≡ sum_of w a b c + one_if (carry_of w a b c) * 2 ^ w
unfolding sum_of
sum_law w a b c ha hb hc =
    rw (carry_whole w a b c ha hb) (over (2 ^ w) (a + b + c) (leb (2 ^ w) (a + b + c)) refl (omega arith))

pub difference_law : (w a b c : ℕ) → a < 2 ^ w → b < 2 ^ w → c ≤ 1
    → a + one_if (borrow_of w a b c) * 2 ^ w ≡ difference_of w a b c + b + c
unfolding difference_of
difference_law w a b c ha hb hc =
    let e = under (2 ^ w) a (b + c) (ltb a (b + c)) refl ha (omega arith) in
    rw (borrow_whole w a b c ha hb) (omega (arith, e))

-- numbers that are the same but for their low w bits
same_above : (w a b r s : ℕ) → r < 2 ^ w → s < 2 ^ w → a * 2 ^ w + r ≡ b * 2 ^ w + s → a ≡ b
same_above w a b r s hr hs e = sym (high a w hr) ∙ ap (λ (n : ℕ). n / 2 ^ w) e ∙ high b w hs

low_below_lem : (w x : ℕ) → x % 2 ^ w < 2 ^ w
low_below_lem w x = mod-lt x (pow_pos w)

-- the bits from w on of two numbers, and the carry out of the low w bits, make those of the sum
carry_above : (w x y c v z : ℕ) → c ≤ 1 → x + y + c ≡ v + z * 2 ^ w
    → x / 2 ^ w + y / 2 ^ w + one_if (carry_of w x y c) ≡ v / 2 ^ w + z
unfolding carry_of
carry_above w x y c v z hc e =
    let p = x % 2 ^ w in
    let q = y % 2 ^ w in
    let l = sum_law w p q c (low_below_lem w x) (low_below_lem w y) hc in
    rw (← (carry_whole w p q c (low_below_lem w x) (low_below_lem w y)))
    (same_above w _ _ (sum_of w p q c) (v % 2 ^ w) (sum_below w p q c) (low_below_lem w v)
    (omega (arith, e, l, split x w, split y w, split v w)))

-- the same of a difference and the borrow
borrow_above : (w x y c v z : ℕ) → c ≤ 1 → x + z * 2 ^ w ≡ v + y + c
    → x / 2 ^ w + z ≡ v / 2 ^ w + y / 2 ^ w + one_if (borrow_of w x y c)
unfolding borrow_of
borrow_above w x y c v z hc e =
    let p = x % 2 ^ w in
    let q = y % 2 ^ w in
    let l = difference_law w p q c (low_below_lem w x) (low_below_lem w y) hc in
    rw (← (borrow_whole w p q c (low_below_lem w x) (low_below_lem w y)))
    (same_above w _ _ (difference_of w p q c) (v % 2 ^ w) (difference_below w p q c) (low_below_lem w v)
    (omega (arith, e, l, split x w, split y w, split v w)))

-- what is lost at n bits is even from bit w on
even_above : (w n b : ℕ) → w < n → b * 2 ^ n ≡ b * 2 ^ (n - suc w) * 2 * 2 ^ w
even_above w n b l =
    let e : n ≡ suc (n - suc w) + w = omega arith in
    ap (λ (i : ℕ). b * 2 ^ i) e ∙ rw (pow-add 2 (suc (n - suc w)) w, pow-suc 2 (n - suc w)) (omega arith)

-- where three numbers and a test make an even number, the lowest bits of the three, exclusive-or'd, are the test
odd_one : (x y v : ℕ) (t : Bool) → (x + y + v + one_if t) % 2 ≡ 0 → eqb (bit_xor (bit_xor x y) v % 2) 1 ≡ t
odd_one x y v true e =
    let k : bit_xor (bit_xor x y) v % 2 ≡ 1 = omega (arith, xor_add_and x y, xor_add_and (bit_xor x y) v) in
    rw k
odd_one x y v false e =
    let k : bit_xor (bit_xor x y) v % 2 ≡ 0 = omega (arith, xor_add_and x y, xor_add_and (bit_xor x y) v) in
    rw k

-- the same of the numbers from bit w on
odd_bit : (w x y v : ℕ) (t : Bool) → (x / 2 ^ w + y / 2 ^ w + v / 2 ^ w + one_if t) % 2 ≡ 0
    → eqb (bit_xor (bit_xor x y) v / 2 ^ w % 2) 1 ≡ t
odd_bit w x y v t e =
    rw (xor_shr (bit_xor x y) v w, xor_shr x y w) (odd_one (x / 2 ^ w) (y / 2 ^ w) (v / 2 ^ w) t e)

-- bit w of two numbers and of their sum at n bits, exclusive-or'd, is the carry out of the low w bits
pub carry_bit : (w n x y c : ℕ) → w < n → x < 2 ^ n → y < 2 ^ n → c ≤ 1
    → eqb (bit_xor (bit_xor x y) (sum_of n x y c) / 2 ^ w % 2) 1 ≡ carry_of w x y c
carry_bit w n x y c l hx hy hc =
    let v = sum_of n x y c in
    let b = one_if (carry_of n x y c) in
    let z = b * 2 ^ (n - suc w) * 2 in
    let e = carry_above w x y c v z hc (omega (arith, sum_law n x y c hx hy hc, even_above w n b l)) in
    odd_bit w x y v (carry_of w x y c) (omega (arith, e))

-- the same of their difference and the borrow
pub borrow_bit : (w n x y c : ℕ) → w < n → x < 2 ^ n → y < 2 ^ n → c ≤ 1
    → eqb (bit_xor (bit_xor x y) (difference_of n x y c) / 2 ^ w % 2) 1 ≡ borrow_of w x y c
borrow_bit w n x y c l hx hy hc =
    let v = difference_of n x y c in
    let b = one_if (borrow_of n x y c) in
    let z = b * 2 ^ (n - suc w) * 2 in
    let e = borrow_above w x y c v z hc (omega (arith, difference_law n x y c hx hy hc, even_above w n b l)) in
    odd_bit w x y v (borrow_of w x y c) (omega (arith, e))

-- The loop's invariant: the digits that are left from a place on, written to the text so far, give the whole.
use Rattle.std.proofs.Common.{◌≡◌, ℕ, ◌-◌}
use Rattle.std.specs.Prelude.{map}
use Rattle.digits.specs.Digits.{digits_of}
use Rattle.digits.specs.Numerals.{glyph_of, width_of, decimal_text}
use Rattle.text.specs.Written.{written}
use Rattle.text.specs.declared.Text.{Text}
use Rattle.text.proofs.Text.decimal.Given as goal

-- the digits of n that count a power of ten up to k
abbrev pub left : ℕ → ℕ → Text → Text
left k n t = written (map glyph_of (digits_of 10 (width_of k n) n)) t

abbrev pub invariant-loop-place : goal.invariant-loop-place
invariant-loop-place l = left (9 - l.place) l.n l.self ≡ written (decimal_text l.n) l.initial.self

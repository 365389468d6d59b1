-- Texts, and what is answered of each, computed on the definition.
-- Assumes nothing.
use mathlib.Core.Path.{refl}
use Rattle.digits.specs.Ascii.{ascii}
use Rattle.digits.specs.Digits.{worth_of}
use Rattle.constants.specs.Constant.{is_decimal, is_digit, digit_if, digit_of, base_of, worth, term_value, value_of, nests_term, nests, small_term, small}
use Rattle.constants.specs.Reading.{put, state_if, begun, wanted, closed, followed, ended, step, finished, read_from, read_of}
use Rattle.constants.specs.Answer.{in_range, found_if, signed, found_in, found_of}
use Rattle.constants.specs.Theorems.{Examples}

pub examples : Examples
unfolding ascii worth_of is_decimal is_digit digit_if digit_of base_of worth term_value value_of nests_term nests small_term small put state_if begun wanted closed followed ended step finished read_from read_of in_range found_if signed found_in found_of
examples = record {
  sixteen = refl;
  seventeen = refl;
  seventeen_unclosed = refl;
  seventeen_large = refl;
  minus_first = refl;
  minus_all = refl;
  minus_inside = refl;
  zero_below = refl;
  twenty_digits = refl;
  wraps = refl;
  twenty_zeros = refl;
  most = refl;
  one_more = refl;
  most_hexadecimal = refl;
  more_hexadecimal = refl;
  back_again = refl;
  back_from_below = refl;
  number_stays = refl;
  above = refl;
  least = refl;
  below = refl;
  dollar = refl;
  small_letter = refl;
  letter = refl;
  plus_first = refl;
  minus_twice = refl;
  minus_behind_plus = refl;
  nothing = refl;
  nothing_within = refl;
  unclosed = refl;
  closed_twice = refl;
  side_by_side = refl;
}

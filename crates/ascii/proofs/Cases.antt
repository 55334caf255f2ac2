-- The worked cases: each is computed.
use mathlib.Core.Path.{refl}
use Rattle.ascii.specs.Decimal.{digits, spelt, decimal_up_to, decimal}
use Rattle.ascii.specs.Cases.{Cases}

pub cases : Cases
unfolding digits spelt decimal_up_to decimal
cases =
    record {
      text_of_plt = refl;
      byte_of_space = refl;
      four_digits = refl;
      zero = refl;
      one_digit = refl;
      two_digits = refl;
      digit_bytes = refl;
      digits_before = refl;
      digits_to_the_end = refl;
      spelt365 = refl;
    }

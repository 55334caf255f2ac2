-- The worked cases: each is computed.
use mathlib.Core.Path.{refl}
use Rattle.ascii.specs.Decimal.{spelt, decimal_up_to, decimal}
use Rattle.columns.specs.Cases.{Cases}

pub cases : Cases
unfolding decimal decimal_up_to spelt
cases =
    record {
      column_of_0 = refl;
      column_of_812 = refl;
      full_column = refl;
      empty_column = refl;
      line_of_three = refl;
      size_of_none = refl;
      first_read = refl;
      second_read = refl;
      zero_read = refl;
      mark_read = refl;
    }

-- The worked cases: each is computed.
use mathlib.Core.Path.{refl}
use Rattle.conditions.specs.Cases.{Cases}

pub cases : Cases
cases =
    record {
      first_of_two = refl;
      first_of_none = refl;
      later_applies = refl;
      low_end = refl;
      high_end = refl;
      below_low = refl;
      above_high = refl;
      distance_up = refl;
      distance_down = refl;
      from_five = refl;
    }

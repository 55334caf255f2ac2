-- The worked cases of rounding: each is computed.
use mathlib.Core.Path.{refl}
use Rattle.rounding.specs.Result.{nearest_even}
use Rattle.rounding.specs.Cases.{Cases}

pub cases : Cases
unfolding nearest_even
cases =
    record {
      rounds1000500 = refl;
      rounds1001500 = refl;
      mean_of_800_and_801 = refl;
      fifty_under_1050 = refl;
      rounds1000499 = refl;
      rounds1000501 = refl;
      mean_of_four_3rds = refl;
      mean_of_five_3rds = refl;
      each_reading_rounded = refl;
      mean_then_factor = refl;
      fifty_and_1500 = refl;
      nothing_added = refl;
      times_one = refl;
      counts = refl;
      readings = refl;
      added_factors = refl;
      multiplied_factors = refl;
      other_kind = refl;
      results = refl;
    }

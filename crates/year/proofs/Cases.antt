-- The worked cases of a year, and document 01's starred cases. Deviations are proved by their laws; the rest is computed.
use mathlib.Core.Path.{◌≡◌, refl}
use lib.Dec.{lit<, lit≤}
use Rattle.rounding.specs.Result.{nearest_even}
use Rattle.rounding.proofs.Cases as rounding
use Rattle.statistics.specs.Spread.{variation, deviation}
use Rattle.statistics.specs.SampleSize.{t95, sample_size, size_reached, rounded_up}
use Rattle.statistics.proofs.Deviations.{deviation-unique, deviation-none}
use Rattle.statistics.specs.Cases.{exactly}
use Rattle.statistics.proofs.Cases as statistics
use Rattle.cumsum.specs.Marks.{compared, failed, undecided}
use Rattle.year.specs.Periods.{periods, needs}
use Rattle.year.specs.Verdict.{verdict}
use Rattle.year.specs.Admissible.{closed, admissible}
use Rattle.year.specs.Cases.{Cases}
use Rattle.year.specs.StarredCases.{StarredCases}

-- the deviation of 998, 1,071, 926 at m = 8
of-998-1071-926-finer : deviation 8192 3 31538 ≡ exactly 593924 1
of-998-1071-926-finer = deviation-unique 8192 3 31538 (lit≤ tt) 593924 (lit≤ tt) (lit< tt)

-- the deviations of 2,367, 3,236 and then 1,499
pub of-2367-3236 : deviation 1024 2 755161 ≡ exactly 629223 1
of-2367-3236 = deviation-unique 1024 2 755161 (lit≤ tt) 629223 (lit≤ tt) (lit< tt)

of-2367-3236-1499 : deviation 1024 3 4525754 ≡ exactly 889344 1
of-2367-3236-1499 = deviation-unique 1024 3 4525754 (lit≤ tt) 889344 (lit≤ tt) (lit< tt)

-- the deviations of 23, 23, 83 and then 83
of-23-23-83 : deviation 1024 3 7200 ≡ exactly 35472 1
of-23-23-83 = deviation-unique 1024 3 7200 (lit≤ tt) 35472 (lit≤ tt) (lit< tt)

of-23-23-83-83 : deviation 1024 4 14400 ≡ exactly 35472 1
of-23-23-83-83 = deviation-unique 1024 4 14400 (lit≤ tt) 35472 (lit≤ tt) (lit< tt)

pub starred-cases : StarredCases
unfolding nearest_even variation t95 sample_size size_reached rounded_up compared failed undecided periods needs verdict
starred-cases =
    record {
      rounds1000500 = (rounding.cases).rounds1000500;
      rounds1001500 = (rounding.cases).rounds1001500;
      mean_of_800_and_801 = (rounding.cases).mean_of_800_and_801;
      fifty_under_1050 = (rounding.cases).fifty_under_1050;
      periods_of_1599_and_365 = refl;
      periods_of_1600_and_120 = refl;
      periods_of_1600_and_121 = refl;
      periods_of_1600_and_300 = refl;
      periods_of_1600_and_301 = refl;
      deviation_of_two = (statistics.cases).deviation_at_1024;
      cumsum_of_two = rw (statistics.cases).deviation_at_1024;
      limit_of_two = rw (statistics.cases).deviation_at_1024;
      mark_of_two = rw (statistics.cases).deviation_at_1024;
      mark_of_two_at_8 = rw (statistics.cases).deviation_at_8192;
      marks_of_three = simp deviation-none;
      three_failed = simp deviation-none;
      size_of_800 = refl;
      size_of_800_co = refl;
      verdict_of_800 = simp deviation-none;
      size_of_1000 = refl;
      mark_of_1000 = simp deviation-none;
      verdict_of_1000 = simp deviation-none;
      failing_of_51 = simp deviation-none;
      failing_of_50 = simp deviation-none;
    }

pub cases : Cases
unfolding nearest_even variation t95 sample_size size_reached rounded_up compared failed undecided periods needs verdict closed admissible
cases =
    record {
      one_percent_of_250 = refl;
      one_percent_of_350 = refl;
      printed_of_three = simp deviation-none;
      verdict_of_none = refl;
      verdict_of_one = refl;
      verdict_of_two = simp ((statistics.cases).deviation_at_1024, deviation-none);
      verdict_declared = refl;
      verdict_undecided = simp ((statistics.cases).deviation_at_1024, (statistics.cases).deviation_of_three, deviation-none);
      verdict_settled = simp ((statistics.cases).deviation_at_8192, of-998-1071-926-finer, deviation-none);
      marks_at_8 = simp ((statistics.cases).deviation_at_8192, deviation-none);
      cumsum_at_8 = rw (statistics.cases).deviation_at_8192;
      limit_at_8 = rw (statistics.cases).deviation_at_8192;
      at_engine_1 = refl;
      at_engine_2 = refl;
      verdict_at_n = simp (of-23-23-83, of-23-23-83-83, deviation-none);
      verdict_at_one_percent = simp deviation-none;
      verdict_of_new_period = simp deviation-none;
      verdict_amended = simp deviation-none;
      size_amended = refl;
      tests_amended = refl;
      co_tests_amended = refl;
      size_of_co = refl;
      status_of_one = refl;
      status_of_none = refl;
      n_amended = refl;
      open_at_1024 = simp (of-2367-3236, of-2367-3236-1499, deviation-none);
      declared_is_closed = refl;
      failed_is_closed = simp deviation-none;
      three_is_valid = simp deviation-none;
      number_twice = refl;
      number_of_older = simp deviation-none;
      short_period = refl;
    }

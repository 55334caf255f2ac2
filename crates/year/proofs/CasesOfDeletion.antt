-- The worked cases of a strike. A deviation with V = 0 is 0 by its law; the rest is computed.
use mathlib.Core.Path.{refl}
use Rattle.rounding.specs.Result.{nearest_even}
use Rattle.statistics.specs.Spread.{variation}
use Rattle.statistics.specs.SampleSize.{t95, sample_size, size_reached, rounded_up}
use Rattle.statistics.proofs.Deviations.{deviation-none}
use Rattle.cumsum.specs.Marks.{compared, failed, undecided}
use Rattle.year.specs.Periods.{periods, needs}
use Rattle.year.specs.Verdict.{verdict}
use Rattle.year.specs.Admissible.{closed, admissible}
use Rattle.year.specs.CasesOfDeletion.{CasesOfDeletion}

pub cases-of-deletion : CasesOfDeletion
unfolding nearest_even variation t95 sample_size size_reached rounded_up compared failed undecided periods needs verdict closed admissible
cases-of-deletion =
    record {
      at_once = refl;
      newest_goes = refl;
      twice = refl;
      amendment_kept = refl;
      remaining_events = refl;
      size_of_remaining = refl;
      verdict_of_remaining = simp deviation-none;
      short_again = refl;
      no_period = simp deviation-none;
      of_none = refl;
      of_none_left = refl;
      of_earlier_period = simp deviation-none;
      of_earlier_left = simp deviation-none;
      of_this_period = simp deviation-none;
      after_failure = simp deviation-none;
      after_declaration = refl;
      number_again = refl;
      number_of_remaining = simp deviation-none;
    }

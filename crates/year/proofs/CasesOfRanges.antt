-- The ends of each range: each is computed.
use mathlib.Core.Path.{refl}
use Rattle.year.specs.Periods.{periods, needs}
use Rattle.year.specs.CasesOfRanges.{CasesOfRanges}

pub cases-of-ranges : CasesOfRanges
unfolding periods needs
cases-of-ranges =
    record {
      volumes = refl;
      days = refl;
      hcnox_standards = refl;
      co_standards = refl;
      setup_standards = refl;
      hcnox_factors = refl;
      co_factors = refl;
      periods_by_volume = refl;
      periods_by_days = refl;
      needed_engines = refl;
      numbers = refl;
      hcnox_results = refl;
      co_results = refl;
      engine_fits = refl;
      number_fits = refl;
      result_fits = refl;
      result_of_no_reading = refl;
      amendment_fits = refl;
      engines = refl;
      engine_of_41 = refl;
      events = refl;
      last_of_two = refl;
      period_fits = refl;
      period_fits_no_more = refl;
    }

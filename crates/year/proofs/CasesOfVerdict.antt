-- Cases that set the verdict's rows against each other. Deviations are proved by their laws; the rest is computed.
use mathlib.Core.Path.{◌≡◌, refl, ◌∙◌}
use mathlib.Core.Bool.{true, false}
use mathlib.Core.List.{◌∷◌}
use lib.Dec.{lit<, lit≤}
use lib.ListN.{drop}
use Rattle.conditions.specs.Rows.{first}
use Rattle.rounding.specs.Result.{nearest_even}
use Rattle.statistics.specs.Spread.{variation, deviation}
use Rattle.statistics.specs.SampleSize.{t95, sample_size, size_reached}
use Rattle.statistics.specs.Cases.{exactly}
use Rattle.statistics.proofs.Deviations.{deviation-unique, deviation-none}
use Rattle.statistics.proofs.Cases as statistics
use Rattle.cumsum.specs.Marks.{compared, failed, undecided}
use Rattle.cumsum.proofs.Cases.{of-216-329, of-216-329-232}
use Rattle.cumsum.proofs.NeverOver.{never_rises, never-failed, never-undecided}
use Rattle.year.specs.Setup.{Hcnox, Co}
use Rattle.year.specs.Periods.{periods, needs}
use Rattle.year.specs.Replay.{Progress, replay, history}
use Rattle.year.specs.Verdict.{verdict_rows, verdict}
use Rattle.year.specs.declared.Event.TheVariants.{NextPeriod}
use Rattle.year.specs.Cases.{setup_of, engine, engines_to}
use Rattle.year.specs.CasesOfVerdict.{CasesOfVerdict}

of-500-500-0 : deviation 1024 3 500000 ≡ exactly 295603 1
of-500-500-0 = deviation-unique 1024 3 500000 (lit≤ tt) 295603 (lit≤ tt) (lit< tt)

of-998-1071-900 : deviation 1024 3 44174 ≡ exactly 87863 1
of-998-1071-900 = deviation-unique 1024 3 44174 (lit≤ tt) 87863 (lit≤ tt) (lit< tt)

-- a year in which C never rises, for one as no result is above its standard: the verdict comes from the rows after 7, 6 and 5
pub never-rising : (p : Progress) → p.declared ≡ false → never_rises (history Hcnox p.tested) ≡ true → never_rises (history Co p.tested) ≡ true
    → verdict 1024 p ≡ first (drop 3 (verdict_rows 1024 p)) 1
unfolding verdict
never-rising p undeclared hcnox co =
    simp (undeclared, never-failed 1024 (history Hcnox p.tested) hcnox, never-failed 1024 (history Co p.tested) co, never-undecided 1024 (history Hcnox p.tested) hcnox, never-undecided 1024 (history Co p.tested) co)

pub cases-of-verdict : CasesOfVerdict
unfolding nearest_even variation t95 sample_size size_reached compared failed undecided periods needs verdict
cases-of-verdict =
    record {
      declared_failed = refl;
      declared_short = refl;
      co_failed = simp deviation-none;
      co_undecided = simp ((statistics.cases).deviation_at_1024, (statistics.cases).deviation_of_three, deviation-none);
      over_by_turns = simp (of-500-500-0, of-216-329, of-216-329-232, deviation-none);
      undecided_by_turns = simp ((statistics.cases).deviation_at_1024, of-998-1071-900, of-216-329, of-216-329-232);
      failed_and_undecided = simp ((statistics.cases).deviation_at_1024, (statistics.cases).deviation_of_three, deviation-none);
      undecided_and_failed = simp ((statistics.cases).deviation_at_1024, (statistics.cases).deviation_of_three, deviation-none);
      undecided_short = simp ((statistics.cases).deviation_at_1024, (statistics.cases).deviation_of_three, deviation-none);
      reached = simp deviation-none;
      reached_short = simp deviation-none;
      reached_again = simp deviation-none;
      co_without_size = simp deviation-none;
      reached_at_thirty = never-rising (replay (setup_of 3000 1000) (engines_to 30)) refl refl refl ∙ refl;
      thirty = never-rising (replay (setup_of 3000 800) (engines_to 30)) refl refl refl ∙ refl;
      twenty_nine = never-rising (replay (setup_of 3000 800) (engines_to 29)) refl refl refl ∙ refl;
      thirty_one = never-rising (replay (setup_of 5000 800) (engines_to 31)) refl refl refl ∙ refl;
      twenty_nine_of_2900 = never-rising (replay (setup_of 2900 800) (engines_to 29)) refl refl refl ∙ refl;
      thirty_in_two_periods = never-rising (replay (setup_of 5000 800) (engine 30 800 ∷ NextPeriod ∷ engines_to 29)) refl refl refl ∙ refl;
      sixteen_in_two_periods = never-rising (replay (setup_of 1600 800) (engine 16 800 ∷ NextPeriod ∷ engines_to 15)) refl refl refl ∙ refl;
      two_of_250 = simp deviation-none;
      two_of_251 = simp deviation-none;
      one_percent_of_50 = refl;
      two_of_50 = simp deviation-none;
      one_of_50 = refl;
    }

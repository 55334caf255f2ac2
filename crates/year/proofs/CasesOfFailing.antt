-- The cases on failing engines. Where C never rises, the law for such years serves; the other deviations are proved by theirs; the rest is computed.
use mathlib.Core.Path.{◌≡◌, refl, ◌∙◌}
use mathlib.Core.List.{List, [], ◌∷◌}
use lib.Dec.{lit<, lit≤}
use Rattle.rounding.specs.Result.{nearest_even}
use Rattle.statistics.specs.Spread.{variation, deviation}
use Rattle.statistics.specs.SampleSize.{t95, sample_size, size_reached}
use Rattle.statistics.specs.Cases.{exactly}
use Rattle.statistics.proofs.Deviations.{deviation-unique, deviation-none}
use Rattle.cumsum.specs.Marks.{compared, failed, undecided}
use Rattle.year.specs.declared.Event.{Event}
use Rattle.year.specs.declared.Event.TheVariants.{Deletion}
use Rattle.year.specs.Periods.{periods, needs}
use Rattle.year.specs.Replay.{replay}
use Rattle.year.specs.Verdict.{verdict}
use Rattle.year.specs.Cases.{setup_of, engine}
use Rattle.year.specs.CasesOfFailing.{failing_to, CasesOfFailing}
use Rattle.year.proofs.CasesOfVerdict.{never-rising}

of-800-801 : deviation 1024 2 1 ≡ exactly 724 1
of-800-801 = deviation-unique 1024 2 1 (lit≤ tt) 724 (lit≤ tt) (lit< tt)

-- engine 1 one above 800, and those after it at 800
abbrev first-fails : List Event
first-fails = engine 2 800 ∷ engine 1 801 ∷ []

pub cases-of-failing : CasesOfFailing
unfolding nearest_even variation t95 sample_size size_reached compared failed undecided periods needs verdict
cases-of-failing =
    record {
      at_standards = refl;
      hcnox_above = refl;
      co_above = refl;
      below = refl;
      two_at_standards = simp deviation-none;
      co_fails = simp deviation-none;
      hcnox_fails = simp deviation-none;
      co_fails_finer = simp deviation-none;
      second_passes = never-rising (replay (setup_of 149 800) first-fails) refl refl refl ∙ refl;
      first_passes = simp (of-800-801, deviation-none);
      one_of_two = never-rising (replay (setup_of 150 800) first-fails) refl refl refl ∙ refl;
      amended_down = simp deviation-none;
      amended_up = simp deviation-none;
      raised_between = simp (of-800-801, deviation-none);
      lowered_between = simp deviation-none;
      before_strike = never-rising (replay (setup_of 150 800) (engine 3 800 ∷ first-fails)) refl refl refl ∙ refl;
      struck = never-rising (replay (setup_of 150 800) (Deletion ∷ engine 3 800 ∷ first-fails)) refl refl refl ∙ refl;
      thirty_failing = never-rising (replay (setup_of 3000 800) (failing_to 30)) refl refl refl ∙ refl;
      twenty_nine_failing = never-rising (replay (setup_of 2900 800) (failing_to 29)) refl refl refl ∙ refl;
    }

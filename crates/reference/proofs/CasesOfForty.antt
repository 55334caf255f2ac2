-- The worked cases of refusal 14. Engines at their standards have not failed, by the law for their verdict; the rest is computed.
use mathlib.Core.Path.{◌≡◌, refl}
use mathlib.Core.Bool.{false}
use Rattle.rounding.specs.Result.{nearest_even}
use Rattle.statistics.specs.Spread.{variation}
use Rattle.statistics.specs.SampleSize.{size_reached}
use Rattle.year.specs.Periods.{needs}
use Rattle.year.specs.Replay.{Progress, replay}
use Rattle.year.specs.Verdict.{verdict}
use Rattle.year.specs.Admissible.{closed}
use Rattle.year.specs.Cases.{setup_of, engines_to}
use Rattle.year.proofs.CasesOfVerdict.{never-rising}
use Rattle.reference.specs.Refusals.{refusals, refusal}
use Rattle.reference.specs.CasesOfForty.{CasesOfForty}

-- a year with verdict 3 still takes events
pub open-at-3 : (p : Progress) → verdict 1024 p ≡ 3 → closed p ≡ false
unfolding closed
open-at-3 p three = rw three

pub cases-of-forty : CasesOfForty
unfolding refusals refusal nearest_even variation size_reached needs
cases-of-forty =
    record {
      engine_of_41 = rw (open-at-3 (replay (setup_of 5000 800) (engines_to 40)) (never-rising (replay (setup_of 5000 800) (engines_to 40)) refl refl refl));
      engine_of_40 = rw (open-at-3 (replay (setup_of 5000 800) (engines_to 39)) (never-rising (replay (setup_of 5000 800) (engines_to 39)) refl refl refl));
    }

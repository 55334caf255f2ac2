-- Which events could have been entered, and in which order (document 01, "The book", with the ranges of "From reading to result" and the conditions of
-- its refusals 5, 8, 9, 10, 11, 13, 14 and 15, and of 17 in document 02). "each result from 0 to 20,000 being allowed, whether or not some reading yields it"
use Rattle.std.specs.Prelude.{Bool, true, not, ◌&&◌, ◌||◌, List, [], ◌∷◌, ℕ, eqb, leb, length}
use Rattle.conditions.specs.Ranges.{within}
use Rattle.rounding.specs.Result.{count_in_range, result_in_range}
use Rattle.year.specs.declared.Pair.{Pair}
use Rattle.year.specs.declared.Setup.{Setup}
use Rattle.year.specs.declared.Event.{Event}
use Rattle.year.specs.declared.Event.TheVariants.{Engine, Amendment, NextPeriod, Declaration, Deletion}
use Rattle.year.specs.Setup.{of, both, standards_in_range, setup_in_range}
use Rattle.year.specs.Periods.{periods}
use Rattle.year.specs.Replay.{Progress, replay, short, is_tested, newest_in}
use Rattle.year.specs.Verdict.{verdict}

-- "The verdict is 6 or 7": the calculator's, at resolution 1,024
unfoldable pub closed : Progress → Bool
closed p = eqb (verdict 1024 p) 6 || eqb (verdict 1024 p) 7

-- "64 events are stored", "Forty engines are stored"; there are never more
abbrev pub events_full : Progress → Bool
events_full p = leb 64 p.stored

abbrev pub engines_full : Progress → Bool
engines_full p = leb 40 (length p.tested)

-- an engine number is from 1 to 65,535
abbrev pub number_in_range : ℕ → Bool
number_in_range = within 1 65535

abbrev pub results_in_range : Pair ℕ → Bool
results_in_range results = both (λ q. result_in_range (of q results))

-- the current period is the last
abbrev pub last_period : Progress → Bool
last_period p = leb (periods p.setup.volume p.setup.days) p.period

-- the conditions that depend on the event's kind
abbrev pub fits : Progress → Event → Bool
fits p (Engine number readings results) =
    number_in_range number && not (is_tested number p.tested) && count_in_range readings && results_in_range results && not (engines_full p)
fits p (Amendment standards) = standards_in_range standards
fits p NextPeriod = not (last_period p || short p)
fits p Declaration = true
-- "provided that engine was entered in the current period" (document 02, W-201)
fits p Deletion = newest_in p.period p.tested

-- the event could be entered now
unfoldable pub admissible : Progress → Event → Bool
admissible p e = not (closed p) && not (events_full p) && fits p e

-- the setup is in range, and each event could be entered after those before it
abbrev pub valid : Setup → List Event → Bool
valid s [] = setup_in_range s
valid s (e ∷ es) = valid s es && admissible (replay s es) e

-- Document 01, "Verdict": the order of the rows, where two apply at once or the next one only just does not. Events are listed with the newest first.
use Rattle.std.specs.Prelude.{◌≡◌, List, [], ◌∷◌, ℕ}
use Rattle.year.specs.declared.Pair.{Pair}
use Rattle.year.specs.declared.Event.{Event}
use Rattle.year.specs.declared.Event.TheVariants.{Engine, NextPeriod, Declaration}
use Rattle.year.specs.Replay.{replay}
use Rattle.year.specs.Verdict.{verdict, one_percent}
use Rattle.year.specs.Cases.{pair, setup_under, setup_of, engine, engines_to, three}

-- three engines, given by one pollutant's results. Under T 800, X 998, 1,071, 926 has marks "-?O"; under T 100, X 500 three times has "-OO"
abbrev three_with : (first second third : ℕ) → (ℕ → ℕ → Event) → List Event
three_with first second third event = event 3 third ∷ event 2 second ∷ event 1 first ∷ []

-- an engine with this CO result; under an HC+NOx standard of 800 its HC+NOx marks are "-UU"
abbrev co_only : ℕ → ℕ → Event
co_only number result = Engine number 1 (pair 800 result)

-- three engines, given by both pollutants' results
abbrev three_pairs : (first second third : Pair ℕ) → List Event
three_pairs first second third = Engine 3 1 third ∷ Engine 2 1 second ∷ Engine 1 1 first ∷ []

pub record CasesOfVerdict : Type 0 where
  -- 7 before 6: a declared year has verdict 7 even if it has failed; and 7 before 0
  pub declared_failed : verdict 1024 (replay (setup_of 5000 100) (Declaration ∷ three)) ≡ 7
  pub declared_short : verdict 1024 (replay (setup_of 5000 800) (Declaration ∷ [])) ≡ 7
  -- "6, failed: one pollutant", "5, unsettled: one pollutant": CO alone
  pub co_failed : verdict 1024 (replay (setup_under 5000 (pair 800 100)) (three_with 500 500 500 co_only)) ≡ 6
  pub co_undecided : verdict 1024 (replay (setup_under 5000 (pair 800 800)) (three_with 998 1071 926 co_only)) ≡ 5
  -- both marks must be one pollutant's, not one of each: HC+NOx has "-OU" and CO "-UO"; HC+NOx has "-?U" and CO "-U?"
  pub over_by_turns : verdict 1024 (replay (setup_under 5000 (pair 100 100)) (three_pairs (pair 500 216) (pair 500 329) (pair 0 232))) ≡ 1
  pub undecided_by_turns : verdict 1024 (replay (setup_under 5000 (pair 800 110)) (three_pairs (pair 998 216) (pair 1071 329) (pair 900 232))) ≡ 1
  -- 6 before 5: HC+NOx has failed, and CO is undecided; and the other way round
  pub failed_and_undecided : verdict 1024 (replay (setup_under 5000 (pair 100 800)) (three_with 998 1071 926 (λ (number result : ℕ). Engine number 1 (pair 500 result)))) ≡ 6
  pub undecided_and_failed : verdict 1024 (replay (setup_under 5000 (pair 800 100)) (three_with 998 1071 926 (λ (number result : ℕ). Engine number 1 (pair result 500)))) ≡ 6
  -- 5 before 0: a year that is undecided stays so in a new period
  pub undecided_short : verdict 1024 (replay (setup_of 5000 800) (NextPeriod ∷ three_with 998 1071 926 engine)) ≡ 5
  -- 0 before 2: N was reached in the first period, and a new period begins; once that has its engine, N is reached again
  pub reached : verdict 1024 (replay (setup_of 5000 1000) (engines_to 2)) ≡ 2
  pub reached_short : verdict 1024 (replay (setup_of 5000 1000) (NextPeriod ∷ engines_to 2)) ≡ 0
  pub reached_again : verdict 1024 (replay (setup_of 5000 1000) (engine 3 800 ∷ NextPeriod ∷ engines_to 2)) ≡ 2
  -- "2: for both pollutants": CO at its standard has no N
  pub co_without_size : verdict 1024 (replay (setup_under 5000 (pair 1000 5000)) (engines_to 2)) ≡ 1
  -- 2 before 3 and 4: thirty engines, one percent of 3,000, N reached
  pub reached_at_thirty : verdict 1024 (replay (setup_of 3000 1000) (engines_to 30)) ≡ 2
  -- 3 before 4: thirty engines, one percent of 3,000, and no N; 29 engines meet neither; 29 are one percent of 2,900
  pub thirty : verdict 1024 (replay (setup_of 3000 800) (engines_to 30)) ≡ 3
  pub twenty_nine : verdict 1024 (replay (setup_of 3000 800) (engines_to 29)) ≡ 1
  pub thirty_one : verdict 1024 (replay (setup_of 5000 800) (engines_to 31)) ≡ 3
  pub twenty_nine_of_2900 : verdict 1024 (replay (setup_of 2900 800) (engines_to 29)) ≡ 4
  -- "all engines in the book count", not those of the current period alone: thirty, and one percent of 1,600
  pub thirty_in_two_periods : verdict 1024 (replay (setup_of 5000 800) (engine 30 800 ∷ NextPeriod ∷ engines_to 29)) ≡ 3
  pub sixteen_in_two_periods : verdict 1024 (replay (setup_of 1600 800) (engine 16 800 ∷ NextPeriod ∷ engines_to 15)) ≡ 4
  -- "n is at least one percent of P": two engines are enough for P 250, but not for P 251, whose one percent is 3
  pub two_of_250 : verdict 1024 (replay (setup_of 250 800) (engines_to 2)) ≡ 4
  pub two_of_251 : verdict 1024 (replay (setup_of 251 800) (engines_to 2)) ≡ 1
  -- one percent of 50 is 0, which two engines exceed; the first period needs two all the same
  pub one_percent_of_50 : one_percent 50 ≡ 0
  pub two_of_50 : verdict 1024 (replay (setup_of 50 800) (engines_to 2)) ≡ 4
  pub one_of_50 : verdict 1024 (replay (setup_of 50 800) (engines_to 1)) ≡ 0

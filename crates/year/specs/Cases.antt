-- Worked cases of a year besides document 01's starred ones: its two on one percent, its printed run, n = N, an amendment, and which events may follow which.
-- Events are listed with the newest first.
use Rattle.std.specs.Prelude.{◌≡◌, true, false, List, [], ◌∷◌, ℕ, zero, suc, Some, None}
use Rattle.rounding.specs.Cases.{no_factor}
use Rattle.cumsum.specs.declared.Mark.TheVariants.{Unmarked, Over, Under}
use Rattle.cumsum.specs.Cases.{interval}
use Rattle.year.specs.declared.Pair.{Pair}
use Rattle.year.specs.declared.Setup.{Setup}
use Rattle.year.specs.declared.Event.{Event}
use Rattle.year.specs.declared.Figures.{Figures}
use Rattle.year.specs.declared.Event.TheVariants.{Engine, Amendment, NextPeriod, Declaration}
use Rattle.year.specs.Setup.{Hcnox, Co}
use Rattle.year.specs.Replay.{Progress, replay, history}
use Rattle.year.specs.Verdict.{verdict, one_percent}
use Rattle.year.specs.Admissible.{closed, valid}
use Rattle.year.specs.Status.{status, year_marks}
use Rattle.year.specs.Work.{at_engine, marks_at, verdict_at, cumsum_at, limit_at}

abbrev pub pair : ℕ → ℕ → Pair ℕ
pair hcnox co = record { hcnox = hcnox; co = co }

-- projected volume P over 365 days, the standards, and factors that change nothing
abbrev pub setup_under : ℕ → Pair ℕ → Setup
setup_under volume standards = record { volume = volume; days = 365; standards = standards; factors = record { hcnox = no_factor; co = no_factor } }

-- the same with this HC+NOx standard, and 6,100 for CO
abbrev pub setup_of : ℕ → ℕ → Setup
setup_of volume standard = setup_under volume (pair standard 6100)

-- an engine with one reading per pollutant and CO result 5,000
abbrev pub engine : ℕ → ℕ → Event
engine number result = Engine number 1 (pair result 5000)

-- engines 1 to n, each with result 800
abbrev pub engines_to : ℕ → List Event
engines_to zero = []
engines_to (suc n) = engine (suc n) 800 ∷ engines_to n

-- figures that are all zero except S, with no N and mark '-'
abbrev pub only_sum : ℕ → Figures
only_sum sum =
    record {
      sum = sum;
      deviation = record { floor = 0; inexact = 0 };
      cumsum = record { low = 0; high = 0 };
      limit = record { low = 0; high = 0 };
      size = None;
      mark = Unmarked;
    }

-- T 800, X 998 then 1,071, P 5,000
abbrev pub two : Progress
two = replay (setup_of 5000 800) (engine 2 1071 ∷ engine 1 998 ∷ [])

-- T 100, X 500 three times
abbrev pub three : List Event
three = engine 3 500 ∷ engine 2 500 ∷ engine 1 500 ∷ []

-- T 1,000, the same X twice, with this P, and with P 1,500
abbrev pub two_of : ℕ → ℕ → Progress
two_of volume result = replay (setup_of volume 1000) (engine 2 result ∷ engine 1 result ∷ [])

abbrev pub twice : ℕ → Progress
twice = two_of 1500

pub record Cases : Type 0 where
  -- One percent of 250 is 2, of 350 is 4
  pub one_percent_of_250 : one_percent 250 ≡ 2
  pub one_percent_of_350 : one_percent 350 ≡ 4
  -- T 100, X 500 three times: two marks per engine, HC+NOx then CO
  pub printed_of_three : year_marks 1024 (replay (setup_of 5000 100) three) ≡ Unmarked ∷ Unmarked ∷ Over ∷ Under ∷ Over ∷ Under ∷ []
  -- the printed run: short with no engine and with one, continue with two, declared
  pub verdict_of_none : verdict 1024 (replay (setup_of 5000 800) []) ≡ 0
  pub verdict_of_one : verdict 1024 (replay (setup_of 5000 800) (engine 1 998 ∷ [])) ≡ 0
  pub verdict_of_two : verdict 1024 two ≡ 1
  pub verdict_declared : verdict 1024 (replay (setup_of 5000 800) (Declaration ∷ engine 2 1071 ∷ engine 1 998 ∷ [])) ≡ 7
  -- T 800, X 998, 1,071, 926: marks '-', '?', 'O' give verdict 5. Work at m = 8 settles the '?' as 'O', and the year has failed
  pub verdict_undecided : verdict 1024 (replay (setup_of 5000 800) (engine 3 926 ∷ engine 2 1071 ∷ engine 1 998 ∷ [])) ≡ 5
  pub verdict_settled : verdict_at 8 (replay (setup_of 5000 800) (engine 3 926 ∷ engine 2 1071 ∷ engine 1 998 ∷ [])) ≡ 6
  -- work at m = 8 on the first two engines: s 422,861, e 1
  pub marks_at_8 : marks_at 8 two ≡ Unmarked ∷ Unmarked ∷ Over ∷ Under ∷ []
  pub cumsum_at_8 : cumsum_at 8 two 2 Hcnox ≡ interval 8457266 8457267
  pub limit_at_8 : limit_at 8 two 2 Hcnox ≡ interval 8457220 8457240
  -- the year as it was at engine 1, and at engine 2 for CO
  pub at_engine_1 : at_engine 1 Hcnox two ≡ record { result = 998; standard = 800 } ∷ []
  pub at_engine_2 : at_engine 2 Co (replay (setup_of 5000 800) (Engine 3 1 (pair 3 33) ∷ Engine 2 1 (pair 2 22) ∷ Engine 1 1 (pair 1 11) ∷ []))
      ≡ record { result = 22; standard = 6100 } ∷ record { result = 11; standard = 6100 } ∷ []
  -- n = N is no stop: standard 100, results 23, 23, 83, 83, N is exactly 4
  pub verdict_at_n : verdict 1024 (replay (setup_of 5000 100) (engine 4 83 ∷ engine 3 83 ∷ engine 2 23 ∷ engine 1 23 ∷ [])) ≡ 1
  -- one percent of 150 is 1.5, rounded to 2: with two engines, verdict 4
  pub verdict_at_one_percent : verdict 1024 (replay (setup_of 150 1000) (engine 2 1000 ∷ engine 1 1000 ∷ [])) ≡ 4
  -- a new period is short again
  pub verdict_of_new_period : verdict 1024 (replay (setup_of 5000 1000) (NextPeriod ∷ engine 2 1000 ∷ engine 1 1000 ∷ [])) ≡ 0
  -- an amendment to 10 does not affect two engines entered under 1,000: verdict 2 stays, and N stays 1
  pub verdict_amended : verdict 1024 (replay (setup_of 1500 1000) (Amendment (pair 10 10) ∷ engine 2 800 ∷ engine 1 800 ∷ [])) ≡ 2
  pub size_amended : (status 1024 (replay (setup_of 1500 1000) (Amendment (pair 10 10) ∷ engine 2 800 ∷ engine 1 800 ∷ []))).figures.hcnox.size ≡ Some 10
  -- and it sets T for the engine after it
  pub tests_amended : history Hcnox (replay (setup_of 5000 800) (engine 2 900 ∷ Amendment (pair 700 6100) ∷ engine 1 998 ∷ [])).tested
      ≡ record { result = 900; standard = 700 } ∷ record { result = 998; standard = 800 } ∷ []
  pub co_tests_amended : history Co (replay (setup_of 5000 800) (engine 2 900 ∷ Amendment (pair 700 6000) ∷ engine 1 998 ∷ [])).tested
      ≡ record { result = 5000; standard = 6000 } ∷ record { result = 5000; standard = 6100 } ∷ []
  -- each pollutant has its own N: with X 1,000 twice there is none for HC+NOx, and 1 for CO
  pub size_of_co : (status 1024 (twice 1000)).figures.co.size ≡ Some 10
  -- "Before engine 2 the figures other than n, S and verdict are zero and N is absent; with no engine the mark is '-'": with one engine, and with none
  pub status_of_one : status 1024 (replay (setup_of 5000 800) (engine 1 998 ∷ [])) ≡ record { n = 1; verdict = 0; figures = record { hcnox = only_sum 998; co = only_sum 5000 } }
  pub status_of_none : status 1024 (replay (setup_of 5000 800) []) ≡ record { n = 0; verdict = 0; figures = record { hcnox = only_sum 0; co = only_sum 0 } }
  -- n counts engines, not events
  pub n_amended : (status 1024 (replay (setup_of 5000 800) (Amendment (pair 700 6100) ∷ engine 1 998 ∷ []))).n ≡ 1
  -- "The verdict is 6 or 7" is tested at 1,024. T 10, X 2,367, 3,236, 1,499: marks '-', '?', 'O' there, so the year is open; at 1,023 and at 1,025 they would
  -- be '-', 'O', 'O'
  pub open_at_1024 : closed (replay (setup_of 5000 10) (engine 3 1499 ∷ engine 2 3236 ∷ engine 1 2367 ∷ [])) ≡ false
  -- nothing follows a declaration or a failure, no number occurs twice, and no period follows a short one
  pub declared_is_closed : valid (setup_of 5000 800) (engine 1 998 ∷ Declaration ∷ []) ≡ false
  pub failed_is_closed : valid (setup_of 5000 100) (NextPeriod ∷ three) ≡ false
  pub three_is_valid : valid (setup_of 5000 100) three ≡ true
  pub number_twice : valid (setup_of 5000 1000) (engine 1 900 ∷ engine 1 800 ∷ []) ≡ false
  pub number_of_older : valid (setup_of 5000 1000) (engine 1 900 ∷ engine 2 800 ∷ engine 1 800 ∷ []) ≡ false
  pub short_period : valid (setup_of 5000 1000) (NextPeriod ∷ engine 1 800 ∷ []) ≡ false

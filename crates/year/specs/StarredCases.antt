-- All the starred cases of document 01, "Cases on the edges", in its order, as one statement about the definitions; beside them the two of document 02, W-204.
-- Events are listed with the newest first.
use Rattle.std.specs.Prelude.{◌≡◌, [], ◌∷◌, reverse, ◌*◌, Some, None}
use Rattle.rounding.specs.Result.{rounded, mean, factored}
use Rattle.rounding.specs.Cases.{multiplied}
use Rattle.statistics.specs.Cases.{exactly}
use Rattle.cumsum.specs.declared.Mark.TheVariants.{Unmarked, Over, Under, Undecided}
use Rattle.cumsum.specs.Cases.{interval}
use Rattle.cumsum.specs.Marks.{marks}
use Rattle.year.specs.Setup.{Hcnox}
use Rattle.year.specs.Periods.{periods}
use Rattle.year.specs.Replay.{replay, history}
use Rattle.year.specs.Verdict.{verdict}
use Rattle.year.specs.Status.{status}
use Rattle.year.specs.Cases.{setup_of, two, three, two_of, twice}

pub record StarredCases : Type 0 where
  -- * 1,000,500 rounds to 1,000; * 1,001,500 to 1,002; * mean of 800 and 801 is 800; * 50 under factor 1,050 of kind 1 is 52
  pub rounds1000500 : rounded 1000500 ≡ 1000
  pub rounds1001500 : rounded 1001500 ≡ 1002
  pub mean_of_800_and_801 : mean (800 ∷ 801 ∷ []) ≡ 800
  pub fifty_under_1050 : factored (multiplied 1050) 50 ≡ 52
  -- * P 1,599, D 365: one period. P 1,600: * D 120 one, * 121 two, * 300 three, * 301 four
  pub periods_of_1599_and_365 : periods 1599 365 ≡ 1
  pub periods_of_1600_and_120 : periods 1600 120 ≡ 1
  pub periods_of_1600_and_121 : periods 1600 121 ≡ 2
  pub periods_of_1600_and_300 : periods 1600 300 ≡ 3
  pub periods_of_1600_and_301 : periods 1600 301 ≡ 4
  -- * T 800, X 998 then 1,071: s 52,857, e 1, C 1,057,158 to 1,057,159, H 1,057,140 to 1,057,160, mark '?'. * At m = 8 it is 'O'
  pub deviation_of_two : (status 1024 two).figures.hcnox.deviation ≡ exactly 52857 1
  pub cumsum_of_two : (status 1024 two).figures.hcnox.cumsum ≡ interval 1057158 1057159
  pub limit_of_two : (status 1024 two).figures.hcnox.limit ≡ interval 1057140 1057160
  pub mark_of_two : (status 1024 two).figures.hcnox.mark ≡ Undecided
  pub mark_of_two_at_8 : (status (1024 * 8) two).figures.hcnox.mark ≡ Over
  -- * T 100, X 500 three times: "-OO", failed
  pub marks_of_three : reverse (marks 1024 (history Hcnox (replay (setup_of 5000 100) three).tested)) ≡ Unmarked ∷ Over ∷ Over ∷ []
  pub three_failed : verdict 1024 (replay (setup_of 5000 100) three) ≡ 6
  -- * T 1,000, X 800 twice, CO 5,000 twice under 6,100, P 1,500: N is 1, verdict 2
  pub size_of_800 : (status 1024 (twice 800)).figures.hcnox.size ≡ Some 10
  pub size_of_800_co : (status 1024 (twice 800)).figures.co.size ≡ Some 10
  pub verdict_of_800 : verdict 1024 (twice 800) ≡ 2
  -- * With X 1,000 twice: no N, 'U', verdict 1
  pub size_of_1000 : (status 1024 (twice 1000)).figures.hcnox.size ≡ None
  pub mark_of_1000 : (status 1024 (twice 1000)).figures.hcnox.mark ≡ Under
  pub verdict_of_1000 : verdict 1024 (twice 1000) ≡ 1
  -- W-204, "a case for each goes beside the starred ones": every engine fails (T 1,000, X 1,001 twice). One percent of 51 is 1, and of 50 it is 0
  pub failing_of_51 : verdict 1024 (two_of 51 1001) ≡ 1
  pub failing_of_50 : verdict 1024 (two_of 50 1001) ≡ 4

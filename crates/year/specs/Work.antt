-- Document 01, "Spread, brackets, marks": "Work at m takes k = 1,024 × m in all of this, and its marks in the verdict below". The calculator works at m = 1.
use Rattle.std.specs.Prelude.{List, ℕ, ◌*◌, ◌-◌, length, drop}
use Rattle.statistics.specs.declared.Test.{Test}
use Rattle.cumsum.specs.declared.Interval.{Interval}
use Rattle.cumsum.specs.declared.Mark.{Mark}
use Rattle.cumsum.specs.Intervals.{cumsum, action_limit}
use Rattle.year.specs.Setup.{Pollutant}
use Rattle.year.specs.Replay.{Progress, history}
use Rattle.year.specs.Verdict.{verdict}
use Rattle.year.specs.Status.{year_marks}

-- the first n engines of a year for one pollutant: the year as it was at engine n
abbrev pub at_engine : ℕ → Pollutant → Progress → List Test
at_engine n q p = history q (drop (length p.tested - n) p.tested)

module _ (m : ℕ) (p : Progress) where
  -- the marks, in the order in which they are printed
  abbrev pub marks_at : List Mark
  marks_at = year_marks (1024 * m) p

  abbrev pub verdict_at : ℕ
  verdict_at = verdict (1024 * m) p

  -- the intervals ("brackets") of CumSum and of the action limit at engine n
  abbrev pub cumsum_at : ℕ → Pollutant → Interval
  cumsum_at n q = cumsum (1024 * m) (at_engine n q p)

  abbrev pub limit_at : ℕ → Pollutant → Interval
  limit_at n q = action_limit (1024 * m) (at_engine n q p)

-- What the lines of a page show, as they are noted event by event while a journal is scanned.
use Rattle.std.specs.Prelude.{◌≡◌, List, [], ◌∷◌, ◌++◌}
use Rattle.year.specs.declared.Tested.{Tested}
use Rattle.year.specs.declared.Event.{Event}
use Rattle.year.specs.Replay.{Progress, after}
use Rattle.report.specs.declared.Row.{Row}
use Rattle.report.specs.Report.{row_of}

-- of each engine, in the order of entry
abbrev pub report_rows : List Tested → List Row
report_rows [] = []
report_rows (x ∷ earlier) = report_rows earlier ++ row_of x earlier ∷ []

-- rows are those of a year, which has become this one by an event
pub record Noting (rows : List Row) (e : Event) (p : Progress) : Type 0 where
  pub year : Progress
  pub noted : rows ≡ report_rows year.tested
  pub step : p ≡ after e year

-- The result of scanning a buffer: the progress of the year that it is read as, if it is an accepted journal.
use Rattle.std.specs.Prelude.{◌≡◌, true, cond, ◌&&◌, List, ℕ, Option, Some, None}
use Rattle.year.specs.Setup.{setup_in_range}
use Rattle.year.specs.Replay.{Progress, replay}
use Rattle.year.specs.Model.{Model, NoSetup, Year}
use Rattle.journal.specs.Read.{setup_in, events_in}
use Rattle.journal.specs.Acceptance.{enters_up_to}

-- the progress of the year, and none if there is no year
abbrev pub year_of : Model → Option Progress
year_of NoSetup = None
year_of (Year setup events) = Some (replay setup events)

-- the setup and the events of the first slots, if they could have been entered in that order
unfoldable pub entered : List ℕ → ℕ → Model
entered journal count = cond (setup_in_range (setup_in journal) && enters_up_to journal count) (Year (setup_in journal) (events_in journal count)) NoSetup

-- the setup is in range, the first slots were entered, and this is the year of their events
pub record Entered (journal : List ℕ) (j : ℕ) (p : Progress) : Type 0 where
  pub setup : setup_in_range (setup_in journal) ≡ true
  pub enters : enters_up_to journal j ≡ true
  pub stands : p ≡ replay (setup_in journal) (events_in journal j)

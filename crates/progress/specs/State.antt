-- What the code's state represents in the definitions, and what it carries along from event to event.
use Rattle.std.specs.Prelude.{◌≡◌, true, List, ℕ}
use Rattle.statistics.specs.Ranges.{HistoryInRange}
use Rattle.year.specs.declared.Pair.{Pair}
use Rattle.year.specs.declared.Tested.{Tested}
use Rattle.year.specs.Setup.{Pollutant, Hcnox, Co, setup_in_range}
use Rattle.year.specs.Replay.{Progress, history, tested_in}
use Rattle.year.specs.Ranges.{InRange}
use Rattle.year.specs.Admissible.{admissible}
use Rattle.year.specs.declared.Event.{Event}
use Rattle.figures.specs.declared.Running.{Running}
use Rattle.figures.specs.Running.{running}
use Rattle.engines.specs.Engines.{tested}
use Rattle.progress.specs.declared.Progress.TheInside.{Inside}

-- the progress of the year that a state represents
abbrev pub progress_of : Inside → Progress
progress_of p =
    record {
      setup = p.setup;
      standards = p.standards;
      period = p.period;
      tested = tested p.engines;
      stored = p.stored;
      declared = p.declared;
    }

-- the figures of both pollutants are those of the tested engines at resolution k
pub record Figured (k : ℕ) (xs : List Tested) (f : Pair Running) : Type 0 where
  pub hcnox : f.hcnox ≡ running k (history Hcnox xs)
  pub co : f.co ≡ running k (history Co xs)

-- of every state: what it carries along agrees with its year (the number of engines in the current period, and the figures of both pollutants at resolution
-- 1,024), and the year is in range, as far as its setup is (a year may be started with any setup)
pub record Consistent (p : Inside) : Type 0 where
  pub current : p.current ≡ tested_in p.period (tested p.engines)
  pub figures : Figured 1024 (tested p.engines) p.figures
  pub histories : (q : Pollutant) → HistoryInRange 40 (history q (tested p.engines))
  pub in_range : setup_in_range p.setup ≡ true → InRange (progress_of p)

-- an event may be entered in a year: its setup is in range, and the event is admissible
pub record MayEnter (e : Event) (p : Progress) : Type 0 where
  pub setup : setup_in_range p.setup ≡ true
  pub admitted : admissible p e ≡ true

-- for a verdict from other figures: these are the year's at some resolution
pub record Judged (p : Progress) (f : Pair Running) : Type 0 where
  pub resolution : ℕ
  pub figures : Figured resolution p.tested f

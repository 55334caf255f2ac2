-- What a setup and its events amount to: every figure of document 01 is computed from this, and none looks at the events themselves.
-- Events and tested engines are listed with the newest first.
use Rattle.std.specs.Prelude.{Bool, true, false, cond, ◌||◌, List, [], ◌∷◌, ℕ, ◌+◌, eqb, ltb, drop}
use Rattle.statistics.specs.declared.Test.{Test}
use Rattle.year.specs.declared.Pair.{Pair}
use Rattle.year.specs.declared.Setup.{Setup}
use Rattle.year.specs.declared.Tested.{Tested}
use Rattle.year.specs.declared.Event.{Event}
use Rattle.year.specs.declared.Event.TheVariants.{Engine, Amendment, NextPeriod, Declaration, Deletion}
use Rattle.year.specs.Setup.{Pollutant, of}
use Rattle.year.specs.Periods.{needs}

-- the setup, the standards in force, the current period, the engines tested, how many events are stored, whether a declaration was made
pub record Progress : Type 0 where
  pub setup : Setup
  pub standards : Pair ℕ
  pub period : ℕ
  pub tested : List Tested
  pub stored : ℕ
  pub declared : Bool

-- a setup with no events
abbrev pub start : Setup → Progress
start s = record { setup = s; standards = s.standards; period = 1; tested = []; stored = 0; declared = false }

-- the effect of one more event, for each thing that events change. "An amendment .. sets T for later engines."
abbrev pub standards_after : Event → Pair ℕ → Pair ℕ
standards_after (Engine number readings results) in_force = in_force
standards_after (Amendment standards) in_force = standards
standards_after NextPeriod in_force = in_force
standards_after Declaration in_force = in_force
standards_after Deletion in_force = in_force

abbrev pub period_after : Event → ℕ → ℕ
period_after (Engine number readings results) period = period
period_after (Amendment standards) period = period
period_after NextPeriod period = period + 1
period_after Declaration period = period
period_after Deletion period = period

-- an engine is tested under the standards in force, in the current period; an amendment "alters no N, mark or verdict already worked"; a strike "removes the
-- newest engine still in the book" (document 02, W-201), and changes nothing else: standards in force, period and declaration stay
abbrev pub tested_after : Event → Progress → List Tested
tested_after (Engine number readings results) p = record { number = number; results = results; standards = p.standards; period = p.period } ∷ p.tested
tested_after (Amendment standards) p = p.tested
tested_after NextPeriod p = p.tested
tested_after Declaration p = p.tested
tested_after Deletion p = drop 1 p.tested

abbrev pub declared_after : Event → Bool → Bool
declared_after (Engine number readings results) declared = declared
declared_after (Amendment standards) declared = declared
declared_after NextPeriod declared = declared
declared_after Declaration declared = true
declared_after Deletion declared = declared

abbrev pub after : Event → Progress → Progress
after e p =
    record {
      setup = p.setup;
      standards = standards_after e p.standards;
      period = period_after e p.period;
      tested = tested_after e p;
      stored = p.stored + 1;
      declared = declared_after e p.declared;
    }

abbrev pub replay : Setup → List Event → Progress
replay s [] = start s
replay s (e ∷ es) = after e (replay s es)

-- the tested engines as one pollutant sees them
abbrev pub history : Pollutant → List Tested → List Test
history q [] = []
history q (x ∷ xs) = record { result = of q x.results; standard = of q x.standards } ∷ history q xs

-- how many engines were tested in a period
abbrev pub tested_in : ℕ → List Tested → ℕ
tested_in period [] = 0
tested_in period (x ∷ xs) = cond (eqb x.period period) 1 0 + tested_in period xs

-- whether the newest engine was tested in a period; false if there is no engine
abbrev pub newest_in : ℕ → List Tested → Bool
newest_in period [] = false
newest_in period (x ∷ xs) = eqb x.period period

-- "the current period lacks its engines"
abbrev pub short : Progress → Bool
short p = ltb (tested_in p.period p.tested) (needs p.period)

-- whether an engine with this number has been tested
abbrev pub is_tested : ℕ → List Tested → Bool
is_tested number [] = false
is_tested number (x ∷ xs) = eqb x.number number || is_tested number xs

-- Document 01, "The plain year of a list of calls": the state of the reference model ("plain year"), which is also what a stored journal is read as.
use Rattle.std.specs.Prelude.{Bool, true, false, List}
use Rattle.year.specs.declared.Setup.{Setup}
use Rattle.year.specs.declared.Event.{Event}
use Rattle.year.specs.Replay.{Progress, replay}

-- "Its state is first "no setup", later a setup and a list of events." The newest event comes first
pub data Model : Type 0 where
  NoSetup : Model
  Year : Setup → List Event → Model

abbrev pub no_setup : Model → Bool
no_setup NoSetup = true
no_setup (Year s es) = false

-- a test of a year; false if there is no setup
abbrev pub of_year : (Progress → Bool) → Model → Bool
of_year test NoSetup = false
of_year test (Year s es) = test (replay s es)

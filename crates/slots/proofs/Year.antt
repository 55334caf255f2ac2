-- The year that a buffer holds, by its setup and events.
use mathlib.Core.Path.{◌≡◌, refl}
use mathlib.Core.List.{List}
use native.Mathlib.Omega.{arith}
use Rattle.std.specs.Prelude.{Some}
use Rattle.year.specs.declared.Setup.{Setup}
use Rattle.year.specs.declared.Event.{Event}
use Rattle.year.specs.Replay.{Progress, replay}
use Rattle.year.specs.Model.{Model, NoSetup, Year}
use Rattle.slots.specs.Scanned.{year_of}

-- the model holds a year, and this is its progress
pub record StandsFor (p : Progress) (model : Model) : Type 0 where
  pub setup : Setup
  pub events : List Event
  pub holds : model ≡ Year setup events
  pub year : p ≡ replay setup events

pub stands : (model : Model) (p : Progress) → Some p ≡ year_of model → StandsFor p model
stands NoSetup p e = absurd (grind arith)
stands (Year s es) p e = record { setup = s; events = es; holds = refl; year = grind arith }

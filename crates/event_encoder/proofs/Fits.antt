-- An event that could have been entered fits the bytes that it is stored in.
use mathlib.Core.Path.{◌≡◌}
use mathlib.Core.Bool.{true}
use native.Mathlib.Omega.{arith}
use Rattle.year.specs.declared.Event.{Event}
use Rattle.year.specs.declared.Event.TheVariants.{Engine, Amendment, NextPeriod, Declaration, Deletion}
use Rattle.year.specs.Replay.{Progress}
use Rattle.year.specs.Admissible.{admissible}
use Rattle.year.proofs.Ranges.{admitted-engine}
use Rattle.event_encoder.specs.Fits.{EventFits}

pub event-fits : (p : Progress) (e : Event) → admissible p e ≡ true → EventFits e
event-fits p (Engine number readings results) h = omega (arith, (admitted-engine p number readings results h).readings)
event-fits p (Amendment standards) h = omega arith
event-fits p NextPeriod h = omega arith
event-fits p Declaration h = omega arith
event-fits p Deletion h = omega arith

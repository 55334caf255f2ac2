-- The readings of an engine, as the calls have them.
use Rattle.std.specs.Prelude.{List, ℕ}
use Rattle.std.specs.Borrow.{Bor}
use Rattle.year.specs.declared.Pair.{Pair}
use Rattle.reference.specs.Call.{Readings}

abbrev pub given : Pair (Bor (List ℕ)) → Readings
given readings = record { hcnox = readings.hcnox.now; co = readings.co.now }

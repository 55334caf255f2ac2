-- What writing a setup requires: each number stored in one byte fits in a byte.
use Rattle.std.specs.Prelude.{◌<◌}
use Rattle.year.specs.declared.Setup.{Setup}

pub record SetupFits (s : Setup) : Type 0 where
  pub hcnox : s.factors.hcnox.kind < 256
  pub co : s.factors.co.kind < 256

-- A setup in range fits the bytes that it is stored in.
use mathlib.Core.Path.{◌≡◌}
use mathlib.Core.Bool.{true}
use native.Mathlib.Omega.{arith}
use Rattle.year.specs.declared.Setup.{Setup}
use Rattle.year.specs.Setup.{Hcnox, Co, setup_in_range}
use Rattle.year.proofs.Setups.{bounded}
use Rattle.setup_encoder.specs.Fits.{SetupFits}

pub setup-fits : (s : Setup) → setup_in_range s ≡ true → SetupFits s
setup-fits s h =
    let b = bounded s h in
    record { hcnox = omega (arith, (b.factors Hcnox).0); co = omega (arith, (b.factors Co).0) }

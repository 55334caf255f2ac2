-- Every history of up to 40 engines in range meets the range conditions of a deviation.
use mathlib.Core.List.{List}
use Prim.Native.Nat.{ℕ, ◌≤◌}
use lib.ListN.{length}
use Rattle.statistics.specs.Spread.{variation}
use Rattle.statistics.specs.declared.Test.{Test}
use Rattle.statistics.specs.Ranges.{HistoryInRange}
use Rattle.statistics.proofs.Bounds.{variation-le}
use Rattle.spread.specs.Ranges.{DeviationInRange}

pub deviation-in-range : (h : List Test) → HistoryInRange 40 h → (k : ℕ) → k ≤ 8192 → 2 ≤ length h → DeviationInRange k (length h) (variation h)
deviation-in-range h r k fine two = record { fine = fine; two = two; few = r.few; variation = variation-le h r.tests }

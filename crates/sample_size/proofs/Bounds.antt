-- Every history of up to 40 engines in range meets the range conditions of a sample size.
use mathlib.Core.List.{List}
use Prim.Native.Nat.{ℕ, ◌≤◌}
use lib.ListN.{length}
use Rattle.statistics.specs.Spread.{total, variation}
use Rattle.statistics.specs.declared.Test.{Test}
use Rattle.statistics.specs.Ranges.{HistoryInRange}
use Rattle.statistics.proofs.Bounds.{total-le, variation-le}
use Rattle.sample_size.specs.Ranges.{SizeInRange}

pub size-in-range : (h : List Test) → HistoryInRange 40 h → (t : ℕ) → t ≤ 20000 → SizeInRange (length h) (total h) t (variation h)
size-in-range h r t le = record { few = r.few; total = total-le h r.tests; standard = le; variation = variation-le h r.tests }

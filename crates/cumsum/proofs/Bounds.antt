-- C is at most what a result of 20,000 at every engine would add.
use mathlib.Core.List.{List, [], ◌∷◌}
use Prim.Native.Nat.{ℕ, ◌*◌, ◌≤◌}
use native.Mathlib.Nat.{mul-le-mul_left}
use native.Mathlib.Omega.{arith}
use lib.ListN.{length}
use Rattle.statistics.specs.declared.Test.{Test}
use Rattle.statistics.specs.Ranges.{TestsInRange}
use Rattle.cumsum.specs.Intervals.{cumsum}

pub cumsum-le : (k : ℕ) (h : List Test) → TestsInRange h → (cumsum k h).high ≤ length h * (4 * k * 20000)
cumsum-le k [] r = omega arith
cumsum-le k (x ∷ []) r = omega arith
cumsum-le k (x ∷ y ∷ h) r = omega (arith, cumsum-le k (y ∷ h) r.2, mul-le-mul_left (4 * k) r.0)

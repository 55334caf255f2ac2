-- A guess near the root is above 0, and its first step has 32 binary digits.
use Prim.Native.Nat.{ℕ, ◌+◌, ◌*◌, ◌/◌, ◌^◌, ◌≤◌, ◌<◌}
use native.Mathlib.Nat.{lt_of_le_of_lt, mul-le-mul, mul-le-mul_left, div-lt_iff_lt-mul}
use native.Mathlib.Omega.{arith}
use lib.Dec.{lit<}
use Rattle.statistics.specs.Spread.{root}
use Rattle.statistics.proofs.Root.{side-lt, root-passes, root-most, root-next}
use Rattle.spread.specs.Start.{Near}

-- the root of a number of 62 binary digits has 31
pub root-fits : (x : ℕ) → x < 2 ^ 62 → root 1 x < 2 ^ 31
root-fits x fits = side-lt 1 (root 1 x) (2 ^ 31) (lt_of_le_of_lt (root-passes 1 x) (omega arith))

module _ (x g : ℕ) (some : 1 ≤ x) (fits : x < 2 ^ 62) (n : Near x g) where
  pub near_positive : 1 ≤ g
  near_positive = omega (arith, root-most 1 (lit< tt) x 1 (omega arith), n.not_below)

  square : 256 * x < (17 * g + 16) * (17 * g + 16)
  square =
      let l : 16 * (root 1 x + 1) ≤ 17 * g + 16 = omega (arith, n.not_above, n.not_below) in
      omega (arith, root-next 1 (lit< tt) x, mul-le-mul l l)

  quotient : x / g ≤ 2 * g + 2
  quotient =
      let l : x < (2 * g + 3) * g = omega (arith, square, near_positive, mul-le-mul_left g near_positive) in
      omega (arith, (div-lt_iff_lt-mul near_positive).1 l)

  pub step_fits : g + x / g < 2 ^ 33
  step_fits = omega (arith, quotient, n.not_above, root-fits x fits)

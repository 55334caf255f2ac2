-- The ranges that computing one end of a CumSum requires.
use Rattle.std.specs.Prelude.{ℕ, ◌≤◌}

-- for one end of a CumSum with one more engine: its previous value, the resolution, and what is subtracted besides 4k × T
pub record NextInRange (previous k w : ℕ) : Type 0 where
  pub before : previous ≤ 1099511627776
  pub fine : k ≤ 8192
  pub off : w ≤ 8589934592

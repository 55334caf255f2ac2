-- What `nearest_even` must satisfy (ASTM E29): "to the nearest, halves to the even neighbour". No other number satisfies it, by a law in proofs/.
use Rattle.std.specs.Prelude.{◌≡◌, ◌≢◌, ℕ, ◌*◌, ◌%◌, ◌≤◌}
use Rattle.conditions.specs.Ranges.{distance}

-- q is the whole number nearest to a / b, and even if another is equally near. Distances are scaled by b: b × p is b times as far from a as p is from a / b
pub record Nearest (a b q : ℕ) : Type 0 where
  pub nearest : (p : ℕ) → distance (b * q) a ≤ distance (b * p) a
  pub even : (p : ℕ) → p ≢ q → distance (b * p) a ≡ distance (b * q) a → q % 2 ≡ 0

-- The ranges that computing a sample size requires, met by every history in range (`proofs/Bounds.antt`).
use Rattle.std.specs.Prelude.{ℕ, ◌*◌, ◌≤◌}

-- for a sample size: n engines with their sum S, the newest standard T and the variation V
pub record SizeInRange (n sum t v : ℕ) : Type 0 where
  pub few : n ≤ 40
  pub total : sum ≤ n * 20000
  pub standard : t ≤ 20000
  pub variation : v ≤ n * n * 100000000

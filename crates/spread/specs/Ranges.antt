-- The ranges that the code of this crate requires. Every history in range meets those of a deviation (`proofs/Bounds.antt`), and the figures of every history
-- of at most 39 engines in range meet those of adding an engine (`sums-in-range` of the crate figures).
use Rattle.std.specs.Prelude.{◌≡◌, List, ℕ, ◌*◌, ◌≤◌}
use Rattle.statistics.specs.declared.Test.{Test}
use Rattle.statistics.specs.Ranges.{HistoryInRange}
use Rattle.spread.specs.declared.Sums.{Sums}
use Rattle.spread.specs.Sums.{sums}

-- for adding an engine: the sums are those of some history of at most 39 engines in range
pub record SumsInRange (s : Sums) (x : ℕ) : Type 0 where
  pub history : List Test
  pub summed : s ≡ sums history
  pub in_range : HistoryInRange 39 history
  pub result : x ≤ 20000

-- for a deviation: a resolution k of at most 8 × 1,024, and i engines with their variation V
pub record DeviationInRange (k i v : ℕ) : Type 0 where
  pub fine : k ≤ 8192
  pub two : 2 ≤ i
  pub few : i ≤ 40
  pub variation : v ≤ i * i * 100000000

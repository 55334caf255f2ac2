-- What the tested engines in code represent in the definitions: the list of tested engines, the newest first.
use Rattle.std.specs.Prelude.{List, ℕ, ◌≤◌, ◌<◌, reverse}
use Rattle.arrayvec.specs.ArrayVec.{ArrayVec, array_vec_len}
use Rattle.statistics.specs.Ranges.{HistoryInRange}
use Rattle.year.specs.declared.Pair.{Pair}
use Rattle.year.specs.declared.Tested.{Tested}
use Rattle.year.specs.Setup.{Pollutant, of}
use Rattle.year.specs.Replay.{history}

-- in order of entry
abbrev pub Engines : Type 0
Engines = ArrayVec Tested

abbrev pub tested : Engines → List Tested
tested e = reverse e.items

-- for adding an engine: there is room, and each number is in its range
pub record EngineInRange (e : Engines) (n : ℕ) (xs ts : Pair ℕ) (d : ℕ) : Type 0 where
  pub place : array_vec_len e < 40
  pub number : n ≤ 65535
  pub results : (q : Pollutant) → of q xs ≤ 20000
  pub standards : (q : Pollutant) → of q ts ≤ 20000
  pub period : d ≤ 4

-- for figures and marks computed from the engines: at most 40 in range, at a resolution of at most 8 × 1,024
pub record EnginesInRange (e : Engines) (k : ℕ) : Type 0 where
  pub histories : (q : Pollutant) → HistoryInRange 40 (history q (tested e))
  pub fine : k ≤ 8192

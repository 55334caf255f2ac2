-- The ranges of a year, met by every list of events that could have been entered (`valid-in-range` in proofs/Ranges.antt). The code relies on them.
use Rattle.std.specs.Prelude.{◌≡◌, true, List, [], ◌∷◌, ℕ, ◌≤◌}
use Rattle.statistics.specs.Ranges.{HistoryInRange}
use Rattle.year.specs.Setup.{Pollutant, standards_in_range, setup_in_range}
use Rattle.year.specs.Replay.{Progress, history}
use Rattle.year.specs.declared.Tested.{Tested}

-- no engine belongs to a later period
abbrev pub PeriodsUpTo : ℕ → List Tested → Type 0
PeriodsUpTo period [] = Unit {0}
PeriodsUpTo period (x ∷ xs) = (x.period ≤ period) × PeriodsUpTo period xs

pub record InRange (p : Progress) : Type 0 where
  pub setup : setup_in_range p.setup ≡ true
  pub standards : standards_in_range p.standards ≡ true
  pub period : p.period ≤ 4
  pub periods : PeriodsUpTo p.period p.tested
  pub events : p.stored ≤ 64
  pub histories : (q : Pollutant) → HistoryInRange 40 (history q p.tested)

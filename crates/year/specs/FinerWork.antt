-- Demand 3 on the definitions: work at m, resolution 1,024 × m, compared with the calculator's at 1,024, for one year.
use Rattle.std.specs.Prelude.{◌≡◌, ◌≢◌, ℕ, ◌*◌, ◌-◌, ◌≤◌, length}
use Rattle.cumsum.specs.FinerWork.{Within, Width, MarksKept}
use Rattle.year.specs.Setup.{Pollutant}
use Rattle.year.specs.Replay.{Progress, history}
use Rattle.year.specs.Work.{at_engine, marks_at, verdict_at, cumsum_at, limit_at}

pub record FinerWork (m : ℕ) (p : Progress) : Type 0 where
  -- "the finer marks differ from the strip only where the strip has '?'. The two are equal exactly when the finer settles nothing that the calculator
  -- left open": fields as_many, others_kept, equal_exactly
  pub marks : MarksKept (marks_at 1 p) (marks_at m p)
  -- "The finer verdict differs only where the calculator's is 5"
  pub verdict_kept : verdict_at 1 p ≢ 5 → verdict_at m p ≡ verdict_at 1 p
  -- "On one scale, at every engine, each finer bracket of CumSum and action limit lies within the calculator's"; "Action limits are compared from engine 2 on"
  pub cumsum_within : (q : Pollutant) (n : ℕ) → 1 ≤ n → n ≤ length p.tested → Within 1024 (1024 * m) (cumsum_at 1 p n q) (cumsum_at m p n q)
  pub limit_within : (q : Pollutant) (n : ℕ) → 2 ≤ n → n ≤ length p.tested → Within 1024 (1024 * m) (limit_at 1 p n q) (limit_at m p n q)
  -- "whose widths are at most n − 1 and 20 units at engine n, a unit being 1/4,096 result unit"
  pub cumsum_width : (q : Pollutant) (n : ℕ) → 1 ≤ n → n ≤ length p.tested → Width (n - 1) (cumsum_at 1 p n q)
  pub limit_width : (q : Pollutant) (n : ℕ) → 2 ≤ n → n ≤ length p.tested → Width 20 (limit_at 1 p n q)
  -- at the newest engine, `at_engine` is the whole history
  pub newest : (q : Pollutant) → at_engine (length p.tested) q p ≡ history q p.tested

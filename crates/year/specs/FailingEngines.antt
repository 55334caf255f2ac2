-- Document 02, W-204, "Failing engines and the one percent": what it promises of a year, in work at every m.
use Rattle.std.specs.Prelude.{◌≡◌, ◌≢◌, false, ◌↔◌, ℕ, ◌≤◌, ◌<◌, length, All, count_by}
use Rattle.year.specs.declared.Pair.{Pair}
use Rattle.year.specs.declared.Tested.{Tested}
use Rattle.year.specs.declared.Event.TheVariants.{Amendment}
use Rattle.year.specs.Setup.{Pollutant, of}
use Rattle.year.specs.Replay.{Progress, after}
use Rattle.year.specs.Verdict.{one_percent, passes}
use Rattle.year.specs.Work.{verdict_at}

-- "an engine that fails an applicable standard": a result is above the standard that was in force when the engine was entered
abbrev pub Fails : Tested → Type 0
Fails x = (q : Pollutant) × (of q x.standards < of q x.results)

-- an engine passes, or it fails
pub record PassOrFail : Type 0 where
  pub fails : (x : Tested) → Fails x ↔ (passes x ≡ false)

pub record FailingEngines (m : ℕ) (p : Progress) : Type 0 where
  -- "Verdict 4 henceforth counts only engines with both results at or below the standards in force when entered."
  pub enough_pass : verdict_at m p ≡ 4 → one_percent p.setup.volume ≤ count_by passes p.tested
  -- "A year in which every engine fails must never show verdict 4 unless one percent rounds to 0"
  pub none_passes : All Fails p.tested → verdict_at m p ≡ 4 → one_percent p.setup.volume ≡ 0
  -- "Verdict 3 still counts every engine": with thirty, failing ones among them, it stands before 4 and 1
  pub thirty_tested : 30 ≤ length p.tested → (verdict_at m p ≢ 4) × (verdict_at m p ≢ 1)
  -- "in force when entered": a later amendment makes no engine pass or fail
  pub amended : (standards : Pair ℕ) → verdict_at m (after (Amendment standards) p) ≡ verdict_at m p

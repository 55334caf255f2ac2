-- Document 02, W-201, on the events of a year, listed with the newest first: "All figures become those the book had without that engine, and amendments since
-- are kept." A deletion is document 02's strike.
use Rattle.std.specs.Prelude.{◌≡◌, Bool, true, false, cond, ◌||◌, List, [], ◌∷◌, ℕ, length}
use Rattle.year.specs.declared.Setup.{Setup}
use Rattle.year.specs.declared.Event.{Event}
use Rattle.year.specs.declared.Event.TheVariants.{Engine, Amendment, NextPeriod, Declaration, Deletion}
use Rattle.year.specs.Replay.{Progress, replay}
use Rattle.year.specs.Admissible.{valid}
use Rattle.year.specs.Status.{status, year_marks}

abbrev pub is_engine : Event → Bool
is_engine (Engine number readings results) = true
is_engine (Amendment standards) = false
is_engine NextPeriod = false
is_engine Declaration = false
is_engine Deletion = false

abbrev pub is_deletion : Event → Bool
is_deletion (Engine number readings results) = false
is_deletion (Amendment standards) = false
is_deletion NextPeriod = false
is_deletion Declaration = false
is_deletion Deletion = true

-- at least one of the events is a deletion
abbrev pub has_deletion : List Event → Bool
has_deletion [] = false
has_deletion (e ∷ es) = is_deletion e || has_deletion es

-- the events without the newest engine; all of them if there is no engine
abbrev pub without_newest : List Event → List Event
without_newest [] = []
without_newest (e ∷ es) = cond (is_engine e) es (e ∷ without_newest es)

-- the events without the deletions and the engines that they removed
abbrev pub remaining : List Event → List Event
remaining [] = []
remaining (e ∷ es) = cond (is_deletion e) (without_newest (remaining es)) (e ∷ remaining es)

-- the same year, with this number of events stored
abbrev pub storing : ℕ → Progress → Progress
storing n p = record { setup = p.setup; standards = p.standards; period = p.period; tested = p.tested; stored = n; declared = p.declared }

pub record Deletions (s : Setup) (es : List Event) : Type 0 where
  -- a year is the one of its remaining events, but for the slots in use: "event slots aren't given back"
  pub year : replay s es ≡ storing (length es) (replay s (remaining es))
  -- so every figure, mark and verdict is, at every resolution
  pub status : (k : ℕ) → status k (replay s es) ≡ status k (replay s (remaining es))
  pub marks : (k : ℕ) → year_marks k (replay s es) ≡ year_marks k (replay s (remaining es))
  -- no deletion remains, and the remaining events could have been entered by themselves
  pub none : has_deletion (remaining es) ≡ false
  pub entered : valid s es ≡ true → valid s (remaining es) ≡ true

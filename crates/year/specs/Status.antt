-- Document 01, "The book": what status gives; and the marks of a year in the order in which they are printed.
use Rattle.std.specs.Prelude.{List, [], ◌∷◌, ◌++◌, map, ℕ, length, Option, None}
use Rattle.statistics.specs.Spread.{total, deviation_of}
use Rattle.statistics.specs.declared.Test.{Test}
use Rattle.statistics.specs.SampleSize.{sample_size_of}
use Rattle.cumsum.specs.declared.Mark.{Mark}
use Rattle.cumsum.specs.declared.Mark.TheVariants.{Unmarked}
use Rattle.cumsum.specs.Intervals.{cumsum, action_limit}
use Rattle.cumsum.specs.Marks.{mark}
use Rattle.year.specs.declared.Figures.{Figures}
use Rattle.year.specs.declared.Status.{Status}
use Rattle.year.specs.Setup.{Pollutant, Hcnox, Co, judged}
use Rattle.year.specs.Replay.{Progress, history}
use Rattle.year.specs.declared.Tested.{Tested}
use Rattle.year.specs.Verdict.{verdict}

-- "Before engine 2 the figures other than n, S and verdict are zero ..; with no engine the mark is '-'." Engine 1 has '-' too. N is a separate argument
abbrev pub early : ℕ → Option ℕ → Figures
early sum size =
    record {
      sum = sum;
      deviation = record { floor = 0; inexact = 0 };
      cumsum = record { low = 0; high = 0 };
      limit = record { low = 0; high = 0 };
      size = size;
      mark = Unmarked;
    }

-- "and N is absent"
abbrev pub blank : ℕ → Figures
blank sum = early sum None

-- "per pollutant S, s, e, both C, both H, N in tenths, mark"
abbrev pub figures : ℕ → Option ℕ → List Test → Figures
figures k size [] = early 0 size
figures k size (x ∷ []) = early x.result size
figures k size (x ∷ y ∷ h) =
    record {
      sum = total (x ∷ y ∷ h);
      deviation = deviation_of k (x ∷ y ∷ h);
      cumsum = cumsum k (x ∷ y ∷ h);
      limit = action_limit k (x ∷ y ∷ h);
      size = size;
      mark = mark k (x ∷ y ∷ h);
    }

-- N of a pollutant
abbrev pub size_of : Pollutant → Progress → Option ℕ
size_of q p = sample_size_of (history q p.tested)

-- "n, verdict", and the figures of each pollutant
abbrev pub status : ℕ → Progress → Status
status k p =
    record {
      n = length p.tested;
      verdict = verdict k p;
      figures = record { hcnox = figures k (size_of Hcnox p) (history Hcnox p.tested); co = figures k (size_of Co p) (history Co p.tested) };
    }

-- the newest engine's mark for each pollutant of a list
abbrev pub newest_marks : List Pollutant → ℕ → List Tested → List Mark
newest_marks qs k xs = map (λ q. mark k (history q xs)) qs

-- the marks of all engines, in the order of entry
abbrev pub printed_marks : List Pollutant → ℕ → List Tested → List Mark
printed_marks qs k [] = []
printed_marks qs k (x ∷ xs) = printed_marks qs k xs ++ newest_marks qs k (x ∷ xs)

-- "two marks per engine, HC+NOx then CO"
abbrev pub year_marks : ℕ → Progress → List Mark
year_marks k p = printed_marks judged k p.tested

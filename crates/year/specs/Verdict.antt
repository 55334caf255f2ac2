-- Document 01, "Verdict", with document 02's W-204, at resolution k: the first row that applies.
use Rattle.std.specs.Prelude.{Bool, List, [], ◌∷◌, ℕ, leb, length, count_by}
use Rattle.conditions.specs.Rows.{Row, first}
use Rattle.rounding.specs.Result.{nearest_even}
use Rattle.statistics.specs.SampleSize.{size_reached_of}
use Rattle.cumsum.specs.Marks.{marks, failed, undecided}
use Rattle.year.specs.declared.Tested.{Tested}
use Rattle.year.specs.Setup.{of, both, every, some, judged}
use Rattle.year.specs.Replay.{Progress, history, short}

-- "one percent of P, rounded, halves to even"
abbrev pub one_percent : ℕ → ℕ
one_percent p = nearest_even p 100

-- document 02, W-204: "engines with both results at or below the standards in force when entered"
abbrev pub passes : Tested → Bool
passes x = both (λ q. leb (of q x.results) (of q x.standards))

-- "The first that applies": 7, declared; 6, failed; 5, unsettled; 0, short; 2, the sample size reached; 3, thirty tested; 4, one percent tested
abbrev pub verdict_table : (declared failed undecided short reached thirty percent : Bool) → List Row
verdict_table declared failed undecided short reached thirty percent =
    (declared, 7) ∷ (failed, 6) ∷ (undecided, 5) ∷ (short, 0) ∷ (reached, 2) ∷ (thirty, 3) ∷ (percent, 4) ∷ []

-- 6 and 5 test the marks of any one pollutant, 2 tests both pollutants; 3 "counts every engine", 4 "counts only engines" that pass (W-204), of all periods
abbrev pub verdict_rows : ℕ → Progress → List Row
verdict_rows k p =
    verdict_table
    p.declared
    (some (λ q. failed (marks k (history q p.tested))) judged)
    (some (λ q. undecided (marks k (history q p.tested))) judged)
    (short p)
    (every (λ q. size_reached_of (history q p.tested)) judged)
    (leb 30 (length p.tested))
    (leb (one_percent p.setup.volume) (count_by passes p.tested))

-- otherwise 1, continue
unfoldable pub verdict : ℕ → Progress → ℕ
verdict k p = first (verdict_rows k p) 1

-- An answer as numbers, for a caller in another language (document 01, "The book": "Status reads a book: n, verdict, and per pollutant S, s, e, both C, both H,
-- N in tenths, mark").
use Rattle.std.specs.Prelude.{◌≡◌, List, [], ◌∷◌, ◌++◌, ℕ, Option, Some, None}
use Rattle.statistics.specs.declared.Test.{Test}
use Rattle.statistics.specs.SampleSize.{sample_size_of}
use Rattle.cumsum.specs.Marks.{mark_byte}
use Rattle.year.specs.declared.Figures.{Figures}
use Rattle.year.specs.declared.Status.{Status}

-- N in tenths, 0 for none: every N is at least 1
abbrev pub size_number : Option ℕ → ℕ
size_number (Some tenths) = tenths
size_number None = 0

-- a pollutant's nine numbers, the mark as its byte
unfoldable pub pollutant_numbers : Figures → List ℕ
pollutant_numbers f =
    f.sum ∷ f.deviation.floor ∷ f.deviation.inexact ∷ f.cumsum.low ∷ f.cumsum.high ∷ f.limit.low ∷ f.limit.high ∷ size_number f.size
    ∷ mark_byte f.mark ∷ []

-- the twenty numbers of a status: n and the verdict, HC+NOx, CO
unfoldable pub status_numbers : Status → List ℕ
status_numbers s = (s.n ∷ s.verdict ∷ []) ++ pollutant_numbers s.figures.hcnox ++ pollutant_numbers s.figures.co

-- 0 means that there is no N, and nothing else
abbrev pub NoneApart : Type 0
NoneApart = (h : List Test) → size_number (sample_size_of h) ≡ 0 → sample_size_of h ≡ None

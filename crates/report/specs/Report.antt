-- Document 02, W-205, "The wall page" ("report"): "Print a page of lines exactly 60 bytes and a newline: a head line with P, D and periods, then one line per
-- remaining engine with number, both results, C low and C high of HC+NOx then of CO in units of 1/4,096 result unit, both marks."
use Rattle.std.specs.Prelude.{List, [], ◌∷◌, ◌++◌, ℕ}
use Rattle.columns.specs.Columns.{Field, figure, symbol, line}
use Rattle.cumsum.specs.Intervals.{cumsum}
use Rattle.cumsum.specs.Marks.{mark, mark_byte}
use Rattle.year.specs.declared.Setup.{Setup}
use Rattle.year.specs.declared.Tested.{Tested}
use Rattle.year.specs.Setup.{Hcnox, Co}
use Rattle.year.specs.Periods.{periods}
use Rattle.year.specs.Replay.{Progress, history}
use Rattle.report.specs.declared.Head.{Head}
use Rattle.report.specs.declared.Row.{Row}

-- "the head uses widths 8, 3 and 1": P, D, and how many periods the year has
abbrev pub head_fields : Head → List Field
head_fields h = figure 8 h.volume ∷ figure 3 h.days ∷ figure 1 h.periods ∷ []

-- "widths 5, 5, 5, four of 10, and 1 and 1"
abbrev pub row_fields : Row → List Field
row_fields r =
    figure 5 r.number ∷ figure 5 r.results.hcnox ∷ figure 5 r.results.co
    ∷ figure 10 r.cumsum.hcnox.low ∷ figure 10 r.cumsum.hcnox.high ∷ figure 10 r.cumsum.co.low ∷ figure 10 r.cumsum.co.high
    ∷ symbol 1 r.marks.hcnox ∷ symbol 1 r.marks.co ∷ []

-- "then spaces"; "with the remaining 3 bytes spaces at the line's end"
unfoldable pub head_line : Head → List ℕ
head_line h = line (head_fields h)

unfoldable pub row_line : Row → List ℕ
row_line r = line (row_fields r)

abbrev pub head_of : Setup → Head
head_of s = record { volume = s.volume; days = s.days; periods = periods s.volume s.days }

-- an engine and those before it, the newest first: C and the marks are those at this engine. A unit of 1/4,096 is resolution 1,024, the calculator's
abbrev pub row_of : Tested → List Tested → Row
row_of x earlier =
    record {
      number = x.number;
      results = x.results;
      cumsum = record { hcnox = cumsum 1024 (history Hcnox (x ∷ earlier)); co = cumsum 1024 (history Co (x ∷ earlier)) };
      marks = record { hcnox = mark_byte (mark 1024 (history Hcnox (x ∷ earlier))); co = mark_byte (mark 1024 (history Co (x ∷ earlier))) };
    }

-- "one line per remaining engine", in the order of entry
abbrev pub engine_lines : List Tested → List ℕ
engine_lines [] = []
engine_lines (x ∷ earlier) = engine_lines earlier ++ row_line (row_of x earlier)

abbrev pub report : Progress → List ℕ
report p = head_line (head_of p.setup) ++ engine_lines p.tested

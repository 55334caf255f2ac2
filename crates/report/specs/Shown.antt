-- Document 02, W-205: "Each figure fits its column, for every book. Reading a line's columns gives back the figures of that engine."
use Rattle.std.specs.Prelude.{◌≡◌, true, List, ℕ, ◌+◌, ◌*◌, ◌-◌, ◌≤◌, length, get_or, take, drop, All}
use Rattle.columns.specs.Columns.{IsLine, Fits, text_at, figure_at}
use Rattle.cumsum.specs.Marks.{mark, mark_byte}
use Rattle.year.specs.declared.Setup.{Setup}
use Rattle.year.specs.declared.Tested.{Tested}
use Rattle.year.specs.declared.Event.{Event}
use Rattle.year.specs.Setup.{Hcnox, Co}
use Rattle.year.specs.Replay.{Progress, replay}
use Rattle.year.specs.Admissible.{valid}
use Rattle.year.specs.Work.{at_engine, cumsum_at}
use Rattle.report.specs.declared.Head.{Head}
use Rattle.report.specs.declared.Row.{Row}
use Rattle.report.specs.Report.{head_fields, row_fields, head_of, report}

-- line i of a page, the head line being line 0: the 61 bytes from 61 × i on
abbrev pub line_at : ℕ → List ℕ → List ℕ
line_at i page = take 61 (drop (61 * i) page)

-- what is read from the columns of a head line, and of an engine's line
abbrev pub read_head : List ℕ → Head
read_head line = record { volume = figure_at line 0 8; days = figure_at line 8 3; periods = figure_at line 11 1 }

abbrev pub mark_at : List ℕ → ℕ → ℕ
mark_at line place = get_or (text_at line place 1) 0 0

abbrev pub read_row : List ℕ → Row
read_row line =
    record {
      number = figure_at line 0 5;
      results = record { hcnox = figure_at line 5 5; co = figure_at line 10 5 };
      cumsum = record { hcnox = record { low = figure_at line 15 10; high = figure_at line 25 10 }; co = record { low = figure_at line 35 10; high = figure_at line 45 10 } };
      marks = record { hcnox = mark_at line 55; co = mark_at line 56 };
    }

-- engine n of a year in the order of entry, from 1; the newest stands first in the list. (`none` is never read.)
abbrev pub none : Tested
none = record { number = 0; results = record { hcnox = 0; co = 0 }; standards = record { hcnox = 0; co = 0 }; period = 0 }

abbrev pub engine_of : ℕ → Progress → Tested
engine_of n p = get_or p.tested (length p.tested - n) none

-- "the figures of that engine": its number and results, and C and the marks of the calculator's work, m = 1, as the year was at engine n
abbrev pub figures_at : ℕ → Progress → Row
figures_at n p =
    record {
      number = (engine_of n p).number;
      results = (engine_of n p).results;
      cumsum = record { hcnox = cumsum_at 1 p n Hcnox; co = cumsum_at 1 p n Co };
      marks = record { hcnox = mark_byte (mark 1024 (at_engine n Hcnox p)); co = mark_byte (mark 1024 (at_engine n Co p)) };
    }

-- the page of a year
pub record Shown (p : Progress) : Type 0 where
  -- a head line and a line for each engine: line i, from 0 to n, starts at 61 × i, and nothing follows
  pub size : length (report p) ≡ 61 * (length p.tested + 1)
  pub lines : (i : ℕ) → i ≤ length p.tested → IsLine (line_at i (report p))
  -- "Each figure fits its column"
  pub head_fits : All Fits (head_fields (head_of p.setup))
  pub engine_fits : (n : ℕ) → 1 ≤ n → n ≤ length p.tested → All Fits (row_fields (figures_at n p))
  -- "Reading a line's columns gives back the figures of that engine", and the head's P, D and periods
  pub head_read : read_head (line_at 0 (report p)) ≡ head_of p.setup
  pub engine_read : (n : ℕ) → 1 ≤ n → n ≤ length p.tested → read_row (line_at n (report p)) ≡ figures_at n p

-- "for every book": every setup and list of events that could have been entered
pub record ReportShown : Type 0 where
  pub every : (s : Setup) (es : List Event) → valid s es ≡ true → Shown (replay s es)

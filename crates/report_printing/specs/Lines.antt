-- The lines of rows, one after another.
use Rattle.std.specs.Prelude.{List, [], ◌∷◌, ◌++◌, ℕ, ◌<◌}
use Rattle.report.specs.declared.Row.{Row}
use Rattle.report.specs.Report.{row_line}

abbrev pub row_lines : List Row → List ℕ
row_lines [] = []
row_lines (r ∷ rs) = row_line r ++ row_lines rs

-- C fits its columns of ten
pub record CumsumFits (r : Row) : Type 0 where
  pub hcnox : (r.cumsum.hcnox.low < 10000000000) × (r.cumsum.hcnox.high < 10000000000)
  pub co : (r.cumsum.co.low < 10000000000) × (r.cumsum.co.high < 10000000000)

-- A whole line, from its columns.
use mathlib.Core.Path.{◌≡◌}
use mathlib.Core.List.{List}
use Prim.Native.Nat.{ℕ}
use Rattle.columns.specs.Columns.{columns}
use Rattle.columns.proofs.Written.{ended, line_done}
use Rattle.report.specs.declared.Head.{Head}
use Rattle.report.specs.declared.Row.{Row}
use Rattle.report.specs.Report.{head_fields, row_fields, head_line, row_line}

module _ {so_far whole : List ℕ} (is : whole ≡ ended so_far) where
  pub whole_head : (h : Head) → so_far ≡ columns (head_fields h) → whole ≡ head_line h
  unfolding head_line
  whole_head h c = line_done (head_fields h) c is

  pub whole_row : (r : Row) → so_far ≡ columns (row_fields r) → whole ≡ row_line r
  unfolding row_line
  whole_row r c = line_done (row_fields r) c is

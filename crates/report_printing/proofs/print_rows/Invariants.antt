-- The lines of the rows before the index are written.
use Rattle.std.proofs.Common.{◌≡◌, ◌+◌, ◌*◌, take, length}
use Rattle.buffers.specs.Bytes.{put}
use Rattle.report_printing.specs.Lines.{row_lines}
use Rattle.report_printing.proofs.print_rows.Given as goal

abbrev pub invariant-loop-r : goal.invariant-loop-r
invariant-loop-r l = record {
  place : l.place ≡ 61 * (l.r-index + 1);
  size : length (row_lines (take l.r-index l.rows)) ≡ 61 * l.r-index;
  lines : l.out ≡ put l.initial.out 61 (row_lines (take l.r-index l.rows));
}

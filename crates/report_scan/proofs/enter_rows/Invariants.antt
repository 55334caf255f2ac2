-- The slots before this one were entered, the progress is that of their events, and the rows are its engines'.
use Rattle.std.proofs.Common.{◌≡◌}
use Rattle.slots.specs.Scanned.{Entered}
use Rattle.report_scan.specs.Rows.{report_rows}
use Rattle.report_scan.proofs.enter_rows.Given as goal

abbrev pub invariant-loop-slot : goal.invariant-loop-slot
invariant-loop-slot l = record { entered : Entered l.journal l.slot-index l.p; noted : l.rows.items ≡ report_rows l.p.tested }

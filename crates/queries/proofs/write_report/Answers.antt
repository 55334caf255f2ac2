use Rattle.std.proofs.Common.{refl, ◌∙◌}
use Rattle.progress.proofs.Carried.{as_many}
use Rattle.reference.specs.Call.{Report}
use Rattle.queries.proofs.Written.{output_declined, output_room, output_done, year_setup}
use Rattle.queries.proofs.write_report.Goals as goal

pub returns-in_err-p : goal.returns-in_err-p
returns-in_err-p c =
    let h = c.in_err-p in
    output_declined Report c.args.journal.now c.args.out.now h.field-0.0 h.ensures.refusal c.from_residual.ensures.1

-- the scan found a year, and the call is not refused
pub print_report-requires : goal.print_report-requires
print_report-requires c =
    let h = c.in_ok-p.ensures in
    record { setup = year_setup c.args.journal.now _ h.year; rows = c.as_slice.ensures.value ∙ h.rows; room = output_room Report c.args.journal.now c.args.out.now _ h.year h.refusal _ refl }

pub returns : goal.returns
returns c =
    let h = c.in_ok-p.ensures in
    rw c.len.ensures.value
    (output_done Report c.args.journal.now c.args.out.now _ h.year h.refusal _ (as_many c.p.inside c.p.invariant _ c.p.view_is) c.print_report.new.out c.print_report.ensures)

use Rattle.std.proofs.Common.{arith, ap, ◌∙◌}
use Rattle.buffers.specs.Bytes.{put}
use Rattle.year.specs.Replay.{Progress}
use Rattle.progress.proofs.Carried.{as_many, few_engines}
use Rattle.reference.specs.Call.{Marks}
use Rattle.reference.specs.Answers.{form_bytes}
use Rattle.queries.proofs.Written.{output_declined, output_room, output_done}
use Rattle.queries.proofs.write_marks.Goals as goal

pub returns-in_err-p : goal.returns-in_err-p
returns-in_err-p c =
    let h = c.in_err-p in
    output_declined Marks c.args.journal.now c.args.out.now h.field-0.0 h.ensures.refusal c.from_residual.ensures.1

-- the scan found a year, and the call is not refused
pub print_marks-requires : goal.print_marks-requires
print_marks-requires c =
    let h = c.in_ok-p.ensures in (
      record { histories = c.p.invariant.histories; fine = omega arith },
      output_room Marks c.args.journal.now c.args.out.now _ h.year h.refusal _ (as_many c.p.inside c.p.invariant _ c.p.view_is),
    )

pub overflow_mul-result : goal.overflow_mul-result
overflow_mul-result c = omega (arith, c.len.ensures.value, few_engines c.p.inside c.p.invariant)

pub returns : goal.returns
returns c =
    let h = c.in_ok-p.ensures in
    rw c.len.ensures.value
    (output_done Marks c.args.journal.now c.args.out.now _ h.year h.refusal _ (as_many c.p.inside c.p.invariant _ c.p.view_is) c.print_marks.new.out
    (c.print_marks.ensures ∙ ap (λ (y : Progress). put c.args.out.now 0 (form_bytes Marks y)) c.p.view_is))

use Rattle.std.proofs.Common.{ap, ◌∙◌}
use Rattle.std.specs.Prelude.{Ok}
use Rattle.reference.specs.Call.{ReadStatus, Ask}
use Rattle.reference.proofs.Promises.{told, refused}
use Rattle.queries.proofs.Written.{status_answer}
use Rattle.queries.proofs.read_status.Goals as goal

pub returns-in_err-p : goal.returns-in_err-p
returns-in_err-p c =
    let r = refused (Ask ReadStatus) c.args.journal.now c.in_err-p.field-0.0 c.in_err-p.ensures.refusal c.from_residual.ensures.1 in
    record { answer = r.answer; outcome = r.outcome }

pub returns : goal.returns
returns c =
    let h = c.in_ok-p.ensures in
    let a = ap Ok c.status_of.ensures ∙ status_answer c.args.journal.now c.in_ok-p.p h.year h.refusal in
    record { answer = a; outcome = told (Ask ReadStatus) c.args.journal.now _ a }

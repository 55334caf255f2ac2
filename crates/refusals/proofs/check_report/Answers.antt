use Rattle.std.proofs.Common.{arith}
use Rattle.progress.proofs.Carried.{as_many}
use Rattle.reference.specs.Call.{Report}
use Rattle.refusals.proofs.Outputs.{output_too_short, output_fits}
use Rattle.refusals.proofs.check_report.Goals as goal

pub returns-then-size-len-clause-refusal : goal.returns-then-size-len-clause-refusal
returns-then-size-len-clause-refusal c =
    let e = c.in_ok-p.ensures in
    output_too_short c.args.size c.args.journal.now _ e.year e.refusal Report
    (omega (arith, as_many c.p.inside c.p.invariant _ c.p.view_is, c.len.ensures.value, c.if-size-len.true))

pub returns-clause-refusal : goal.returns-clause-refusal
returns-clause-refusal c =
    let e = c.in_ok-p.ensures in
    output_fits c.args.size c.args.journal.now _ e.year e.refusal Report
    (omega (arith, as_many c.p.inside c.p.invariant _ c.p.view_is, c.len.ensures.value, c.if-size-len.false))

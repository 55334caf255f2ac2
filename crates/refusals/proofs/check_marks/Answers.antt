use Rattle.std.proofs.Common.{arith}
use Rattle.progress.proofs.Carried.{as_many, few_engines}
use Rattle.reference.specs.Call.{Marks}
use Rattle.refusals.proofs.Outputs.{output_too_short, output_fits}
use Rattle.refusals.proofs.check_marks.Goals as goal

pub overflow_mul-len : goal.overflow_mul-len
overflow_mul-len c = omega (arith, c.len.ensures.value, few_engines c.p.inside c.p.invariant)

pub returns-then-size-len-clause-refusal : goal.returns-then-size-len-clause-refusal
returns-then-size-len-clause-refusal c =
    let e = c.in_ok-p.ensures in
    output_too_short c.args.size c.args.journal.now _ e.year e.refusal Marks
    (omega (arith, as_many c.p.inside c.p.invariant _ c.p.view_is, c.len.ensures.value, c.if-size-len.true))

pub returns-clause-refusal : goal.returns-clause-refusal
returns-clause-refusal c =
    let e = c.in_ok-p.ensures in
    output_fits c.args.size c.args.journal.now _ e.year e.refusal Marks
    (omega (arith, as_many c.p.inside c.p.invariant _ c.p.view_is, c.len.ensures.value, c.if-size-len.false))

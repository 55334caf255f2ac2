-- The rows that all entries share decide, and then the change's own.
use Rattle.std.proofs.Common.{◌∙◌}
use Rattle.reference.specs.Call.{EnterChange}
use Rattle.reference.proofs.Refused.{handed-on}
use Rattle.refusals.proofs.Decisions.{shared_refused, own_decides}
use Rattle.change_decision.proofs.Changed.{change_rows, rows_tested}
use Rattle.change_decision.proofs.decide.Goals as goal

pub returns-in_err-year : goal.returns-in_err-year
returns-in_err-year c =
    let h = c.in_err-year in
    let tested = rows_tested c.args.c _ c.check_standards.ensures c.args.journal.now _ c.is_err-unfit.ensures.value in
    handed-on c.from_residual.ensures.1 (shared_refused (EnterChange c.args.c) c.args.journal.now h.field-0.0 (h.ensures.refusal ∙ tested))

pub returns : goal.returns
returns c =
    let e = c.in_ok-year.ensures in
    let tested = rows_tested c.args.c _ c.check_standards.ensures c.args.journal.now _ c.is_err-unfit.ensures.value in
    c.change.ensures ∙ own_decides (EnterChange c.args.c) c.args.journal.now _ (e.refusal ∙ tested) e.year _ (change_rows c.args.c _ _)

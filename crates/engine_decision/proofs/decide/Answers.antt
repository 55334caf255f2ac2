-- The rows that all entries share decide, and then the engine's own.
use Rattle.std.proofs.Common.{◌∙◌}
use Rattle.reference.specs.Call.{entry_of}
use Rattle.reference.proofs.Refused.{handed-on}
use Rattle.refusals.proofs.Decisions.{shared_refused, own_decides}
use Rattle.engine_decision.proofs.OneEngine.{engine_rows}
use Rattle.engine_decision.proofs.decide.Goals as goal

pub returns-in_err-year : goal.returns-in_err-year
returns-in_err-year c =
    let h = c.in_err-year in
    handed-on c.from_residual.ensures.1 (shared_refused (entry_of c.args.entry.now) c.args.journal.now h.field-0.0 h.ensures.refusal)

pub returns : goal.returns
returns c =
    let e = c.in_ok-year.ensures in
    c.engine.ensures ∙ own_decides (entry_of c.args.entry.now) c.args.journal.now _ e.refusal e.year _ (engine_rows _ _ _ _)

-- The refusals of the engine's entry in the table's order, and the status with its event; nothing is written.
use Rattle.std.proofs.Common.{refl, ap, ◌∙◌}
use Rattle.year.specs.Status.{status}
use Rattle.reference.specs.Call.{Enter, entry_of}
use Rattle.reference.specs.Refused.{number_of}
use Rattle.reference.proofs.Promises.{refused}
use Rattle.refusals.proofs.Decided.{other_size, by_year}
use Rattle.engine_decision.proofs.OneEngine.{engine_rows}
use Rattle.entries.proofs.Sized.{shared, sized, unsized, kept}
use Rattle.entries.proofs.Entered.{opened, declined, may_enter, entered}
use Rattle.entries.proofs.Previewed.{previewed}
use Rattle.entries.proofs.preview_engine.Goals as goal

pub returns-in_err-journal : goal.returns-in_err-journal
returns-in_err-journal c =
    let e = unsized shared c.args.journal.now _ c.as_array.ensures.cases _ c.in_err-journal.ensures.value in
    previewed c.args.entry.now c.args.journal.now
    (refused (Enter (entry_of c.args.entry.now)) c.args.journal.now _ (ap number_of e.0 ∙ other_size (entry_of c.args.entry.now) c.args.journal.now e.1) c.from_residual.ensures.1)

pub returns-in_err-year : goal.returns-in_err-year
returns-in_err-year c =
    let e = sized shared c.args.journal.now _ c.as_array.ensures.cases _ c.in_ok-journal.ensures.value in
    let h = c.in_err-year in
    previewed c.args.entry.now c.args.journal.now
    (kept c.args.journal.now (Enter (entry_of c.args.entry.now)) e.0
    (refused (Enter (entry_of c.args.entry.now)) _ h.field-0.0 (by_year (entry_of c.args.entry.now) _ e.1 refl h.field-0.0 h.ensures.refusal) c.from_residual-in_err-year.ensures.1))

pub returns-in_err-asked : goal.returns-in_err-asked
returns-in_err-asked c =
    let e = sized shared c.args.journal.now _ c.as_array.ensures.cases _ c.in_ok-journal.ensures.value in
    let o = opened (entry_of c.args.entry.now) _ e.1 refl c.in_ok-year.ensures.refusal c.in_ok-year.ensures.year in
    let h = c.in_err-asked in
    previewed c.args.entry.now c.args.journal.now
    (kept c.args.journal.now (Enter (entry_of c.args.entry.now)) e.0 (declined (entry_of c.args.entry.now) _ _ o _ (engine_rows _ _ _ _) h.field-0.0 h.ensures c.from_residual-in_err-asked.ensures.1))

pub enter-requires : goal.enter-requires
enter-requires c =
    let e = sized shared c.args.journal.now _ c.as_array.ensures.cases _ c.in_ok-journal.ensures.value in
    let o = opened (entry_of c.args.entry.now) _ e.1 refl c.in_ok-year.ensures.refusal c.in_ok-year.ensures.year in
    may_enter (entry_of c.args.entry.now) _ _ o _ (engine_rows _ _ _ _) _ c.in_ok-asked.ensures

pub returns : goal.returns
returns c =
    let e = sized shared c.args.journal.now _ c.as_array.ensures.cases _ c.in_ok-journal.ensures.value in
    let o = opened (entry_of c.args.entry.now) _ e.1 refl c.in_ok-year.ensures.refusal c.in_ok-year.ensures.year in
    let s = c.status_of.ensures ∙ ap (status 1024) c.enter.ensures in
    previewed c.args.entry.now c.args.journal.now
    (kept c.args.journal.now (Enter (entry_of c.args.entry.now)) e.0 (entered (entry_of c.args.entry.now) _ _ o _ (engine_rows _ _ _ _) _ c.in_ok-asked.ensures _ _ s refl))

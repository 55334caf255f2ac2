-- An entry's refusals in the table's order, and its event added.
use Rattle.std.proofs.Common.{refl, ap, ◌∙◌}
use Rattle.reference.specs.Call.{Enter, entry_of}
use Rattle.reference.specs.Refused.{number_of}
use Rattle.reference.proofs.Promises.{refused}
use Rattle.refusals.proofs.Decided.{other_size, by_year}
use Rattle.engine_decision.proofs.OneEngine.{engine_rows}
use Rattle.entries.proofs.Sized.{lent, sized, unsized, kept}
use Rattle.entries.proofs.Entered.{opened, declined, room, may_enter, entered}
use Rattle.entries.proofs.enter_engine.Goals as goal

pub returns-in_err-journal : goal.returns-in_err-journal
returns-in_err-journal c =
    let e = unsized lent c.args.journal.now _ c.as_mut_array.ensures.cases _ c.in_err-journal.ensures.value in
    refused (Enter (entry_of c.args.entry.now)) c.args.journal.now _ (ap number_of e.0 ∙ other_size (entry_of c.args.entry.now) c.args.journal.now e.1) c.from_residual.ensures.1

pub returns-in_err-p : goal.returns-in_err-p
returns-in_err-p c =
    let e = sized lent c.args.journal.now _ c.as_mut_array.ensures.cases _ c.in_ok-journal.ensures.value in
    let h = c.in_err-p in
    kept c.args.journal.now (Enter (entry_of c.args.entry.now)) e.0
    (refused (Enter (entry_of c.args.entry.now)) _ h.field-0.0 (by_year (entry_of c.args.entry.now) _ e.1 refl h.field-0.0 h.ensures.refusal) c.from_residual-in_err-p.ensures.1)

pub returns-in_err-event : goal.returns-in_err-event
returns-in_err-event c =
    let e = sized lent c.args.journal.now _ c.as_mut_array.ensures.cases _ c.in_ok-journal.ensures.value in
    let o = opened (entry_of c.args.entry.now) _ e.1 refl c.in_ok-p.ensures.refusal c.in_ok-p.ensures.year in
    let h = c.in_err-event in
    kept c.args.journal.now (Enter (entry_of c.args.entry.now)) e.0 (declined (entry_of c.args.entry.now) _ _ o _ (engine_rows _ _ _ _) h.field-0.0 h.ensures c.from_residual-in_err-event.ensures.1)

pub add-requires : goal.add-requires
add-requires c =
    let e = sized lent c.args.journal.now _ c.as_mut_array.ensures.cases _ c.in_ok-journal.ensures.value in
    let o = opened (entry_of c.args.entry.now) _ e.1 refl c.in_ok-p.ensures.refusal c.in_ok-p.ensures.year in
    let d = c.in_ok-event.ensures in
    record { room = room (entry_of c.args.entry.now) _ _ o _ (engine_rows _ _ _ _) _ d; event = may_enter (entry_of c.args.entry.now) _ _ o _ (engine_rows _ _ _ _) _ d }

pub returns : goal.returns
returns c =
    let e = sized lent c.args.journal.now _ c.as_mut_array.ensures.cases _ c.in_ok-journal.ensures.value in
    let o = opened (entry_of c.args.entry.now) _ e.1 refl c.in_ok-p.ensures.refusal c.in_ok-p.ensures.year in
    let d = c.in_ok-event.ensures in
    kept c.args.journal.now (Enter (entry_of c.args.entry.now)) e.0 (entered (entry_of c.args.entry.now) _ _ o _ (engine_rows _ _ _ _) _ d _ _ c.add.ensures.status c.add.ensures.journal_after)

-- An entry's refusals in the table's order, and its event added.
use Rattle.std.proofs.Common.{ap, ◌∙◌}
use Rattle.reference.specs.Call.{Enter, EnterChange}
use Rattle.reference.specs.Refused.{number_of}
use Rattle.reference.proofs.Promises.{refused}
use Rattle.refusals.proofs.Decided.{other_size, by_standards, by_year}
use Rattle.change_decision.proofs.Changed.{change_rows}
use Rattle.entries.proofs.Sized.{lent, sized, unsized, kept}
use Rattle.entries.proofs.Entered.{opened, declined, room, may_enter, entered}
use Rattle.entries.proofs.enter_change.Goals as goal

pub returns-in_err-journal : goal.returns-in_err-journal
returns-in_err-journal c =
    let e = unsized lent c.args.journal.now _ c.as_mut_array.ensures.cases _ c.in_err-journal.ensures.value in
    refused (Enter (EnterChange c.args.c)) c.args.journal.now _ (ap number_of e.0 ∙ other_size (EnterChange c.args.c) c.args.journal.now e.1) c.from_residual.ensures.1

pub returns-in_err-check_standards : goal.returns-in_err-check_standards
returns-in_err-check_standards c =
    let e = sized lent c.args.journal.now _ c.as_mut_array.ensures.cases _ c.in_ok-journal.ensures.value in
    let h = c.in_err-check_standards in
    kept c.args.journal.now (Enter (EnterChange c.args.c)) e.0
    (refused (Enter (EnterChange c.args.c)) _ h.field-0.0 (by_standards (EnterChange c.args.c) _ e.1 h.field-0.0 h.ensures) c.from_residual-in_err-check_standards.ensures.1)

pub returns-in_err-p : goal.returns-in_err-p
returns-in_err-p c =
    let e = sized lent c.args.journal.now _ c.as_mut_array.ensures.cases _ c.in_ok-journal.ensures.value in
    let h = c.in_err-p in
    kept c.args.journal.now (Enter (EnterChange c.args.c)) e.0
    (refused (Enter (EnterChange c.args.c)) _ h.field-0.0 (by_year (EnterChange c.args.c) _ e.1 c.in_ok-check_standards.ensures h.field-0.0 h.ensures.refusal) c.from_residual-in_err-p.ensures.1)

pub returns-in_err-event : goal.returns-in_err-event
returns-in_err-event c =
    let e = sized lent c.args.journal.now _ c.as_mut_array.ensures.cases _ c.in_ok-journal.ensures.value in
    let o = opened (EnterChange c.args.c) _ e.1 c.in_ok-check_standards.ensures c.in_ok-p.ensures.refusal c.in_ok-p.ensures.year in
    let h = c.in_err-event in
    kept c.args.journal.now (Enter (EnterChange c.args.c)) e.0 (declined (EnterChange c.args.c) _ _ o _ (change_rows c.args.c _ _) h.field-0.0 h.ensures c.from_residual-in_err-event.ensures.1)

pub add-requires : goal.add-requires
add-requires c =
    let e = sized lent c.args.journal.now _ c.as_mut_array.ensures.cases _ c.in_ok-journal.ensures.value in
    let o = opened (EnterChange c.args.c) _ e.1 c.in_ok-check_standards.ensures c.in_ok-p.ensures.refusal c.in_ok-p.ensures.year in
    let d = c.in_ok-event.ensures in
    record { room = room (EnterChange c.args.c) _ _ o _ (change_rows c.args.c _ _) _ d; event = may_enter (EnterChange c.args.c) _ _ o _ (change_rows c.args.c _ _) _ d }

pub returns : goal.returns
returns c =
    let e = sized lent c.args.journal.now _ c.as_mut_array.ensures.cases _ c.in_ok-journal.ensures.value in
    let o = opened (EnterChange c.args.c) _ e.1 c.in_ok-check_standards.ensures c.in_ok-p.ensures.refusal c.in_ok-p.ensures.year in
    let d = c.in_ok-event.ensures in
    kept c.args.journal.now (Enter (EnterChange c.args.c)) e.0 (entered (EnterChange c.args.c) _ _ o _ (change_rows c.args.c _ _) _ d _ _ c.add.ensures.status c.add.ensures.journal_after)

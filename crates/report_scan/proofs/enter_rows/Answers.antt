-- As in `enter_slots` of the crate slots; and each event is noted.
use mathlib.Core.Path.{sym, ◌∙◌}
use Rattle.std.proofs.Common.{arith}
use Rattle.slots.proofs.Entering.{all, slot-at, no-slot, no-event, may-enter, next, finished}
use Rattle.report_scan.proofs.enter_rows.Goals as goal

pub returns-in_err-e-clause-year : goal.returns-in_err-e-clause-year
returns-in_err-e-clause-year c =
    let at = slot-at c.args.journal.now c.args.count c.requires.0 _ c.slots_in.ensures.slots c.loop-slot.slot-index c.loop-slot-test.true in
    c.from_residual.ensures ∙ no-slot c.loop-slot.invariant.entered _ at.1 c.args.count at.0 (sym c.in_err-e.was ∙ c.read_slot.ensures)

pub returns-then-not-is_admissible-clause-year : goal.returns-then-not-is_admissible-clause-year
returns-then-not-is_admissible-clause-year c =
    let at = slot-at c.args.journal.now c.args.count c.requires.0 _ c.slots_in.ensures.slots c.loop-slot.slot-index c.loop-slot-test.true in
    no-event c.loop-slot.invariant.entered _ at.1 c.in_ok-e.e (sym c.in_ok-e.was ∙ c.read_slot.ensures) c.args.count at.0 (sym c.is_admissible.ensures ∙ c.if-not-is_admissible.true)

pub enter-requires : goal.enter-requires
enter-requires c =
    let at = slot-at c.args.journal.now c.args.count c.requires.0 _ c.slots_in.ensures.slots c.loop-slot.slot-index c.loop-slot-test.true in
    may-enter c.loop-slot.invariant.entered _ at.1 c.in_ok-e.e (sym c.in_ok-e.was ∙ c.read_slot.ensures) (sym c.is_admissible.ensures ∙ c.if-not-is_admissible.false)

pub loop-slot-preserved : goal.loop-slot-preserved
loop-slot-preserved c =
    let at = slot-at c.args.journal.now c.args.count c.requires.0 _ c.slots_in.ensures.slots c.loop-slot.slot-index c.loop-slot-test.true in
    record {
      entered =
          rw c.enter.ensures
          (next c.loop-slot.invariant.entered _ at.1 c.in_ok-e.e (sym c.in_ok-e.was ∙ c.read_slot.ensures) (sym c.is_admissible.ensures ∙ c.if-not-is_admissible.false));
      noted = c.note.ensures;
    }

pub returns-clause-year : goal.returns-clause-year
returns-clause-year c =
    let many = all c.args.journal.now c.args.count c.requires.0 _ c.slots_in.ensures.slots in
    finished _ _ c.loop-slot.slot-index c.loop-slot.p (omega (arith, many, c.loop-slot.auto.slot-index-end)) (omega (arith, many, c.loop-slot-test.false)) c.loop-slot.invariant.entered

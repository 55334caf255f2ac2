use Rattle.std.proofs.Common.{ap, ◌∙◌}
use Rattle.reference.specs.Call.{SetUp}
use Rattle.reference.specs.Refused.{number_of}
use Rattle.reference.proofs.Promises.{refused}
use Rattle.entries.proofs.SetUp.{other_size, setup_rows, writable, done}
use Rattle.entries.proofs.Sized.{lent, sized, unsized, kept}
use Rattle.entries.proofs.set_up.Goals as goal

pub returns-in_err-whole : goal.returns-in_err-whole
returns-in_err-whole c =
    let e = unsized lent c.args.journal.now _ c.as_mut_array.ensures.cases _ c.in_err-whole.ensures.value in
    refused (SetUp c.args.s) c.args.journal.now _ (ap number_of e.0 ∙ other_size c.args.s c.args.journal.now e.1) c.from_residual.ensures.1

pub returns-in_err-check_setup : goal.returns-in_err-check_setup
returns-in_err-check_setup c =
    let e = sized lent c.args.journal.now _ c.as_mut_array.ensures.cases _ c.in_ok-whole.ensures.value in
    let h = c.in_err-check_setup in
    kept c.args.journal.now (SetUp c.args.s) e.0
    (refused (SetUp c.args.s) _ h.field-0.0 (h.ensures ∙ setup_rows c.args.s _ e.1) c.from_residual-in_err-check_setup.ensures.1)

pub write_setup-requires : goal.write_setup-requires
write_setup-requires c = writable c.args.s c.in_ok-check_setup.ensures

pub returns : goal.returns
returns c =
    let e = sized lent c.args.journal.now _ c.as_mut_array.ensures.cases _ c.in_ok-whole.ensures.value in
    kept c.args.journal.now (SetUp c.args.s) e.0
    (done c.args.s c.in_ok-check_setup.ensures _ e.1 _ _ (rw c.start.ensures at c.status_of.ensures) c.write_setup.ensures)

-- `read_numbers` meets its contract.
use Rattle.std.proofs.Common.{sym, ap, ◌≡◌, Some, None, Err, lit<, arith}
use Rattle.reference.specs.declared.Refusal.TheVariants.{LineForm}
use Rattle.reference.proofs.Refused.{handed-on}
use Rattle.protocol.specs.KeyLine.{spaced_number}
use Rattle.numbers.proofs.Sequence.{refused, left_refused, Next, read_next, outcome_of_line}
use Rattle.numbers.proofs.read_numbers.Goals as goal

-- the rest of the line has no number at `at`
none-found : (c : goal.After-from_residual) → spaced_number c.args.line.now c.loop-at.at ≡ None
none-found c = grind arith

pub returns-in_err-number-clause-numbers : goal.returns-in_err-number-clause-numbers
returns-in_err-number-clause-numbers c =
    let form : c.in_err-number.field-0.0 ≡ LineForm = grind arith in
    let is : c.from_residual.result ≡ Err LineForm = handed-on c.from_residual.ensures.1 (ap Err form) in
    rw is (refused c.args.line.now _ _ c.loop-at.invariant c.loop-at-test.true (none-found c))

pub returns-in_err-number-clause-outcome : goal.returns-in_err-number-clause-outcome
returns-in_err-number-clause-outcome c = sym (outcome_of_line c.args.line.now _ (returns-in_err-number-clause-numbers c))

pub returns-in_err-number-clause-values_after : goal.returns-in_err-number-clause-values_after
returns-in_err-number-clause-values_after c = left_refused c.args.line.now _ _ c.loop-at.invariant c.loop-at-test.true (none-found c)

-- a number was found, and there is room for it
pub push-requires : goal.push-requires
push-requires c =
    let found : spaced_number c.args.line.now c.loop-at.at ≡ Some c.in_ok-number.number = grind arith in
    (lit< tt, (read_next c.args.line.now _ c.loop-at.at c.loop-at.invariant c.loop-at-test.true c.requires.line_size c.in_ok-number.number found).room)

next : (c : goal.After-push) → Next c.args.line.now c.loop-at.numbers.items c.loop-at.at c.loop-at.invariant c.loop-at-test.true c.in_ok-number.number
next c =
    let found : spaced_number c.args.line.now c.loop-at.at ≡ Some c.in_ok-number.number = grind arith in
    read_next c.args.line.now c.loop-at.numbers.items c.loop-at.at c.loop-at.invariant c.loop-at-test.true c.requires.line_size c.in_ok-number.number found

pub loop-at-smaller : goal.loop-at-smaller
loop-at-smaller c = omega (arith, (next c).further)

pub loop-at-preserved : goal.loop-at-preserved
loop-at-preserved c = rw c.push.ensures.items (next c).read_to

use Rattle.std.proofs.Common.{arith}
use Rattle.columns.proofs.Digits.{none_written, first_written, room_left, next_written, all_written}
use Rattle.columns.proofs.put_digits.Goals as goal

pub overflow_sub-at : goal.overflow_sub-at
overflow_sub-at c = none_written c.args.bytes.now c.args.end c.args.n c.requires.0 (omega arith) (omega arith)

pub loop-rest-init : goal.loop-rest-init
loop-rest-init c = rw c.digit.ensures (first_written c.args.bytes.now c.args.end c.args.n c.requires.0 (omega arith) (omega arith))

pub overflow_sub-at-in-loop-rest : goal.overflow_sub-at-in-loop-rest
overflow_sub-at-in-loop-rest c = room_left c.args.bytes.now c.args.end c.args.n c.requires.0 (omega arith) _ _ _ c.loop-rest.invariant c.loop-rest-test.true

pub loop-rest-preserved : goal.loop-rest-preserved
loop-rest-preserved c =
    rw c.digit-in-loop-rest.ensures (next_written c.args.bytes.now c.args.end c.args.n c.requires.0 (omega arith) _ _ _ c.loop-rest.invariant c.loop-rest-test.true)

pub returns : goal.returns
returns c = all_written c.args.bytes.now c.args.end c.args.n c.requires.0 (omega arith) _ _ _ c.loop-rest.invariant c.loop-rest-test.false

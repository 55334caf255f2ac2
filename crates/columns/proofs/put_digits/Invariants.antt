-- The digits of what the number has lost are written; those of `rest` are still to come.
use Rattle.columns.proofs.Digits.{Written}
use Rattle.columns.proofs.put_digits.Given as goal

abbrev pub invariant-loop-rest : goal.invariant-loop-rest
invariant-loop-rest l = Written l.fn.bytes l.fn.end l.fn.n l.at l.rest l.bytes

abbrev pub decreases-loop-rest : goal.decreases-loop-rest
decreases-loop-rest l = l.rest

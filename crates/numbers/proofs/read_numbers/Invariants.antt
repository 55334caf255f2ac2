-- The numbers before `at` are read.
use Rattle.std.proofs.Common.{length, ◌-◌}
use Rattle.numbers.proofs.Sequence.{ReadTo}
use Rattle.numbers.proofs.read_numbers.Given as goal

abbrev pub invariant-loop-at : goal.invariant-loop-at
invariant-loop-at l = ReadTo l.line l.numbers.items l.at

-- the rest of the line
abbrev pub decreases-loop-at : goal.decreases-loop-at
decreases-loop-at l = length l.line - l.at

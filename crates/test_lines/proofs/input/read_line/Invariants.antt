-- Each byte so far is of the line.
use Rattle.std.proofs.Common.{◌≢◌, ◌≤◌, All, length}
use Rattle.test_lines.proofs.input.read_line.Given as goal

abbrev pub invariant-loop : goal.invariant-loop
invariant-loop g l = record {
  few : length l.line.items ≤ l.counter;
  one_line : All (λ byte. byte ≢ 10) l.line.items;
}

-- What is read of the bytes that are left gives the whole line's numbers.
use Rattle.std.proofs.Common.{◌≡◌, ◌≤◌, length, drop, replicate}
use Rattle.test_lines.specs.Numbers.{read_on}
use Rattle.test_lines.proofs.numbers.numbers.Given as goal

abbrev pub invariant-loop-byte : goal.invariant-loop-byte
invariant-loop-byte l = record {
  few : l.place ≤ l.byte-index;
  size : length l.numbers ≡ 19;
  left : read_on (drop l.byte-index l.byte-items) l.place l.numbers ≡ read_on (drop 2 l.line) 0 (replicate 19 0);
}

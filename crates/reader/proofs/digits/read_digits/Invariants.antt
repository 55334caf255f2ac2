-- At most nine digits were read, `value` is what they spell, and the other digits are those after them.
use Rattle.std.proofs.Common.{◌≡◌, ◌≤◌, ◌+◌, ◌<◌, ◌^◌, take, drop}
use Rattle.ascii.specs.Decimal.{digits, spelt}
use Rattle.reader.proofs.digits.read_digits.Given as goal

abbrev pub invariant-loop-count : goal.invariant-loop-count
invariant-loop-count l = record {
  at_most_nine : l.count ≤ 9;
  bounded : l.value < 10 ^ l.count;
  others : digits l.bytes ≡ l.count + digits (drop l.count l.bytes);
  spells : l.value ≡ spelt 0 (take l.count l.bytes);
}

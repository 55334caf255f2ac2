-- The guess r is at least the root. Each step leads lower.
use Rattle.std.proofs.Common.{◌+◌, ◌*◌, ◌^◌, ◌<◌}
use Rattle.spread.proofs.squareroot.root_from.Given as goal

abbrev pub invariant-loop-r : goal.invariant-loop-r
invariant-loop-r l = record {
  not_below : l.fn.x < (l.r + 1) * (l.r + 1);
  small : l.r < 2 ^ 32;
}

abbrev pub decreases-loop-r : goal.decreases-loop-r
decreases-loop-r l = l.r

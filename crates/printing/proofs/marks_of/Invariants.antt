-- The figures and the marks are those of the engines before the index.
use Rattle.std.proofs.Common.{◌≡◌, ◌*◌, take, reverse, map, length}
use Rattle.cumsum.specs.Marks.{mark_byte}
use Rattle.figures.specs.Running.{running}
use Rattle.year.specs.Setup.{Hcnox, Co, judged}
use Rattle.year.specs.Replay.{history}
use Rattle.year.specs.Status.{printed_marks}
use Rattle.printing.proofs.marks_of.Given as goal

abbrev pub invariant-loop-x : goal.invariant-loop-x
invariant-loop-x l = record {
  hcnox : l.figures.hcnox ≡ running l.resolution (history Hcnox (reverse (take l.x-index l.engines)));
  co : l.figures.co ≡ running l.resolution (history Co (reverse (take l.x-index l.engines)));
  marked : l.marks.items ≡ map mark_byte (printed_marks judged l.resolution (reverse (take l.x-index l.engines)));
  two_each : length l.marks.items ≡ 2 * l.x-index;
}

-- The figures are those of the engines before the index.
use Rattle.std.proofs.Common.{◌≡◌, take, reverse}
use Rattle.figures.specs.Running.{running}
use Rattle.year.specs.Setup.{Hcnox, Co}
use Rattle.year.specs.Replay.{history}
use Rattle.engines.proofs.rework.figures_of.Given as goal

abbrev pub invariant-loop-x : goal.invariant-loop-x
invariant-loop-x l = record {
  hcnox : l.figures.hcnox ≡ running l.resolution (history Hcnox (reverse (take l.x-index l.engines)));
  co : l.figures.co ≡ running l.resolution (history Co (reverse (take l.x-index l.engines)));
}

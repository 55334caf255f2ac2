-- Each number of the engine fits its field.
use Rattle.std.proofs.Common.{arith}
use Rattle.year.specs.Setup.{Hcnox, Co}
use Rattle.engines.proofs.store.add_engine.Goals as goal

pub map-requires-clause-hcnox : goal.map-requires-clause-hcnox
map-requires-clause-hcnox c = omega (arith, c.requires.results Hcnox)

pub map-requires-clause-co : goal.map-requires-clause-co
map-requires-clause-co c = omega (arith, c.requires.results Co)

pub map-requires-2-clause-hcnox : goal.map-requires-2-clause-hcnox
map-requires-2-clause-hcnox c = omega (arith, c.requires.standards Hcnox)

pub map-requires-2-clause-co : goal.map-requires-2-clause-co
map-requires-2-clause-co c = omega (arith, c.requires.standards Co)

use Rattle.std.proofs.Common.{ap}
use Rattle.std.proofs.lemmas.List.{take_more}
use Rattle.statistics.specs.declared.Test.{Test}
use Rattle.engines.proofs.Newest.{rooms}
use Rattle.engines.proofs.rework.figures_of.Goals as goal

pub add_tests-requires : goal.add_tests-requires
add_tests-requires c =
    rooms c.args.engines.now c.args.resolution c.loop-x.x-index _ c.loop-x.figures c.tests.result (take_more c.args.engines.now c.loop-x.x-index _ c.loop-x-test.true)
    c.requires.fine c.requires.histories c.loop-x.invariant
    (record { hcnox = ap (λ (t : Test). t.result) c.tests.ensures.hcnox; co = ap (λ (t : Test). t.result) c.tests.ensures.co })

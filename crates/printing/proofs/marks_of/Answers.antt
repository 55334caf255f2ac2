use Rattle.std.proofs.Common.{ap, arith}
use Rattle.std.proofs.lemmas.List.{take_more}
use Rattle.statistics.specs.declared.Test.{Test}
use Rattle.engines.proofs.Newest.{rooms}
use Rattle.printing.proofs.Marked.{next}
use Rattle.printing.proofs.marks_of.Goals as goal

pub add_tests-requires : goal.add_tests-requires
add_tests-requires c =
    let i = c.loop-x.invariant in
    rooms c.args.engines.now c.args.resolution c.loop-x.x-index _ c.loop-x.figures c.tests.result (take_more c.args.engines.now c.loop-x.x-index _ c.loop-x-test.true)
    c.requires.fine c.requires.histories (record { hcnox = i.hcnox; co = i.co })
    (record { hcnox = ap (λ (t : Test). t.result) c.tests.ensures.hcnox; co = ap (λ (t : Test). t.result) c.tests.ensures.co })

pub loop-x-preserved : goal.loop-x-preserved
loop-x-preserved c =
    let xs = c.args.engines.now in
    let i = c.loop-x.x-index in
    let r =
    next c.args.resolution xs i _ (take_more xs i _ c.loop-x-test.true) c.add_tests.new.figures.hcnox c.add_tests.new.figures.co c.push-in-loop-x.new.self.items
    (rw c.tests.ensures.hcnox at (c.add_tests.ensures.hcnox _ c.loop-x.invariant.hcnox)) (rw c.tests.ensures.co at (c.add_tests.ensures.co _ c.loop-x.invariant.co))
    (cc) in
    record { hcnox = r.0; co = r.1; marked = r.2; two_each = omega (arith, c.push.ensures.len, c.push-in-loop-x.ensures.len) }

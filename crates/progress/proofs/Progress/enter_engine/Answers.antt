use Rattle.std.proofs.Common.{arith}
use Rattle.year.specs.Setup.{Hcnox, Co}
use Rattle.progress.proofs.Carried.{room}
use Rattle.progress.proofs.Steps.{engine}
use Rattle.progress.proofs.Progress.enter_engine.Goals as goal

pub add_engine-requires : goal.add_engine-requires
add_engine-requires c = (room c.self.inside c.self.invariant c.args.number c.args.readings c.args.results (rw c.self.view_is c.requires)).engine

pub overflow_add-self-2 : goal.overflow_add-self-2
overflow_add-self-2 c =
    omega (arith, (room c.self.inside c.self.invariant c.args.number c.args.readings c.args.results (rw c.self.view_is c.requires)).current)

pub add_tests-requires : goal.add_tests-requires
add_tests-requires c =
    let r = room c.self.inside c.self.invariant c.args.number c.args.readings c.args.results (rw c.self.view_is c.requires) in
    record { hcnox = rw c.tests_under.ensures.hcnox (r.figures Hcnox); co = rw c.tests_under.ensures.co (r.figures Co) }

pub invariant_of-self : goal.invariant_of-self
invariant_of-self c =
    engine c.self.inside c.self.invariant c.args.number c.args.readings c.args.results c.add_engine.new.e c.add_tests.new.figures (rw c.self.view_is c.requires)
    c.add_engine.ensures (rw c.tests_under.ensures.hcnox at c.add_tests.ensures.hcnox) (rw c.tests_under.ensures.co at c.add_tests.ensures.co)

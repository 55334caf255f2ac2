use Rattle.progress.proofs.Steps.{amended, next-period, declared}
use Rattle.progress.proofs.Progress.enter.Goals as goal

pub invariant_of-self : goal.invariant_of-self
invariant_of-self c = amended c.self.inside c.self.invariant c.in-Amendment.standards (rw (c.self.view_is, ← c.in-Amendment.is) c.requires)

pub invariant_of-self-in-NextPeriod : goal.invariant_of-self-in-NextPeriod
invariant_of-self-in-NextPeriod c =
    next-period c.self-in-NextPeriod.inside c.self-in-NextPeriod.invariant (rw (c.self-in-NextPeriod.view_is, ← c.in-NextPeriod.is) c.requires)

pub invariant_of-self-in-Declaration : goal.invariant_of-self-in-Declaration
invariant_of-self-in-Declaration c =
    declared c.self-in-Declaration.inside c.self-in-Declaration.invariant (rw (c.self-in-Declaration.view_is, ← c.in-Declaration.is) c.requires)

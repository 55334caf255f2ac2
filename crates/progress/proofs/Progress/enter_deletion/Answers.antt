use Rattle.progress.proofs.Carried.{deletable}
use Rattle.progress.proofs.Steps.{deleted}
use Rattle.progress.proofs.Progress.enter_deletion.Goals as goal

pub overflow_sub-self : goal.overflow_sub-self
overflow_sub-self c = (deletable c.self.inside c.self.invariant (rw c.self.view_is c.requires)).current

pub rework-figures-requires : goal.rework-figures-requires
rework-figures-requires c = (deletable c.self.inside c.self.invariant (rw c.self.view_is c.requires)).rest c.remove_newest.new.e c.remove_newest.ensures

pub invariant_of-self : goal.invariant_of-self
invariant_of-self c =
    deleted c.self.inside c.self.invariant c.remove_newest.new.e c.rework-figures.result (rw c.self.view_is c.requires) c.remove_newest.ensures
    (record { hcnox = c.rework-figures.ensures.hcnox; co = c.rework-figures.ensures.co })

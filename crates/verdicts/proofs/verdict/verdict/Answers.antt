use Rattle.verdicts.proofs.verdict.verdict.Goals as goal

pub verdict_by-requires : goal.verdict_by-requires
verdict_by-requires c = record { resolution = 1024; figures = rw (← c.p.view_is) c.p.invariant.figures }

pub returns : goal.returns
returns c = c.verdict_by.ensures 1024 (rw (← c.p.view_is) c.p.invariant.figures)

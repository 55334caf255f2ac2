-- A year is closed exactly if it was declared or one of the carried figures says failed.
use Rattle.std.proofs.Common.{◌≡◌, ◌||◌, sym, rules}
use Rattle.year.specs.Setup.{Hcnox, Co}
use Rattle.year.proofs.Closed.{closed_is}
use Rattle.progress.proofs.Carried.{failed-is}
use Rattle.verdicts.proofs.verdict.closed.Goals as goal

pub returns : goal.returns
returns c =
    let p = c.p.inside in
    let k = c.p.invariant in
    let flags : c.either.result ≡ (p.figures.hcnox.failed || p.figures.co.failed) = search rules in
    rw (← c.p.view_is, flags, failed-is p k 1024 Hcnox p.figures.hcnox k.figures.hcnox, failed-is p k 1024 Co p.figures.co k.figures.co) (sym (closed_is _))

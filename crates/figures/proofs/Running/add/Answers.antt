-- Each figure is computed from the one before it, by the laws for one more engine.
use Rattle.std.proofs.Common.{◌∷◌, ap, arith}
use Rattle.spread.specs.declared.Sums.{Sums}
use Rattle.figures.proofs.OneMore.{running-sums, later, sums-in-range, deviation-fits, next_fits, limit-fits}
use Rattle.figures.proofs.Running.add.Goals as goal

pub with-sums-requires : goal.with-sums-requires
with-sums-requires c = sums-in-range c.args.resolution c.args.self.now c.args.x.result c.requires

pub returns-then-sums-lt2 : goal.returns-then-sums-lt2
returns-then-sums-lt2 c =
    let a = c.args in
    λ h e.
    let s = c.with-sums.ensures h a.x.standard (running-sums a.resolution a.self.now h e) in
    c.early.ensures a.resolution (a.x ∷ h) (omega (arith, ap (λ (z : Sums). z.n) s)) s c.from-standard.ensures

pub deviation-deviation-requires : goal.deviation-deviation-requires
deviation-deviation-requires c =
    let a = c.args in
    deviation-fits a.resolution a.self.now a.x.result c.requires c.with-sums.result (omega arith) c.with-sums.ensures

pub next_cumsum-cumsum-requires : goal.next_cumsum-cumsum-requires
next_cumsum-cumsum-requires c =
    let a = c.args in
    next_fits a.resolution a.self.now a.x.result c.requires c.with-sums.result (omega arith) c.with-sums.ensures
    c.deviation-deviation.result c.deviation-deviation.ensures

pub action_limit-limit-requires : goal.action_limit-limit-requires
action_limit-limit-requires c =
    let a = c.args in
    limit-fits a.resolution a.self.now a.x.result c.requires c.with-sums.result (omega arith) c.with-sums.ensures
    c.deviation-deviation.result c.deviation-deviation.ensures

pub returns : goal.returns
returns c =
    let a = c.args in
    λ h w.
    rw (c.from-standard.ensures, c.undecided_pair.ensures, c.both_over.ensures)
    (later a.resolution a.self.now a.x c.with-sums.result
    c.deviation-deviation.result c.next_cumsum-cumsum.result c.action_limit-limit.result c.compare-mark.result h w
    (c.with-sums.ensures h a.x.standard (running-sums a.resolution a.self.now h w)) (omega arith)
    c.deviation-deviation.ensures c.next_cumsum-cumsum.ensures c.action_limit-limit.ensures c.compare-mark.ensures)

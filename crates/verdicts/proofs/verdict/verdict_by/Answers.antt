-- Each row's test is the definition's, by what the state carries.
use Rattle.std.proofs.Common.{◌≡◌, ◌||◌, sym, subst, rules}
use Rattle.year.specs.Setup.{Hcnox, Co}
use Rattle.year.specs.Replay.{history}
use Rattle.year.specs.Verdict.{verdict}
use Rattle.progress.specs.State.{Figured}
use Rattle.engines.specs.Engines.{tested}
use Rattle.progress.proofs.Carried.{counted, failed-is, undecided-is}
use Rattle.verdicts.proofs.verdict.verdict_by.Goals as goal

pub returns : goal.returns
unfolding verdict
returns c =
    let p = c.p.inside in
    let k = c.p.invariant in
    λ m g.
    let o = c.args.figures in
    let failed : c.either.result ≡ (o.hcnox.failed || o.co.failed) = search rules in
    let undecided : c.either-2.result ≡ (o.hcnox.undecided || o.co.undecided) = search rules in
    let f : Figured m (tested p.engines) c.args.figures = subst (λ y. Figured m y.tested c.args.figures) (sym c.p.view_is) g in
    rw (
      ← c.p.view_is,
      c.first_verdict.ensures,
      c.one_percent.ensures,
      c.both.ensures.4,
      c.both.ensures.3 m (history Co (tested p.engines)) f.co,
      c.both.ensures.2 m (history Hcnox (tested p.engines)) f.hcnox,
      c.is_short.ensures,
      k.current,
      undecided,
      failed,
      undecided-is p k m Hcnox c.args.figures.hcnox f.hcnox,
      undecided-is p k m Co c.args.figures.co f.co,
      failed-is p k m Hcnox c.args.figures.hcnox f.hcnox,
      failed-is p k m Co c.args.figures.co f.co,
      c.passing-passing.ensures,
      c.len-n.ensures.value,
      counted p k,
    )

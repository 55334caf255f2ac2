use Rattle.std.proofs.Common.{arith}
use Rattle.year.specs.Setup.{Hcnox, Co}
use Rattle.year.specs.Replay.{history}
use Rattle.engines.specs.Engines.{tested}
use Rattle.progress.proofs.Carried.{counted, few_engines}
use Rattle.verdicts.proofs.status.status_of.Goals as goal

pub overflow_cast-result : goal.overflow_cast-result
overflow_cast-result c = omega (arith, few_engines c.p.inside c.p.invariant)

pub returns : goal.returns
returns c =
    let p = c.p.inside in
    rw (
      ← c.p.view_is,
      c.len.ensures.value,
      c.from.ensures,
      c.verdict.ensures,
      ← c.p.view_is,
      c.map.ensures.hcnox 1024 (history Hcnox (tested p.engines)) c.p.invariant.figures.hcnox,
      c.map.ensures.co 1024 (history Co (tested p.engines)) c.p.invariant.figures.co,
      counted p c.p.invariant,
    )

use Rattle.std.proofs.Common.{length, ◌≤◌, arith}
use Rattle.progress.proofs.Carried.{as_many, few_engines}
use Rattle.report_scan.proofs.Noted.{rows-room}
use Rattle.report_scan.proofs.note.Goals as goal

pub push-requires : goal.push-requires
push-requires c =
    let few : length c.args.p.now.tested ≤ 40 = omega (arith, as_many c.p.inside c.p.invariant _ c.p.view_is, few_engines c.p.inside c.p.invariant) in
    (omega arith, rows-room _ c.args.e c.args.p.now c.requires.year _ _ _ c.requires.noted c.requires.step c.in-Engine.is few)

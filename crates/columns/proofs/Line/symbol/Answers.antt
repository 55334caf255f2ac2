use Rattle.std.proofs.Common.{◌∷◌, [], ◌++◌, ◌+◌, ◌-◌, ◌≤◌, ap, ◌∙◌, arith}
use Rattle.buffers.proofs.Lists.{put_one}
use Rattle.columns.specs.Columns.{column}
use Rattle.columns.proofs.Written.{size_so_far, column_written, blank_behind}
use Rattle.columns.proofs.Line.symbol.Goals as goal

pub invariant_of-self : goal.invariant_of-self
invariant_of-self c =
    let l = c.self.inside in
    let room : l.place + c.args.width ≤ 60 = omega (arith, size_so_far l.bytes _ l.place (omega arith) c.self.invariant.0 c.self.view_is) in
    (room, blank_behind l.bytes l.place c.args.width (c.args.byte ∷ []) (omega arith) room (omega arith) c.self.invariant.1 _ (put_one l.bytes (l.place + c.args.width - 1) c.args.byte (omega arith)))

pub returns-clause-written : goal.returns-clause-written
returns-clause-written c =
    let l = c.self.inside in
    let room : l.place + c.args.width ≤ 60 = omega (arith, size_so_far l.bytes _ l.place (omega arith) c.self.invariant.0 c.self.view_is) in
    column_written l.bytes l.place c.args.width (c.args.byte ∷ []) (omega arith) room (omega arith) c.self.invariant.1 _ (put_one l.bytes (l.place + c.args.width - 1) c.args.byte (omega arith))
    ∙ ap (λ s. s ++ column c.args.width (c.args.byte ∷ [])) c.self.view_is

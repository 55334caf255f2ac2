use Rattle.std.proofs.Common.{◌+◌, ◌≤◌, ◌++◌, ap, ◌∙◌, arith}
use Rattle.ascii.specs.Decimal.{decimal}
use Rattle.ascii.proofs.Decimal.{digits-fit}
use Rattle.columns.specs.Columns.{column}
use Rattle.columns.proofs.Written.{size_so_far, column_written, blank_behind}
use Rattle.columns.proofs.Line.figure.Goals as goal

pub put_digits-requires : goal.put_digits-requires
put_digits-requires c =
    let l = c.self.inside in
    let room : l.place + c.args.width ≤ 60 = omega (arith, size_so_far l.bytes _ l.place (omega arith) c.self.invariant.0 c.self.view_is) in
    let fits = digits-fit c.args.width c.args.n c.requires.fits.0 c.requires.fits.1 in
    (omega (arith, fits), omega arith)

pub invariant_of-self : goal.invariant_of-self
invariant_of-self c =
    let l = c.self.inside in
    let room : l.place + c.args.width ≤ 60 = omega (arith, size_so_far l.bytes _ l.place (omega arith) c.self.invariant.0 c.self.view_is) in
    let fits = digits-fit c.args.width c.args.n c.requires.fits.0 c.requires.fits.1 in
    (room, blank_behind l.bytes l.place c.args.width (decimal c.args.n) (omega arith) room fits c.self.invariant.1 _ c.put_digits.ensures)

pub returns-clause-written : goal.returns-clause-written
returns-clause-written c =
    let l = c.self.inside in
    let room : l.place + c.args.width ≤ 60 = omega (arith, size_so_far l.bytes _ l.place (omega arith) c.self.invariant.0 c.self.view_is) in
    let fits = digits-fit c.args.width c.args.n c.requires.fits.0 c.requires.fits.1 in
    column_written l.bytes l.place c.args.width (decimal c.args.n) (omega arith) room fits c.self.invariant.1 _ c.put_digits.ensures
    ∙ ap (λ s. s ++ column c.args.width (decimal c.args.n)) c.self.view_is

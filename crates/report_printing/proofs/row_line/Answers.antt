use Rattle.std.proofs.Common.{[], ◌∷◌}
use Rattle.columns.specs.Columns.{figure, symbol}
use Rattle.columns.proofs.Written.{next_column}
use Rattle.report_printing.proofs.row_line.Goals as goal

pub returns-clause-written : goal.returns-clause-written
returns-clause-written c =
    let number = figure 5 c.args.r.number in
    let x = figure 5 c.args.r.results.hcnox in
    let y = figure 5 c.args.r.results.co in
    let x-low = figure 10 c.args.r.cumsum.hcnox.low in
    let x-high = figure 10 c.args.r.cumsum.hcnox.high in
    let y-low = figure 10 c.args.r.cumsum.co.low in
    let y-high = figure 10 c.args.r.cumsum.co.high in
    let x-mark = symbol 1 c.args.r.marks.hcnox in
    let y-mark = symbol 1 c.args.r.marks.co in
    let of-1 = next_column [] number c.new-line.ensures (rw c.from.ensures at c.figure.ensures.written) in
    let of-2 = next_column (number ∷ []) x of-1 (rw c.from-2.ensures at c.figure-2.ensures.written) in
    let of-3 = next_column (number ∷ x ∷ []) y of-2 (rw c.from-3.ensures at c.figure-3.ensures.written) in
    let of-4 = next_column (number ∷ x ∷ y ∷ []) x-low of-3 c.figure-4.ensures.written in
    let of-5 = next_column (number ∷ x ∷ y ∷ x-low ∷ []) x-high of-4 c.figure-5.ensures.written in
    let of-6 = next_column (number ∷ x ∷ y ∷ x-low ∷ x-high ∷ []) y-low of-5 c.figure-6.ensures.written in
    let of-7 = next_column (number ∷ x ∷ y ∷ x-low ∷ x-high ∷ y-low ∷ []) y-high of-6 c.figure-7.ensures.written in
    let of-8 = next_column (number ∷ x ∷ y ∷ x-low ∷ x-high ∷ y-low ∷ y-high ∷ []) x-mark of-7 c.symbol.ensures.written in
    next_column (number ∷ x ∷ y ∷ x-low ∷ x-high ∷ y-low ∷ y-high ∷ x-mark ∷ []) y-mark of-8 c.symbol-2.ensures.written

use Rattle.std.proofs.Common.{[], ◌∷◌}
use Rattle.columns.specs.Columns.{figure}
use Rattle.columns.proofs.Written.{next_column}
use Rattle.report_printing.proofs.head_line.Goals as goal

pub returns-clause-written : goal.returns-clause-written
returns-clause-written c =
    let volume = figure 8 c.args.h.volume in
    let days = figure 3 c.args.h.days in
    let periods = figure 1 c.args.h.periods in
    let first = next_column [] volume c.new-line.ensures (rw c.from.ensures at c.figure.ensures.written) in
    let second = next_column (volume ∷ []) days first (rw c.from-2.ensures at c.figure-2.ensures.written) in
    next_column (volume ∷ days ∷ []) periods second (rw c.from-3.ensures at c.figure-3.ensures.written)

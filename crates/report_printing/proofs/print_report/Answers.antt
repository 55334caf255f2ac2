use Rattle.std.proofs.Common.{◌≡◌, ◌+◌, refl, ap, sym, subst, List, length, All, ◌∙◌, arith}
use Rattle.statistics.specs.Ranges.{HistoryInRange}
use Rattle.buffers.specs.Bytes.{put}
use Rattle.buffers.proofs.Lists.{put_next, length-put}
use Rattle.year.specs.Setup.{Pollutant}
use Rattle.year.specs.Replay.{Progress, history}
use Rattle.year.proofs.Ranges.{periods-le}
use Rattle.report.specs.declared.Head.{Head}
use Rattle.report.specs.declared.Row.{Row}
use Rattle.report.specs.Report.{head_line, head_of}
use Rattle.report_scan.proofs.Noted.{length-rows}
use Rattle.report_printing.specs.Lines.{CumsumFits, row_lines}
use Rattle.report_printing.proofs.Lines.{year-lines, rows-fit}
use Rattle.report_printing.proofs.Whole.{whole_head}
use Rattle.report_printing.proofs.print_report.Goals as goal

pub head_line-requires-clause-periods : goal.head_line-requires-clause-periods
head_line-requires-clause-periods c = omega (arith, ap (λ (h : Head). h.periods) c.head_of.ensures, periods-le c.p.inside.setup.volume c.p.inside.setup.days)

pub print_rows-requires-clause-fits : goal.print_rows-requires-clause-fits
print_rows-requires-clause-fits c =
    let ranges = subst (λ (y : Progress). (q : Pollutant) → HistoryInRange 40 (history q y.tested)) c.p.view_is c.p.invariant.histories in
    subst (λ (l : List Row). All CumsumFits l) (sym c.requires.rows) (rows-fit c.args.p.now.tested ranges)

pub print_rows-requires-clause-room : goal.print_rows-requires-clause-room
print_rows-requires-clause-room c =
    let long = c.as_bytes.ensures.size in
    let kept = length-put c.args.out.now 0 c.as_bytes.result.now (omega (arith, long, c.requires.room)) in
    omega (arith, ap length c.put_front.ensures, kept, ap length c.requires.rows, length-rows c.args.p.now.tested, c.requires.room)

-- the head line, and the lines of the engines behind it
pub returns : goal.returns
returns c =
    let out = c.args.out.now in
    let head = whole_head c.as_bytes.ensures.written _ c.head_line.ensures.written ∙ ap head_line c.head_of.ensures ∙ ap (λ (y : Progress). head_line (head_of y.setup)) c.p.view_is in
    let here : 61 ≡ 0 + length c.as_bytes.result.now = omega (arith, c.as_bytes.ensures.size) in
    let lines = ap row_lines c.requires.rows ∙ year-lines c.args.p.now.tested in
    c.print_rows.ensures
    ∙ ap (λ b. put b 61 (row_lines c.args.rows.now)) c.put_front.ensures
    ∙ ap (λ n. put (put out 0 c.as_bytes.result.now) n (row_lines c.args.rows.now)) here
    ∙ put_next out 0 c.as_bytes.result.now (row_lines c.args.rows.now) (omega arith)
    ∙ rw (head, lines) refl

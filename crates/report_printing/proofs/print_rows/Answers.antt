use Rattle.std.proofs.Common.{ap, refl, sym, length, ◌∙◌, arith}
use Rattle.std.proofs.lemmas.List.{take_more}
use Rattle.buffers.proofs.Lists.{put_none}
use Rattle.report_printing.proofs.Lines.{size-next, lines-next}
use Rattle.report_printing.proofs.Whole.{whole_row}
use Rattle.report_printing.proofs.print_rows.Goals as goal

pub loop-r-init : goal.loop-r-init
loop-r-init c = record { place = refl; size = refl; lines = sym (put_none c.args.out.now 61) }

pub loop-r-preserved : goal.loop-r-preserved
loop-r-preserved c =
    let rs = c.args.rows.now in
    let n = c.loop-r.r-index in
    let i = c.loop-r.invariant in
    let more = take_more rs n _ c.loop-r-test.true in
    let copied = c.copy_from_slice.ensures.after in
    let line = copied ∙ whole_row c.as_bytes.ensures.written _ c.row_line-line.ensures.written in
    let long = ap length copied ∙ c.as_bytes.ensures.size in
    record {
      place = omega (arith, i.place);
      size = size-next rs n _ more _ line long i.size;
      lines = lines-next rs n _ more _ line long i.size c.args.out.now c.loop-r.out c.loop-r.place c.requires.room i.place i.lines;
    }

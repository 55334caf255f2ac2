-- The worked cases of the wall page's call: each is computed.
use mathlib.Core.Path.{refl}
use Rattle.rounding.specs.Result.{nearest_even}
use Rattle.statistics.specs.Spread.{variation}
use Rattle.statistics.specs.SampleSize.{size_reached}
use Rattle.cumsum.specs.Marks.{compared, failed, undecided}
use Rattle.buffers.specs.Bytes.{put}
use Rattle.ascii.specs.Decimal.{decimal_up_to, decimal}
use Rattle.year.specs.Periods.{periods, needs}
use Rattle.year.specs.Verdict.{verdict}
use Rattle.year.specs.Admissible.{closed, admissible}
use Rattle.report.specs.Report.{head_line, row_line}
use Rattle.journal.specs.Encode.{can_hold}
use Rattle.journal.specs.Read.{read_as}
use Rattle.reference.specs.Refusals.{refusals, refusal}
use Rattle.reference.specs.Answers.{out_after, out_part}
use Rattle.reference.specs.CasesOfReport.{CasesOfReport}

pub cases-of-report : CasesOfReport
unfolding nearest_even variation size_reached compared failed undecided put decimal_up_to decimal periods needs verdict closed admissible head_line row_line can_hold read_as refusals refusal out_after out_part
cases-of-report =
    record {
      none_too_short = refl;
      none_fits = refl;
      one_too_short = refl;
      one_fits = refl;
      journal_size = refl;
      no_setup = refl;
      failed = refl;
      declared = refl;
      refused_leaves = refl;
      refused_part = refl;
      behind_kept = refl;
      handed_back = refl;
    }

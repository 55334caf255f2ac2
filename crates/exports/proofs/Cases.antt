-- The worked cases hold.
use mathlib.Core.Path.{refl}
use Rattle.buffers.specs.Bytes.{put}
use Rattle.rounding.specs.Result.{nearest_even}
use Rattle.statistics.specs.Spread.{variation}
use Rattle.statistics.specs.SampleSize.{t95, sample_size, size_reached}
use Rattle.cumsum.specs.Marks.{compared, failed, undecided}
use Rattle.year.specs.Periods.{periods, needs}
use Rattle.year.specs.Verdict.{verdict}
use Rattle.year.specs.Admissible.{closed, admissible}
use Rattle.journal.specs.Encode.{can_hold, append}
use Rattle.journal.specs.Read.{read_as}
use Rattle.reference.specs.Refusals.{refusals, refusal}
use Rattle.reference.specs.Answers.{answer, outcome, journal_after}
use Rattle.ascii.specs.Decimal.{decimal_up_to, decimal}
use Rattle.protocol.specs.KeyLine.{call_of, command_of, numbers_from}
use Rattle.protocol.specs.Reply.{reply_to, journal_after_line}
use Rattle.exports.specs.Numbers.{pollutant_numbers, status_numbers}
use Rattle.exports.specs.Exports.{reply_count, reply_left, line_left, refusal_given, figures_left, journal_left}
use Rattle.exports.specs.Cases.{Cases}

pub cases : Cases
unfolding put nearest_even variation t95 sample_size size_reached compared failed undecided periods needs verdict closed admissible can_hold append read_as refusals refusal answer outcome journal_after decimal_up_to decimal call_of command_of numbers_from reply_to journal_after_line pollutant_numbers status_numbers reply_count reply_left line_left refusal_given figures_left journal_left
cases =
    record {
      second_numbers = refl;
      refused_numbers = refl;
      replied = refl;
      short_output = refl;
      reply_at_front = refl;
      reply_kept = refl;
      line_done = refl;
      line_not_done = refl;
      given = refl;
      few_figures = refl;
      figures_at_front = refl;
      figures_kept = refl;
      entered = refl;
      asked = refl;
      figures_asked = refl;
      not_entered = refl;
    }

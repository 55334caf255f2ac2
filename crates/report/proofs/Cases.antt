-- The worked lines and pages: each is computed.
use mathlib.Core.Path.{refl}
use Rattle.statistics.specs.Spread.{variation}
use Rattle.statistics.proofs.Deviations.{deviation-none}
use Rattle.cumsum.specs.Marks.{compared}
use Rattle.ascii.specs.Decimal.{spelt, decimal_up_to, decimal}
use Rattle.year.specs.Periods.{periods}
use Rattle.report.specs.Report.{head_line, row_line}
use Rattle.report.specs.Cases.{Cases}

pub cases : Cases
unfolding variation compared spelt decimal_up_to decimal periods head_line row_line
cases =
    record {
      head_of_5000 = refl;
      line_of_7 = refl;
      page_of_none = refl;
      page_of_one = refl;
      page_of_three = simp deviation-none;
      page_of_remaining = simp deviation-none;
      head_read = refl;
      row_read = refl;
      second_line = refl;
    }

-- The worked cases of the stored journal. A deviation with V = 0 is 0 by its law; the rest is computed.
use mathlib.Core.Path.{refl}
use Rattle.rounding.specs.Result.{nearest_even}
use Rattle.statistics.specs.Spread.{variation}
use Rattle.statistics.specs.SampleSize.{t95, size_reached}
use Rattle.statistics.proofs.Deviations.{deviation-none}
use Rattle.cumsum.specs.Marks.{compared, failed, undecided}
use Rattle.buffers.specs.Bytes.{put}
use Rattle.year.specs.Periods.{periods, needs}
use Rattle.year.specs.Verdict.{verdict}
use Rattle.year.specs.Admissible.{closed, admissible}
use Rattle.journal.specs.Encode.{can_hold, append}
use Rattle.journal.specs.Read.{read_as}
use Rattle.journal.specs.Cases.{Cases}

pub cases : Cases
unfolding nearest_even variation t95 size_reached compared failed undecided put periods needs verdict closed admissible can_hold append read_as
cases =
    record {
      size = refl;
      header = refl;
      production = refl;
      read_production = refl;
      unused = refl;
      engine_slot = refl;
      amendment_slot = refl;
      period_slot = refl;
      declaration_slot = refl;
      deletion_slot = refl;
      appended = refl;
      appended_next = refl;
      appended_strike = refl;
      appended_after = refl;
      appended_second = refl;
      read_none = refl;
      read_one = refl;
      read_two = refl;
      read_struck = refl;
      read_zeros = refl;
      version_two = refl;
      version_two_of_one = refl;
      version_one = refl;
      version_three = refl;
      version_zero = refl;
      version_high = refl;
      dirty_header = refl;
      dirty_slot = refl;
      dirty_strike = refl;
      dirty_unused = refl;
      other_kind = refl;
      too_long = refl;
      too_short = refl;
      result_at_most = refl;
      result_above = refl;
      after_declaration = refl;
      strike_of_none = refl;
      strike_earlier = simp deviation-none;
      read_each_kind = simp deviation-none;
    }

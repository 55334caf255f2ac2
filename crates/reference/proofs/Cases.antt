-- The worked cases of the calls. A deviation with V = 0 is 0 by its law; the rest is computed.
use mathlib.Core.Path.{refl}
use Rattle.rounding.specs.Result.{nearest_even}
use Rattle.statistics.specs.Spread.{variation}
use Rattle.statistics.specs.SampleSize.{t95, sample_size, size_reached}
use Rattle.statistics.proofs.Deviations.{deviation-none}
use Rattle.statistics.proofs.Cases as statistics
use Rattle.cumsum.specs.Marks.{compared, failed, undecided}
use Rattle.buffers.specs.Bytes.{put}
use Rattle.year.specs.Periods.{periods, needs}
use Rattle.year.specs.Verdict.{verdict}
use Rattle.year.specs.Admissible.{closed, admissible}
use Rattle.year.proofs.Cases.{of-2367-3236}
use Rattle.journal.specs.Encode.{can_hold, append}
use Rattle.journal.specs.Read.{read_as}
use Rattle.reference.specs.Refusals.{refusals, refusal}
use Rattle.reference.specs.Answers.{journal_after, answer, out_after, out_part}
use Rattle.reference.specs.Model.{step_model}
use Rattle.reference.specs.Cases.{Cases}

pub cases : Cases
unfolding nearest_even variation t95 sample_size size_reached compared failed undecided put periods needs verdict closed admissible can_hold append read_as refusals refusal journal_after answer out_after out_part step_model
cases =
    record {
      journal_size = refl;
      journal_longer = refl;
      volume = refl;
      standard = refl;
      factor_kind = refl;
      factor_below = refl;
      setup_over_declared = refl;
      amendment_standard = refl;
      amendment_no_setup = refl;
      status_no_setup = refl;
      marks_no_setup = refl;
      engine_no_setup = refl;
      after_declaration = refl;
      amendment_after = refl;
      period_after = refl;
      declaration_after = refl;
      after_failure = simp deviation-none;
      status_declared = refl;
      declared_and_stored = refl;
      events_stored = refl;
      number_zero = refl;
      number_above = refl;
      number_again = refl;
      no_readings = refl;
      counts_differ = refl;
      counts_unequal = refl;
      four_readings = refl;
      reading = refl;
      second_reading = refl;
      third_reading = refl;
      reading_hcnox = refl;
      reading_co = refl;
      result = refl;
      period_short = refl;
      period_last = simp deviation-none;
      period_next = simp deviation-none;
      marks_size = refl;
      marks_fit = refl;
      refused_leaves = refl;
      declared_leaves = refl;
      refused_answer = refl;
      setup_writes = refl;
      setup_answer = refl;
      entry_writes = refl;
      entry_answer = refl;
      status_at_1024 = (statistics.cases).deviation_at_1024;
      marks_at_1024 = simp (of-2367-3236, deviation-none);
      marks_written = refl;
      marks_handed_back = refl;
      marks_refused = refl;
      model_of_none = refl;
      model_of_one = refl;
      model_of_two = refl;
      accepted_in_list = refl;
      refused_in_list = refl;
      journal_of_one = refl;
      model_anew = refl;
      model_engine = refl;
      model_factored = refl;
      model_declared = refl;
      model_period = simp deviation-none;
    }

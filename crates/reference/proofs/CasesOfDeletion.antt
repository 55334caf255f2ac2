-- The worked cases of the strike. A deviation with V = 0 is 0 by its law, and engines at their standards have not failed; the rest is computed.
use mathlib.Core.Path.{◌≡◌, refl}
use mathlib.Core.List.{[], ◌∷◌}
use Rattle.rounding.specs.Result.{nearest_even}
use Rattle.statistics.specs.Spread.{variation}
use Rattle.statistics.specs.SampleSize.{t95, sample_size, size_reached}
use Rattle.statistics.proofs.Deviations.{deviation-none}
use Rattle.cumsum.specs.Marks.{compared, failed, undecided}
use Rattle.buffers.specs.Bytes.{put}
use Rattle.year.specs.declared.Event.TheVariants.{Deletion}
use Rattle.year.specs.Periods.{periods, needs}
use Rattle.year.specs.Replay.{Progress, replay}
use Rattle.year.specs.Verdict.{verdict}
use Rattle.year.specs.Admissible.{closed, admissible}
use Rattle.year.specs.Cases.{setup_of, engines_to}
use Rattle.year.proofs.CasesOfVerdict.{never-rising}
use Rattle.journal.specs.Encode.{can_hold, append}
use Rattle.journal.specs.Read.{read_as}
use Rattle.reference.specs.Refusals.{refusals, refusal}
use Rattle.reference.specs.Answers.{journal_after, answer}
use Rattle.reference.specs.Model.{step_model}
use Rattle.reference.specs.Cases.{year_of, entering}
use Rattle.reference.specs.CasesOfDeletion.{CasesOfDeletion}
use Rattle.reference.proofs.CasesOfForty.{open-at-3}

-- forty engines and a strike
abbrev struck : Progress
struck = replay (setup_of 5000 800) (Deletion ∷ engines_to 40)

engine-of-41 : refusal 544 (entering 41 (1 ∷ []) (1 ∷ [])) (year_of (Deletion ∷ engines_to 40)) ≡ 0
unfolding refusals refusal nearest_even variation size_reached needs
engine-of-41 = rw (open-at-3 struck (never-rising struck refl refl refl))

pub cases-of-deletion : CasesOfDeletion
unfolding nearest_even variation t95 sample_size size_reached compared failed undecided put periods needs verdict closed admissible can_hold append read_as refusals refusal journal_after answer step_model
cases-of-deletion =
    record {
      of_none = refl;
      of_earlier_period = simp deviation-none;
      of_none_left = refl;
      twice = refl;
      after_amendment = refl;
      size = refl;
      no_setup = refl;
      failed = simp deviation-none;
      declared = refl;
      slot_left = refl;
      no_slot = refl;
      no_slot_no_engine = refl;
      slots_in_use = refl;
      number_again = refl;
      number_of_remaining = refl;
      short_again = refl;
      amendment_of_none = refl;
      period_of_none = refl;
      period_after_period = simp deviation-none;
      engine_of_41 = engine-of-41;
      strike_writes = refl;
      second_writes = refl;
      refused_leaves = refl;
      refused_answer = refl;
      strike_answer = refl;
      model_struck = refl;
      journal_struck = refl;
      journal_anew = refl;
    }

-- The worked cases of the preview. A deviation with V = 0 is 0 by its law, and engines at their standards have not failed; the rest is computed.
use mathlib.Core.Path.{◌≡◌, refl}
use mathlib.Core.List.{[], ◌∷◌}
use Prim.Native.Nat.{ℕ}
use Rattle.rounding.specs.Result.{nearest_even}
use Rattle.statistics.specs.Spread.{variation}
use Rattle.statistics.specs.SampleSize.{t95, sample_size, size_reached}
use Rattle.statistics.proofs.Deviations.{deviation-none}
use Rattle.cumsum.specs.Marks.{compared, failed, undecided}
use Rattle.buffers.specs.Bytes.{put}
use Rattle.year.specs.Periods.{periods, needs}
use Rattle.year.specs.Replay.{Progress, replay}
use Rattle.year.specs.Verdict.{verdict}
use Rattle.year.specs.Admissible.{closed, admissible}
use Rattle.year.specs.Cases.{setup_of, engines_to}
use Rattle.year.proofs.CasesOfVerdict.{never-rising}
use Rattle.journal.specs.Encode.{can_hold, append}
use Rattle.journal.specs.Read.{read_as}
use Rattle.reference.specs.Refusals.{refusals, refusal}
use Rattle.reference.specs.Answers.{journal_after, answer}
use Rattle.reference.specs.Model.{step_model}
use Rattle.reference.specs.Cases.{year_of}
use Rattle.reference.specs.CasesOfPreview.{previewing, CasesOfPreview}
use Rattle.reference.proofs.CasesOfForty.{open-at-3}

-- engines at their standards leave the year open: a fortieth can be asked about, a forty-first is refused
abbrev year : ℕ → Progress
year n = replay (setup_of 5000 800) (engines_to n)

engine-of-40 : refusal 544 (previewing 40 (1 ∷ []) (1 ∷ [])) (year_of (engines_to 39)) ≡ 0
unfolding refusals refusal nearest_even variation size_reached needs
engine-of-40 = rw (open-at-3 (year 39) (never-rising (year 39) refl refl refl))

engine-of-41 : refusal 544 (previewing 41 (1 ∷ []) (1 ∷ [])) (year_of (engines_to 40)) ≡ 14
unfolding refusals refusal nearest_even variation size_reached needs
engine-of-41 = rw (open-at-3 (year 40) (never-rising (year 40) refl refl refl))

pub cases-of-preview : CasesOfPreview
unfolding nearest_even variation t95 sample_size size_reached compared failed undecided put periods needs verdict closed admissible can_hold append read_as refusals refusal journal_after answer step_model
cases-of-preview =
    record {
      size = refl;
      no_setup = refl;
      declared = refl;
      failed = simp deviation-none;
      no_slot = refl;
      slot_left = refl;
      number_zero = refl;
      number_again = refl;
      number_free = refl;
      counts_differ = refl;
      four_readings = refl;
      reading = refl;
      result = refl;
      engine_of_41 = engine-of-41;
      engine_of_40 = engine-of-40;
      kept = refl;
      refused_kept = refl;
      answer_with_engine = refl;
      status_after = refl;
      refused_answer = refl;
      number_answer = refl;
      model_one = refl;
      journal_one = refl;
      others = refl;
      queries_stay = refl;
      others_answer = refl;
    }

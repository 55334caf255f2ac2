-- W-202's promises, proved: a preview is refused and answered as the engine's entry is, and leaves the journal and the model.
use mathlib.Core.Path.{◌≡◌, refl, sym, ap, ◌∙◌}
use mathlib.Core.Bool.{Bool, true, false, cond, false≢true}
use mathlib.Core.List.{List, [], ◌∷◌}
use Prim.Native.Nat.{ℕ}
use lib.Dec.{eqb}
use Rattle.conditions.proofs.Tests.{cond_same}
use Rattle.year.specs.Model.{Model}
use Rattle.reference.specs.Call.{Readings, Query, Call, SetUp, Enter, Ask}
use Rattle.reference.specs.Refusals.{refusals, refusal}
use Rattle.reference.specs.Answers.{refusal_on, journal_after, answer, outcome}
use Rattle.reference.specs.Model.{step_model, model_of, journal_of}
use Rattle.reference.specs.Deletion.{engine_call}
use Rattle.reference.specs.Preview.{preview_call, is_preview, without_previews, left_by, others_give, PreviewPromises}
use Rattle.reference.proofs.Demand1.{demand-1}
use Rattle.reference.proofs.Demand2.{demand-2}

module _ (number : ℕ) (readings : Readings) (journal : List ℕ) where
  refused-as : refusal_on (preview_call number readings) journal ≡ refusal_on (engine_call number readings) journal
  unfolding refusal refusals
  refused-as = refl

  pub answered-as : answer (preview_call number readings) journal ≡ answer (engine_call number readings) journal
  unfolding answer refusal refusals
  answered-as = refl

  outcome-as : outcome (preview_call number readings) journal ≡ outcome (engine_call number readings) journal
  unfolding outcome refusal refusals
  outcome-as = refl

-- a query leaves the model, accepted or not
pub query-leaves : (query : Query) (model : Model) → step_model (Ask query) model ≡ model
unfolding step_model
query-leaves query model = cond_same (eqb (refusal 544 (Ask query) model) 0) model

-- what a list of calls leaves, step by step, is what it leaves without previews, if a step of a query changes nothing
module _ {A : Type 0} (step : Call → A → A) (after : List Call → A) (next : (call : Call) (calls : List Call) → after (call ∷ calls) ≡ step call (after calls))
    (leaves : (query : Query) (x : A) → step (Ask query) x ≡ x) where
  preview-leaves : (call : Call) (x : A) → is_preview call ≡ true → step call x ≡ x
  preview-leaves (SetUp s) x h = absurd (false≢true h)
  preview-leaves (Enter entry) x h = absurd (false≢true h)
  preview-leaves (Ask query) x h = leaves query x

  same : (calls : List Call) → after calls ≡ after (without_previews calls)
  same [] = refl
  same (call ∷ calls) = next call calls ∙ by (same calls) (is_preview call) refl
    where
      by : after calls ≡ after (without_previews calls) → (b : Bool) → is_preview call ≡ b
          → step call (after calls) ≡ after (cond b (without_previews calls) (call ∷ without_previews calls))
      by before true e = preview-leaves call (after calls) e ∙ before
      by before false e = ap (step call) before ∙ sym (next call (without_previews calls))

left-same : (journal : List ℕ) (calls : List Call) → left_by journal calls ≡ left_by journal (without_previews calls)
left-same journal = same journal_after (left_by journal) (λ call calls. refl) demand-1.query_kept

module _ {A : Type 0} (give : Call → List ℕ → A) (journal : List ℕ) where
  others-same : (calls : List Call) → others_give give journal calls ≡ others_give give journal (without_previews calls)
  others-same [] = refl
  others-same (call ∷ calls) = by (others-same calls) (is_preview call) refl
    where
      by : others_give give journal calls ≡ others_give give journal (without_previews calls) → (b : Bool) → is_preview call ≡ b
          → cond b (others_give give journal calls) (give call (left_by journal calls) ∷ others_give give journal calls)
          ≡ others_give give journal (cond b (without_previews calls) (call ∷ without_previews calls))
      by before true e = before
      by before false e = rw (e, left-same journal calls, before)

pub preview-promises : PreviewPromises
preview-promises =
    record {
      refused_as = refused-as;
      answered_as = answered-as;
      outcome_as = outcome-as;
      same_engine = λ e. refl;
      kept = λ number readings. demand-1.query_kept _;
      status_after = λ number readings journal h. demand-2.answered (preview_call number readings) journal h;
      left = left-same;
      journal = same journal_after journal_of (λ call calls. refl) demand-1.query_kept;
      model = same step_model model_of (λ call calls. refl) query-leaves;
      others = others-same;
    }

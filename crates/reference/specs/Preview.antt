-- Document 02, W-202: "the reply for an engine before the book takes it". "The first takes the book and readings and tells the reply, writing nothing. The second
-- takes the same things, and its reply and refusals equal those of the first on the same book." The first is our preview, the second the engine's entry.
use Rattle.std.specs.Prelude.{◌≡◌, Bool, true, cond, List, [], ◌∷◌, ℕ}
use Rattle.reference.specs.declared.EngineEntry.{EngineEntry}
use Rattle.reference.specs.Call.{Readings, ReadStatus, Preview, Call, Enter, Ask, entry_of, preview_of, previewed, of_query, of_preview}
use Rattle.reference.specs.Answers.{refusal_on, journal_after, answer, outcome}
use Rattle.reference.specs.Model.{model_of, journal_of}
use Rattle.reference.specs.Deletion.{engine_call}

abbrev pub preview_call : ℕ → Readings → Call
preview_call number readings = Ask (Preview number readings)

abbrev pub is_preview : Call → Bool
is_preview = of_query (of_preview (λ number readings. true))

-- a list of calls with all previews taken out
abbrev pub without_previews : List Call → List Call
without_previews [] = []
without_previews (call ∷ calls) = cond (is_preview call) (without_previews calls) (call ∷ without_previews calls)

-- the journal after a list of calls, the newest first, of which the first is lent this one
abbrev pub left_by : List ℕ → List Call → List ℕ
left_by journal [] = journal
left_by journal (call ∷ calls) = journal_after call (left_by journal calls)

-- what the calls of a list give that are no previews, the newest first: `give` of each, on the journal that the calls before it left
module _ {A : Type 0} (give : Call → List ℕ → A) where
  abbrev pub others_give : List ℕ → List Call → List A
  others_give journal [] = []
  others_give journal (call ∷ calls) = cond (is_preview call) (others_give journal calls) (give call (left_by journal calls) ∷ others_give journal calls)

pub record PreviewPromises : Type 1 where
  -- on a lent journal of any length and content, for every number and any readings: "its reply and refusals equal those of the first on the same book"
  pub refused_as : (number : ℕ) (readings : Readings) (journal : List ℕ) → refusal_on (preview_call number readings) journal ≡ refusal_on (engine_call number readings) journal
  pub answered_as : (number : ℕ) (readings : Readings) (journal : List ℕ) → answer (preview_call number readings) journal ≡ answer (engine_call number readings) journal
  -- and so are the answer's number and figures, which the library's functions give
  pub outcome_as : (number : ℕ) (readings : Readings) (journal : List ℕ) → outcome (preview_call number readings) journal ≡ outcome (engine_call number readings) journal
  -- "The second takes the same things": what is lent to both for an engine is the same number and readings
  pub same_engine : (e : EngineEntry) → previewed (Ask (preview_of e)) ≡ Enter (entry_of e)
  -- "writing nothing"
  pub kept : (number : ℕ) (readings : Readings) (journal : List ℕ) → journal_after (preview_call number readings) journal ≡ journal
  -- so a preview that is accepted answers what status answers after the entry
  pub status_after : (number : ℕ) (readings : Readings) (journal : List ℕ) → refusal_on (preview_call number readings) journal ≡ 0
      → answer (preview_call number readings) journal ≡ answer (Ask ReadStatus) (journal_after (engine_call number readings) journal)
  -- "A year's book must come out the same however many times T was pressed." After every list of calls, refused ones included, on any journal, and on one that is all
  -- zero as in demand 3, the journal is that of the list without its previews; so is the state of the reference model
  pub left : (journal : List ℕ) (calls : List Call) → left_by journal calls ≡ left_by journal (without_previews calls)
  pub journal : (calls : List Call) → journal_of calls ≡ journal_of (without_previews calls)
  pub model : (calls : List Call) → model_of calls ≡ model_of (without_previews calls)
  -- and every other call gives what it gives there: its answer, an output, or whatever else depends on the call and the journal that it is lent
  pub others : {A : Type 0} (give : Call → List ℕ → A) (journal : List ℕ) (calls : List Call) → others_give give journal calls ≡ others_give give journal (without_previews calls)

-- Document 01, "The plain year of a list of calls", on the bytes of a journal: the journal and the reference model stay in step, call by call.
use Rattle.std.specs.Prelude.{◌≡◌, List, ℕ, length}
use Rattle.year.specs.Model.{Model}
use Rattle.journal.specs.Read.{read_journal}
use Rattle.reference.specs.Call.{Call}
use Rattle.reference.specs.Answers.{journal_after}
use Rattle.reference.specs.Model.{step_model, model_of, journal_of}

-- a journal has 544 bytes and is read as this state of the model
pub record Holds (journal : List ℕ) (model : Model) : Type 0 where
  pub size : length journal ≡ 544
  pub reads : read_journal journal ≡ model

pub record StoredCalls : Type 0 where
  -- each call, refused or not, on 544 bytes of any content is a step of the model from the state that they are read as
  pub step : (journal : List ℕ) → length journal ≡ 544 → (call : Call) → Holds (journal_after call journal) (step_model call (read_journal journal))
  -- so after every list of calls, on a buffer that was all zero, the journal is read as the model of the list
  pub every : (calls : List Call) → Holds (journal_of calls) (model_of calls)

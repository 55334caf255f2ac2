-- Document 01, "The plain year of a list of calls": the reference model ("plain year"), fed the arguments of calls alone.
use Rattle.std.specs.Prelude.{Bool, false, cond, ◌&&◌, ◌||◌, List, [], ◌∷◌, ℕ, eqb}
use Rattle.buffers.specs.Bytes.{zeros}
use Rattle.year.specs.Replay.{replay}
use Rattle.year.specs.Model.{Model, NoSetup, Year}
use Rattle.reference.specs.Call.{Entry, Call, SetUp, Enter, Ask, event_of, is_setup}
use Rattle.reference.specs.Refusals.{refusal}
use Rattle.reference.specs.Answers.{journal_after}

-- "Each other accepted entry adds its event at the end": the newest event comes first in the list
abbrev pub with_event : Entry → Model → Model
with_event entry NoSetup = NoSetup
with_event entry (Year s es) = Year s (event_of (replay s es) entry ∷ es)

-- "An accepted setup becomes the setup, with no events."
abbrev pub accepted : Call → Model → Model
accepted (SetUp s) model = Year s []
accepted (Enter entry) model = with_event entry model
accepted (Ask query) model = model

-- "A call is refused if a refusal above applies to its arguments and this state, read in the book's place. .. A refused call leaves the state."
unfoldable pub step_model : Call → Model → Model
step_model call model = cond (eqb (refusal 544 call model) 0) (accepted call model) model

-- the state after a list of calls, listed with the newest first
abbrev pub model_of : List Call → Model
model_of [] = NoSetup
model_of (call ∷ calls) = step_model call (model_of calls)

-- "The book buffer has 544 bytes, all zero before the first call. Each call is lent it as the last one left it": the journal after the same list
abbrev pub journal_of : List Call → List ℕ
journal_of [] = zeros 544
journal_of (call ∷ calls) = journal_after call (journal_of calls)

-- demand 3: a list of calls "with an accepted setup in it"
abbrev pub setup_accepted : List Call → Bool
setup_accepted [] = false
setup_accepted (call ∷ calls) = is_setup call && eqb (refusal 544 call (model_of calls)) 0 || setup_accepted calls

-- ("At m it has the marks, brackets and verdict that the definitions give for this setup and these events in work at m": `marks_at`, `cumsum_at`, `limit_at` and
-- `verdict_at` of `replay s es`, in the crate year, specs/Work.)

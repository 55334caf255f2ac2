-- The decision on an entry, by the whole table of refusals: the event that it adds, or its refusal.
use Rattle.std.specs.Prelude.{List, ℕ, Result, Err}
use Rattle.year.specs.declared.Event.{Event}
use Rattle.year.specs.Replay.{replay}
use Rattle.year.specs.Model.{Model, NoSetup, Year}
use Rattle.journal.specs.Read.{read_journal}
use Rattle.reference.specs.Call.{Entry, Enter, event_of}
use Rattle.reference.specs.declared.Refusal.{Refusal}
use Rattle.reference.specs.Refused.{named, unless_refused}
use Rattle.reference.specs.Answers.{refusal_on}

-- the decision on an entry with this refusal, 0 for none: the event that it adds is the one that `with_entry` of `Answers` writes; without a setup it is refused
abbrev pub decision : Entry → ℕ → Model → Result Event Refusal
decision entry number NoSetup = Err (named number)
decision entry number (Year s es) = unless_refused number (event_of (replay s es) entry)

-- the decision on an entry on a journal of any length and content
abbrev pub decision_on : Entry → List ℕ → Result Event Refusal
decision_on entry journal = decision entry (refusal_on (Enter entry) journal) (read_journal journal)

-- The calls of documents 01 and 02 with their arguments, which may have any value; and the event that an entry adds to a year.
use Rattle.std.specs.Prelude.{Bool, true, false, List, ℕ, length}
use Rattle.rounding.specs.Result.{result_of}
use Rattle.year.specs.declared.Pair.{Pair}
use Rattle.year.specs.declared.Setup.{Setup}
use Rattle.year.specs.declared.Event.{Event}
use Rattle.year.specs.declared.Event.TheVariants.{Engine, Amendment, NextPeriod, Declaration, Deletion}
use Rattle.year.specs.Setup.{Pollutant, Hcnox, Co, factor_of}
use Rattle.year.specs.Replay.{Progress}
use Rattle.reference.specs.declared.EngineEntry.{EngineEntry}
use Rattle.reference.specs.declared.Change.{Change}
use Rattle.reference.specs.declared.Change.TheVariants.{Amend, BeginPeriod, Declare, Delete}

-- an engine's readings for each pollutant
pub record Readings : Type 0 where
  pub hcnox : List ℕ
  pub co : List ℕ

abbrev pub readings_of : Pollutant → Readings → List ℕ
readings_of Hcnox readings = readings.hcnox
readings_of Co readings = readings.co

-- the five entries: an engine with its number and readings; or a change, which has no readings: an amendment with the new standards, the next period, a
-- declaration, a deletion ("strike")
pub data Entry : Type 0 where
  EnterEngine : ℕ → Readings → Entry
  EnterChange : Change → Entry

-- what is written into a lent output: the marks ("the strip"); the report ("the wall page" of document 02, W-205)
pub data Form : Type 0 where
  Marks : Form
  Report : Form

-- the calls that only read the journal: status; an output of some form, with the length of the buffer lent for it; and the preview of an engine with its number
-- and readings, which "only asks" what its entry would answer (document 02, W-202)
pub data Query : Type 0 where
  ReadStatus : Query
  Write : Form → ℕ → Query
  Preview : ℕ → Readings → Query

-- an engine's entry, and its preview, from its number, its HC+NOx readings and its CO readings
abbrev pub engine_entry : ℕ → List ℕ → List ℕ → Entry
engine_entry number hcnox co = EnterEngine number (record { hcnox = hcnox; co = co })

abbrev pub engine_preview : ℕ → List ℕ → List ℕ → Query
engine_preview number hcnox co = Preview number (record { hcnox = hcnox; co = co })

-- the same from an engine as a call is given it
abbrev pub entry_of : EngineEntry → Entry
entry_of e = engine_entry e.number e.readings.hcnox.now e.readings.co.now

abbrev pub preview_of : EngineEntry → Query
preview_of e = engine_preview e.number e.readings.hcnox.now e.readings.co.now

-- the ten calls: setup, five entries, and four queries: status, marks, report, preview
pub data Call : Type 0 where
  SetUp : Setup → Call
  Enter : Entry → Call
  Ask : Query → Call

-- the call by which a call is refused and answered: for a preview, which "tells the reply, writing nothing", the engine's entry, since "its reply and refusals equal
-- those of the first on the same book" (document 02, W-202); for any other call, that call
abbrev pub previewed : Call → Call
previewed (SetUp s) = SetUp s
previewed (Enter entry) = Enter entry
previewed (Ask ReadStatus) = Ask ReadStatus
previewed (Ask (Write form size)) = Ask (Write form size)
previewed (Ask (Preview number readings)) = Enter (EnterEngine number readings)

-- the results computed from an engine's readings
abbrev pub results_of : Setup → Readings → Pair ℕ
results_of s readings =
    record { hcnox = result_of (factor_of Hcnox s) readings.hcnox; co = result_of (factor_of Co s) readings.co }

-- "an engine with its number, reading count and the results worked from its readings, an amendment with its standards, a next period, a declaration"; and
-- of document 02, W-201, a strike
abbrev pub change_event : Change → Event
change_event (Amend standards) = Amendment standards
change_event BeginPeriod = NextPeriod
change_event Declare = Declaration
change_event Delete = Deletion

abbrev pub event_of : Progress → Entry → Event
event_of p (EnterEngine number readings) = Engine number (length readings.hcnox) (results_of p.setup readings)
event_of p (EnterChange change) = change_event change

abbrev pub is_setup : Call → Bool
is_setup (SetUp s) = true
is_setup (Enter entry) = false
is_setup (Ask query) = false

-- "the call would add an event": the entries do
abbrev pub adds_event : Call → Bool
adds_event (SetUp s) = false
adds_event (Enter entry) = true
adds_event (Ask query) = false

-- A test of the arguments of one kind of call; false for any other call.
abbrev pub of_setup : (Setup → Bool) → Call → Bool
of_setup test (SetUp s) = test s
of_setup test (Enter entry) = false
of_setup test (Ask query) = false

abbrev pub of_entry : (Entry → Bool) → Call → Bool
of_entry test (SetUp s) = false
of_entry test (Enter entry) = test entry
of_entry test (Ask query) = false

abbrev pub of_query : (Query → Bool) → Call → Bool
of_query test (SetUp s) = false
of_query test (Enter entry) = false
of_query test (Ask query) = test query

-- the same for one kind of entry or query
abbrev pub of_engine : (ℕ → Readings → Bool) → Entry → Bool
of_engine test (EnterEngine number readings) = test number readings
of_engine test (EnterChange change) = false

abbrev pub of_change : (Change → Bool) → Entry → Bool
of_change test (EnterEngine number readings) = false
of_change test (EnterChange change) = test change

abbrev pub of_amendment : (Pair ℕ → Bool) → Change → Bool
of_amendment test (Amend standards) = test standards
of_amendment test BeginPeriod = false
of_amendment test Declare = false
of_amendment test Delete = false

abbrev pub of_period : Bool → Change → Bool
of_period test (Amend standards) = false
of_period test BeginPeriod = test
of_period test Declare = false
of_period test Delete = false

abbrev pub of_deletion : Bool → Change → Bool
of_deletion test (Amend standards) = false
of_deletion test BeginPeriod = false
of_deletion test Declare = false
of_deletion test Delete = test

abbrev pub of_marks : (ℕ → Bool) → Query → Bool
of_marks test ReadStatus = false
of_marks test (Write Marks size) = test size
of_marks test (Write Report size) = false
of_marks test (Preview number readings) = false

abbrev pub of_report : (ℕ → Bool) → Query → Bool
of_report test ReadStatus = false
of_report test (Write Marks size) = false
of_report test (Write Report size) = test size
of_report test (Preview number readings) = false

abbrev pub of_preview : (ℕ → Readings → Bool) → Query → Bool
of_preview test ReadStatus = false
of_preview test (Write form size) = false
of_preview test (Preview number readings) = test number readings

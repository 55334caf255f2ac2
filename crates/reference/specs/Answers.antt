-- What each call gives back, and every byte that it leaves in the lent buffers (document 01, "The book" and "Refused calls, in checking order").
use Rattle.std.specs.Prelude.{cond, List, [], map, ℕ, eqb, length, Result, Ok, Err}
use Rattle.buffers.specs.Bytes.{put}
use Rattle.conditions.specs.Rows.{Row}
use Rattle.cumsum.specs.Marks.{mark_byte}
use Rattle.year.specs.declared.Status.{Status}
use Rattle.year.specs.Replay.{Progress, replay}
use Rattle.year.specs.Status.{blank, status, year_marks}
use Rattle.year.specs.Model.{Model, NoSetup, Year}
use Rattle.report.specs.Report.{report}
use Rattle.journal.specs.Encode.{setup_version, encode, append}
use Rattle.journal.specs.Read.{read_journal}
use Rattle.reference.specs.declared.Refusal.{Refusal}
use Rattle.reference.specs.declared.OutputOutcome.{OutputOutcome}
use Rattle.reference.specs.Call.{Entry, Form, Marks, Report, Write, Call, SetUp, Enter, Ask, event_of, previewed}
use Rattle.reference.specs.Refusals.{refusals, refusal}
use Rattle.reference.specs.Refused.{number_of, named}

-- the table for a call on a lent journal of any length and content, and its refusal, 0 for none
abbrev pub refusals_on : Call → List ℕ → List Row
refusals_on call journal = refusals (length journal) call (read_journal journal)

abbrev pub refusal_on : Call → List ℕ → ℕ
refusal_on call journal = refusal (length journal) call (read_journal journal)

-- the first value if the call is accepted, the second if it is refused
module _ {A : Type 0} where
  abbrev pub if_accepted : Call → List ℕ → A → A → A
  if_accepted call journal accepted refused = cond (eqb (refusal_on call journal) 0) accepted refused

-- "Each other entry writes its slot and byte 24", and the first strike byte 3
abbrev pub with_entry : Entry → Model → List ℕ → List ℕ
with_entry entry NoSetup journal = journal
with_entry entry (Year s es) journal = append journal (event_of (replay s es) entry)

-- "Setup takes a buffer of any content and writes all of it." A query leaves the journal unchanged
abbrev pub written : Call → List ℕ → List ℕ
written (SetUp s) journal = encode setup_version s []
written (Enter entry) journal = with_entry entry (read_journal journal) journal
written (Ask query) journal = journal

-- the journal after a call: what the call writes, or unchanged if it is refused
unfoldable pub journal_after : Call → List ℕ → List ℕ
journal_after call journal = if_accepted call journal (written call journal) journal

-- "every other figure of the answer zero, marks '-', N absent"
abbrev pub no_status : Status
no_status = record { n = 0; verdict = 0; figures = record { hcnox = blank 0; co = blank 0 } }

-- the status of a year, at the calculator's resolution of 1,024
abbrev pub status_of : Model → Status
status_of NoSetup = no_status
status_of (Year s es) = status 1024 (replay s es)

-- "An accepted setup or entry returns the status of the book that it leaves", a preview that of the book which the entry would leave (`previewed`), and the status
-- call that of the book it reads. "A refusal returns its number". (A call that writes an output returns a part and its refusal instead of an answer.)
unfoldable pub answer : Call → List ℕ → Result Status Refusal
answer call journal = if_accepted call journal (Ok (status_of (read_journal (journal_after (previewed call) journal)))) (Err (named (refusal_on call journal)))

-- document 01's refusal number, 0 for none, and figures for each case of an answer
pub record Outcome : Type 0 where
  pub refusal : ℕ
  pub status : Status

abbrev pub outcome_of : Result Status Refusal → Outcome
outcome_of (Ok s) = record { refusal = 0; status = s }
outcome_of (Err refusal) = record { refusal = number_of refusal; status = no_status }

-- the same for a call: "A refusal returns its number, every other figure of the answer zero, marks '-', N absent"
unfoldable pub outcome : Call → List ℕ → Outcome
outcome call journal =
    record { refusal = refusal_on call journal; status = if_accepted call journal (status_of (read_journal (journal_after (previewed call) journal))) no_status }

-- the bytes of each form of output. Marks: "two marks per engine, HC+NOx then CO", at the calculator's resolution of 1,024. Report: the wall page (document 02, W-205)
abbrev pub form_bytes : Form → Progress → List ℕ
form_bytes Marks p = map mark_byte (year_marks 1024 p)
form_bytes Report p = report p

abbrev pub out_bytes : Form → Model → List ℕ
out_bytes form NoSetup = []
out_bytes form (Year s es) = form_bytes form (replay s es)

-- "The strip call writes [them] at the front of a lent buffer": the whole buffer after the call
unfoldable pub out_after : Form → List ℕ → List ℕ → List ℕ
out_after form journal out = if_accepted (Ask (Write form (length out))) journal (put out 0 (out_bytes form (read_journal journal))) out

-- "and hands back just that written part of the buffer", or "an empty part" if it is refused. The same for the wall page: "The call hands back the written front part"
unfoldable pub out_part : Form → List ℕ → List ℕ → List ℕ
out_part form journal out = if_accepted (Ask (Write form (length out))) journal (out_bytes form (read_journal journal)) []

-- what it returns besides the bytes: how many it wrote, or its refusal
unfoldable pub output_answer : Form → List ℕ → List ℕ → Result ℕ Refusal
output_answer form journal out =
    if_accepted (Ask (Write form (length out))) journal
    (Ok (length (out_bytes form (read_journal journal))))
    (Err (named (refusal_on (Ask (Write form (length out))) journal)))

-- document 01's refusal number, 0 for none, and how many bytes were written, 0 if it is refused, for each case of this
abbrev pub output_outcome_of : Result ℕ Refusal → OutputOutcome
output_outcome_of (Ok count) = record { refusal = 0; length = count }
output_outcome_of (Err refusal) = record { refusal = number_of refusal; length = 0 }

-- the same for a call that writes an output
abbrev pub output_outcome : Form → List ℕ → List ℕ → OutputOutcome
output_outcome form journal out =
    record { refusal = refusal_on (Ask (Write form (length out))) journal; length = length (out_part form journal out) }

-- Demand 1: what a call leaves in the lent buffers, and by which number it is refused, for every call and every length and content of the buffers; with the
-- strike and refusal 17 of document 02, W-201, the preview of W-202, and the wall page and refusal 18 of W-205.
-- ("Each call ends" is the checker's verdict on the code.)
use Rattle.std.specs.Prelude.{◌≡◌, ◌↔◌, ◌≢◌, true, false, ◌&&◌, List, [], ◌∷◌, map, ℕ, ◌+◌, ◌*◌, ◌≤◌, ◌<◌, eqb, length, get_or}
use Rattle.buffers.specs.Bytes.{Outside}
use Rattle.conditions.specs.Rows.{Row, FirstApplies, NoneApplies}
use Rattle.year.specs.declared.Setup.{Setup}
use Rattle.year.specs.declared.Event.{Event}
use Rattle.year.specs.Replay.{replay}
use Rattle.year.specs.Model.{Year}
use Rattle.journal.specs.Encode.{setup_version, encode, slot_place, version_in, append}
use Rattle.journal.specs.Read.{read_journal}
use Rattle.reference.specs.Call.{Entry, EnterChange, Form, Marks, Report, Query, Write, Call, SetUp, Enter, Ask, event_of, of_change, of_deletion}
use Rattle.reference.specs.declared.Change.TheVariants.{Delete}
use Rattle.reference.specs.Answers.{refusals_on, refusal_on, journal_after, no_status, status_of, answer, outcome_of, out_bytes, out_after, out_part, output_answer, output_outcome_of}

pub record Demand1 : Type 0 where
  -- "The book and the strip .. are, after a refused call, byte for byte what they were"
  pub refused_journal : (call : Call) (journal : List ℕ) → refusal_on call journal ≢ 0 → journal_after call journal ≡ journal
  pub refused_out : (form : Form) (journal out : List ℕ) → refusal_on (Ask (Write form (length out))) journal ≢ 0 → out_after form journal out ≡ out
  -- "after an accepted call only the bytes that document 01 names for it have changed". For a setup these are all 544
  pub setup_written : (s : Setup) (journal : List ℕ) → refusal_on (SetUp s) journal ≡ 0 → journal_after (SetUp s) journal ≡ encode setup_version s []
  pub setup_size : (s : Setup) (journal : List ℕ) → refusal_on (SetUp s) journal ≡ 0 → length (encode setup_version s []) ≡ 544
  -- for an entry, its slot and byte 24, and for a strike on a journal of version 1 "byte 3 besides": the byte at every other index is unchanged, and so is the
  -- length
  pub entry_written : (entry : Entry) (journal : List ℕ) (s : Setup) (es : List Event) → read_journal journal ≡ Year s es
      → refusal_on (Enter entry) journal ≡ 0 → journal_after (Enter entry) journal ≡ append journal (event_of (replay s es) entry)
  pub entry_kept : (entry : Entry) (journal : List ℕ) (i : ℕ) → i ≢ 24 → i ≢ 3 → Outside (slot_place (get_or journal 24 0)) 8 i
      → get_or (journal_after (Enter entry) journal) i 0 ≡ get_or journal i 0
  pub version_kept : (entry : Entry) (journal : List ℕ) → (of_change (of_deletion true) entry && eqb (version_in journal) 1) ≡ false
      → get_or (journal_after (Enter entry) journal) 3 0 ≡ get_or journal 3 0
  pub version_raised : (journal : List ℕ) → refusal_on (Enter (EnterChange Delete)) journal ≡ 0 → version_in journal ≡ 1
      → version_in (journal_after (Enter (EnterChange Delete)) journal) ≡ 2
  pub entry_size : (entry : Entry) (journal : List ℕ) → length (journal_after (Enter entry) journal) ≡ length journal
  -- for status, marks, the wall page and a preview, none in the journal
  pub query_kept : (query : Query) (journal : List ℕ) → journal_after (Ask query) journal ≡ journal
  -- for an output, the bytes of its form, at the front; for marks, the first 2n, and for the wall page the first 61 × (n + 1). The byte at every other index is
  -- unchanged, and so is the length
  pub out_kept : (form : Form) (journal out : List ℕ) (i : ℕ) → length (out_bytes form (read_journal journal)) ≤ i
      → get_or (out_after form journal out) i 0 ≡ get_or out i 0
  pub out_size : (form : Form) (journal out : List ℕ) → length (out_after form journal out) ≡ length out
  pub marks_count : (journal : List ℕ) → length (out_bytes Marks (read_journal journal)) ≡ 2 * (status_of (read_journal journal)).n
  pub report_count : (journal : List ℕ) (s : Setup) (es : List Event) → read_journal journal ≡ Year s es
      → length (out_bytes Report (read_journal journal)) ≡ 61 * ((status_of (read_journal journal)).n + 1)
  -- "A call is refused only if one of 01's refusals applies, and the first that applies, in 01's order, is the one returned."
  pub refused_by : (call : Call) (journal : List ℕ) (r : ℕ) → 0 < r → (refusal_on call journal ≡ r) ↔ FirstApplies (refusals_on call journal) r
  pub accepted : (call : Call) (journal : List ℕ) → (refusal_on call journal ≡ 0) ↔ NoneApplies (refusals_on call journal)
  pub order : (call : Call) (journal : List ℕ) → map (λ (row : Row). row.1) (refusals_on call journal) ≡ 3 ∷ 4 ∷ 5 ∷ 6 ∷ 7 ∷ 8 ∷ 9 ∷ 17 ∷ 10 ∷ 11 ∷ 12 ∷ 13 ∷ 14 ∷ 15 ∷ 16 ∷ 18 ∷ []
  pub returned : (call : Call) (journal : List ℕ) → (outcome_of (answer call journal)).refusal ≡ refusal_on call journal
  pub out_returned : (form : Form) (journal out : List ℕ) → (output_outcome_of (output_answer form journal out)).refusal ≡ refusal_on (Ask (Write form (length out))) journal
  -- the length that is returned is that of the part
  pub out_counted : (form : Form) (journal out : List ℕ) → (output_outcome_of (output_answer form journal out)).length ≡ length (out_part form journal out)
  -- "every other figure of the answer zero, marks '-', N absent, and an empty part" (document 01, "Refused calls, in checking order")
  pub refused_status : (call : Call) (journal : List ℕ) → refusal_on call journal ≢ 0 → (outcome_of (answer call journal)).status ≡ no_status
  pub refused_part : (form : Form) (journal out : List ℕ) → refusal_on (Ask (Write form (length out))) journal ≢ 0 → out_part form journal out ≡ []

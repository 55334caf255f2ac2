-- Demand 1, proved.
use mathlib.Core.Path.{◌≡◌, refl, sym, ap, ◌∙◌}
use mathlib.Core.Logic.{◌↔◌, ◌≢◌, inl, inr, ⊎_elim}
use mathlib.Core.Bool.{Bool, true, false}
use mathlib.Core.List.{List, [], ◌∷◌}
use Prim.Native.Nat.{ℕ, ◌+◌, ◌*◌, ◌≤◌, ◌<◌}
use native.Mathlib.Nat.{eq-or-lt_of_le}
use native.Mathlib.Decide.{dec_lt}
use native.Mathlib.Omega.{arith}
use lib.Dec.{eqb}
use lib.ListN.{length, get_or, length-map}
use borrow.Author.Tests.{eqb-true, eqb-false, ltb-false}
use Rattle.buffers.specs.Bytes.{put, Outside}
use Rattle.conditions.specs.Rows.{applies, FirstApplies, NoneApplies}
use Rattle.buffers.proofs.Lists.{length-put, put_other}
use Rattle.conditions.proofs.Rows.{first-is, first-applies, first-none, none_is}
use Rattle.conditions.proofs.Tests.{by-test, cond_same}
use Rattle.cumsum.specs.Marks.{mark_byte}
use Rattle.year.specs.declared.Setup.{Setup}
use Rattle.year.specs.declared.Event.{Event}
use Rattle.year.specs.declared.Event.TheVariants.{Deletion}
use Rattle.year.specs.Replay.{Progress, replay}
use Rattle.year.specs.Setup.{judged}
use Rattle.year.specs.Status.{year_marks}
use Rattle.year.specs.Model.{Model, NoSetup, Year}
use Rattle.year.proofs.Kept.{printed-length}
use Rattle.report.specs.Report.{report}
use Rattle.report.proofs.Shown.{report-shown}
use Rattle.year.specs.Deletions.{is_deletion}
use Rattle.journal.specs.Encode.{setup_version, encode, slot_place, slot_of, with_slot, version_in, raises, raised, append}
use Rattle.journal.specs.Read.{read_journal}
use Rattle.journal.proofs.Encoded.{length-slot}
use Rattle.journal.proofs.OneJournal.{demand}
use Rattle.reference.specs.declared.Change.TheVariants.{Amend, BeginPeriod, Declare, Delete}
use Rattle.reference.specs.Call.{Entry, EnterEngine, EnterChange, Form, Marks, Report, Write, Call, SetUp, Enter, Ask, event_of, of_change, of_deletion}
use Rattle.reference.specs.Refusals.{refusals, refusal}
use Rattle.reference.specs.declared.OutputOutcome.{OutputOutcome}
use Rattle.reference.specs.Answers.{refusals_on, refusal_on, with_entry, written, journal_after, no_status, status_of, answer, Outcome, outcome_of, outcome, out_bytes, out_after, out_part, output_answer, output_outcome_of, output_outcome}
use Rattle.reference.specs.Demand1.{Demand1}
use Rattle.reference.proofs.Given.{accepted-gives, refused-gives, refused-answer, answer-outcome, held-year, accepted-size, accepted-year, accepted-refusal, entry-admissible, entry-room}
use Rattle.reference.proofs.Refused.{named-refusal}
use Rattle.reference.proofs.Validity.{refusals-numbered, setup-valid, not-refused}

-- ---- refused calls

refused-journal : (call : Call) (journal : List ℕ) → refusal_on call journal ≢ 0 → journal_after call journal ≡ journal
unfolding journal_after
refused-journal call journal h = refused-gives call journal (written call journal) journal h

module _ (form : Form) (journal out : List ℕ) where
  abbrev writing : Call
  writing = Ask (Write form (length out))

  abbrev bytes : List ℕ
  bytes = out_bytes form (read_journal journal)

  refused-out : refusal_on writing journal ≢ 0 → out_after form journal out ≡ out
  unfolding out_after
  refused-out h = refused-gives writing journal (put out 0 bytes) out h

  refused-part : refusal_on writing journal ≢ 0 → out_part form journal out ≡ []
  unfolding out_part
  refused-part h = refused-gives writing journal bytes [] h

  -- what the answer of a call that writes an output says
  pub output-outcome : output_outcome_of (output_answer form journal out) ≡ output_outcome form journal out
  unfolding output_answer out_part
  output-outcome = by (eqb (refusal_on writing journal) 0) refl
    where
      by : (b : Bool) → eqb (refusal_on writing journal) 0 ≡ b → output_outcome_of (output_answer form journal out) ≡ output_outcome form journal out
      by true e = rw (e, eqb-true (refusal_on writing journal) 0 e) refl
      by false e = rw (e, named-refusal writing journal (eqb-false (refusal_on writing journal) 0 e)) refl

module _ (call : Call) (journal : List ℕ) where
  refused-status : refusal_on call journal ≢ 0 → (outcome_of (answer call journal)).status ≡ no_status
  refused-status h = ap (λ a. (outcome_of a).status) (refused-answer call journal h)

  returned : (outcome_of (answer call journal)).refusal ≡ refusal_on call journal
  unfolding outcome
  returned = ap (λ (t : Outcome). t.refusal) (answer-outcome call journal)

-- ---- a setup

setup-written : (s : Setup) (journal : List ℕ) → refusal_on (SetUp s) journal ≡ 0 → journal_after (SetUp s) journal ≡ written (SetUp s) journal
unfolding journal_after
setup-written s journal h = accepted-gives (SetUp s) journal (written (SetUp s) journal) journal h

-- ---- an entry: at which indices the buffer is unchanged, and its length

-- to prove a fact of the journal after an entry, prove it of the journal before, and of that journal with the entry's event appended if a slot is left
by-entry : (P : List ℕ → Type 0) (entry : Entry) (journal : List ℕ) → P journal
    → ((p : Progress) → length journal ≡ 544 → slot_place (get_or journal 24 0) + 8 ≤ length journal → P (append journal (event_of p entry)))
    → P (journal_after (Enter entry) journal)
unfolding journal_after
by-entry P entry journal same more =
    by-test P (eqb (refusal_on (Enter entry) journal) 0) (with_entry entry (read_journal journal) journal) journal
    (λ h. accepted (read_journal journal) refl (eqb-true (refusal_on (Enter entry) journal) 0 h)) (λ _. same)
  where
    accepted : (model : Model) → read_journal journal ≡ model → refusal_on (Enter entry) journal ≡ 0 → P (with_entry entry model journal)
    accepted NoSetup e h = same
    accepted (Year s es) e h =
        let n = accepted-size (Enter entry) journal h in
        more (replay s es) n (omega (arith, entry-room entry journal s es e h))

-- an index other than one is outside of it
apart : (at i : ℕ) → i ≢ at → Outside at 1 i
apart at i k = by (dec_lt i at)
  where
    by : Dec (i < at) → Outside at 1 i
    by (yes l) = inl l
    by (no f) = ⊎_elim (λ e. absurd (k (sym e))) (λ l. inr (omega arith)) (eq-or-lt_of_le (omega arith))

module _ (journal : List ℕ) (e : Event) (n : length journal ≡ 544) (room : slot_place (get_or journal 24 0) + 8 ≤ length journal) where
  slot-fits : slot_place (get_or journal 24 0) + length (slot_of e) ≤ length journal
  slot-fits = rw (length-slot e) room

  slot-size : length (put journal (slot_place (get_or journal 24 0)) (slot_of e)) ≡ length journal
  slot-size = length-put journal (slot_place (get_or journal 24 0)) (slot_of e) slot-fits

  with_size : length (with_slot journal e) ≡ length journal
  with_size = length-put (put journal (slot_place (get_or journal 24 0)) (slot_of e)) 24 ((get_or journal 24 0 + 1) ∷ []) (omega (arith, slot-size)) ∙ slot-size

  with-kept : (i : ℕ) → i ≢ 24 → Outside (slot_place (get_or journal 24 0)) 8 i → get_or (with_slot journal e) i 0 ≡ get_or journal i 0
  with-kept i k o =
      put_other (put journal (slot_place (get_or journal 24 0)) (slot_of e)) 24 ((get_or journal 24 0 + 1) ∷ []) i (omega (arith, slot-size)) (apart 24 i k)
      ∙ put_other journal (slot_place (get_or journal 24 0)) (slot_of e) i slot-fits (rw (length-slot e) o)

  append-size : length (append journal e) ≡ length journal
  unfolding append
  append-size =
      by-test (λ b. length b ≡ length journal) (raises e (version_in journal)) (put (with_slot journal e) 3 (2 ∷ [])) (with_slot journal e)
      (λ _. length-put (with_slot journal e) 3 (2 ∷ []) (omega (arith, with_size)) ∙ with_size) (λ _. with_size)

  append-kept : (i : ℕ) → i ≢ 24 → i ≢ 3 → Outside (slot_place (get_or journal 24 0)) 8 i → get_or (append journal e) i 0 ≡ get_or journal i 0
  unfolding append
  append-kept i k v o =
      by-test (λ b. get_or b i 0 ≡ get_or journal i 0) (raises e (version_in journal)) (put (with_slot journal e) 3 (2 ∷ [])) (with_slot journal e)
      (λ _. put_other (with_slot journal e) 3 (2 ∷ []) i (omega (arith, with_size)) (apart 3 i v) ∙ with-kept i k o) (λ _. with-kept i k o)

  -- byte 3 too, unless the event is the first strike of a journal of version 1
  append-version : raises e (version_in journal) ≡ false → get_or (append journal e) 3 0 ≡ get_or journal 3 0
  unfolding append
  append-version h = rw h (with-kept 3 (λ x. omega arith) (inl (omega arith)))

-- an entry's event is a deletion exactly if the entry is
deletion-of : (entry : Entry) (p : Progress) → is_deletion (event_of p entry) ≡ of_change (of_deletion true) entry
deletion-of (EnterEngine number readings) p = refl
deletion-of (EnterChange (Amend standards)) p = refl
deletion-of (EnterChange BeginPeriod) p = refl
deletion-of (EnterChange Declare) p = refl
deletion-of (EnterChange Delete) p = refl

-- an accepted strike on version 1 leaves version 2
version-raised : (journal : List ℕ) → refusal_on (Enter (EnterChange Delete)) journal ≡ 0 → version_in journal ≡ 1
    → version_in (journal_after (Enter (EnterChange Delete)) journal) ≡ 2
unfolding journal_after
version-raised journal h v =
    let call = Enter (EnterChange Delete) in
    let year = held-year (read_journal journal) (accepted-year call journal h refl) in
    let s = year.0 in
    let es = year.1 in
    let e = year.2 in
    let stored = demand.appended journal s es Deletion e (entry-admissible (EnterChange Delete) journal s es e h) in
    ap version_in (accepted-gives call journal (written call journal) journal h ∙ ap (λ m. with_entry (EnterChange Delete) m journal) e ∙ stored
    ∙ ap (λ n. encode (raised Deletion n) s (Deletion ∷ es)) v)

-- ---- an output: it fits if the call is accepted

pub mark-bytes : (model : Model) → length (out_bytes Marks model) ≡ 2 * (status_of model).n
mark-bytes NoSetup = refl
mark-bytes (Year s es) = length-map (year_marks 1024 (replay s es)) mark_byte ∙ printed-length judged 1024 (replay s es).tested

-- the page of a journal that holds a year, whose figures fit their columns
pub report-bytes : (journal : List ℕ) (s : Setup) (es : List Event) → read_journal journal ≡ Year s es → length (report (replay s es)) ≡ 61 * (length (replay s es).tested + 1)
report-bytes journal s es e = (report-shown.every s es (demand.accepted journal s es e).valid).size

pub out-fits : (form : Form) (journal : List ℕ) (size : ℕ) → refusal_on (Ask (Write form size)) journal ≡ 0 → length (out_bytes form (read_journal journal)) ≤ size
unfolding refusals
out-fits Marks journal size h =
    rw (mark-bytes (read_journal journal)) (by (read_journal journal) (not-refused (length journal) (Ask (Write Marks size)) (read_journal journal) h 16))
  where
    by : (model : Model) → applies (refusals (length journal) (Ask (Write Marks size)) model) 16 ≡ false → 2 * (status_of model).n ≤ size
    by NoSetup row = omega arith
    by (Year s es) row = ltb-false size (2 * length (replay s es).tested) row
out-fits Report journal size h = by (read_journal journal) refl (not-refused (length journal) (Ask (Write Report size)) (read_journal journal) h 18)
  where
    by : (model : Model) → read_journal journal ≡ model → applies (refusals (length journal) (Ask (Write Report size)) model) 18 ≡ false → length (out_bytes Report model) ≤ size
    by NoSetup e row = omega arith
    by (Year s es) e row = rw (report-bytes journal s es e) (ltb-false size (61 * (length (replay s es).tested + 1)) row)

-- to prove a fact of the output after a call, prove it of the output before, and of that output with the form's bytes put at its front if they fit
by-output : (P : List ℕ → Type 0) (form : Form) (journal out : List ℕ) → P out
    → (0 + length (bytes form journal out) ≤ length out → P (put out 0 (bytes form journal out))) → P (out_after form journal out)
unfolding out_after
by-output P form journal out same more =
    let call = writing form journal out in
    by-test P (eqb (refusal_on call journal) 0) (put out 0 (bytes form journal out)) out
    (λ h. more (omega (arith, out-fits form journal (length out) (eqb-true (refusal_on call journal) 0 h)))) (λ _. same)

-- ---- the first refusal that applies

refused-by : (call : Call) (journal : List ℕ) (r : ℕ) → 0 < r → (refusal_on call journal ≡ r) ↔ FirstApplies (refusals_on call journal) r
unfolding refusal
refused-by call journal r p = (first-applies (refusals_on call journal) r p, first-is (refusals_on call journal) r 0)

accepted-if : (call : Call) (journal : List ℕ) → (refusal_on call journal ≡ 0) ↔ NoneApplies (refusals_on call journal)
unfolding refusal
accepted-if call journal =
    (first-none (refusals_on call journal) (refusals-numbered (length journal) call (read_journal journal)), none_is (refusals_on call journal) 0)

pub demand-1 : Demand1
unfolding journal_after refusals
demand-1 =
    record {
      refused_journal = refused-journal;
      refused_out = refused-out;
      setup_written = setup-written;
      setup_size = λ s journal h. demand.size setup_version s [] (setup-valid s (read_journal journal) (accepted-refusal (SetUp s) journal h));
      entry_written = λ entry journal s es e h. accepted-gives (Enter entry) journal (written (Enter entry) journal) journal h ∙ rw e;
      entry_kept = λ entry journal i k v o.
          by-entry (λ b. get_or b i 0 ≡ get_or journal i 0) entry journal refl (λ p n room. append-kept journal (event_of p entry) n room i k v o);
      version_kept = λ entry journal v.
          by-entry (λ b. get_or b 3 0 ≡ get_or journal 3 0) entry journal refl (λ p n room. append-version journal (event_of p entry) n room (rw (deletion-of entry p) v));
      version_raised = version-raised;
      entry_size = λ entry journal. by-entry (λ b. length b ≡ length journal) entry journal refl (λ p. append-size journal (event_of p entry));
      query_kept = λ query journal. cond_same (eqb (refusal_on (Ask query) journal) 0) journal;
      out_kept = λ form journal out i h. by-output (λ b. get_or b i 0 ≡ get_or out i 0) form journal out refl
          (λ fits. put_other out 0 (bytes form journal out) i fits (inr (omega arith)));
      out_size = λ form journal out. by-output (λ b. length b ≡ length out) form journal out refl (length-put out 0 (bytes form journal out));
      marks_count = λ journal. mark-bytes (read_journal journal);
      report_count = λ journal s es e. rw e (report-bytes journal s es e);
      refused_by = refused-by;
      accepted = accepted-if;
      order = λ call journal. refl;
      returned = returned;
      out_returned = λ form journal out. ap (λ (x : OutputOutcome). x.refusal) (output-outcome form journal out);
      out_counted = λ form journal out. ap (λ (x : OutputOutcome). x.length) (output-outcome form journal out);
      refused_status = refused-status;
      refused_part = refused-part;
    }

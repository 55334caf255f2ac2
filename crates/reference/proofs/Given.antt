-- What the definitions give if a call is accepted and if it is refused, and which calls are accepted.
use mathlib.Core.Path.{◌≡◌, refl, ap, ◌∙◌}
use mathlib.Core.Logic.{◌≢◌}
use mathlib.Core.Bool.{Bool, true, false, true≢false}
use mathlib.Core.List.{List}
use Prim.Native.Nat.{ℕ, ◌+◌, ◌*◌, ◌≤◌, ◌<◌}
use lib.Dec.{eqb}
use lib.ListN.{length, get_or}
use borrow.Author.Tests.{eq-eqb, ne_eqb, eqb-true, eqb-false, le-ltb, lt-ltb}
use Rattle.conditions.specs.Rows.{applies}
use Rattle.conditions.proofs.Tests.{not-false}
use Rattle.year.specs.declared.Setup.{Setup}
use Rattle.year.specs.declared.Event.{Event}
use Rattle.year.specs.declared.Status.{Status}
use Rattle.year.specs.Replay.{replay}
use Rattle.year.specs.Admissible.{admissible}
use Rattle.year.specs.Model.{Model, NoSetup, Year, no_setup}
use Rattle.journal.specs.Encode.{version_in}
use Rattle.journal.specs.Read.{read_journal}
use Rattle.journal.proofs.OneJournal.{demand}
use Rattle.journal.proofs.Reading.{read-few}
use Rattle.std.specs.Prelude.{Ok, Err}
use Rattle.reference.specs.Call.{Entry, Marks, Report, ReadStatus, Write, Preview, Call, SetUp, Enter, Ask, previewed, event_of, is_setup}
use Rattle.reference.specs.Refusals.{refusals, refusal}
use Rattle.reference.specs.Refused.{named}
use Rattle.reference.specs.Answers.{refusal_on, refusals_on, if_accepted, journal_after, status_of, answer, outcome_of, outcome}
use Rattle.reference.specs.Model.{accepted, step_model}
use Rattle.reference.proofs.Refused.{named-refusal}
use Rattle.reference.proofs.Stored.{stored-calls}
use Rattle.reference.proofs.Validity.{not-refused, admitted}

module _ {A : Type 0} (call : Call) (journal : List ℕ) (x y : A) where
  pub accepted-gives : refusal_on call journal ≡ 0 → if_accepted call journal x y ≡ x
  accepted-gives h = rw (eq-eqb (refusal_on call journal) 0 h)

  pub refused-gives : refusal_on call journal ≢ 0 → if_accepted call journal x y ≡ y
  refused-gives h = rw (ne_eqb (refusal_on call journal) 0 h)

-- a model with a setup is a year
pub held-year : (model : Model) → no_setup model ≡ false → (s : Setup) × (es : List Event) × (model ≡ Year s es)
held-year NoSetup h = absurd (true≢false h)
held-year (Year s es) h = (s, es, refl)

-- the answer of an accepted and of a refused call, and its outcome
module _ (call : Call) (journal : List ℕ) where
  abbrev status : Status
  status = status_of (read_journal (journal_after (previewed call) journal))

  abbrev number : ℕ
  number = refusal_on call journal

  -- (`rw` before `refl`: if the two differ, that is found at once)
  pub accepted-answer : number ≡ 0 → answer call journal ≡ Ok status
  unfolding answer
  accepted-answer h = rw (eq-eqb number 0 h) refl

  pub refused-answer : number ≢ 0 → answer call journal ≡ Err (named number)
  unfolding answer
  refused-answer h = rw (ne_eqb number 0 h) refl

  pub answer-outcome : outcome_of (answer call journal) ≡ outcome call journal
  unfolding answer outcome
  answer-outcome = by (eqb number 0) refl
    where
      by : (b : Bool) → eqb number 0 ≡ b → outcome_of (answer call journal) ≡ outcome call journal
      by true e = rw (e, eqb-true number 0 e) refl
      by false e = rw (e, named-refusal call journal (eqb-false number 0 e)) refl

-- a preview is refused as the engine's entry is
pub previewed-refusal : (call : Call) (journal : List ℕ) → refusal_on (previewed call) journal ≡ refusal_on call journal
unfolding refusal refusals
previewed-refusal (SetUp s) journal = refl
previewed-refusal (Enter entry) journal = refl
previewed-refusal (Ask ReadStatus) journal = refl
previewed-refusal (Ask (Write form size)) journal = refl
previewed-refusal (Ask (Preview n readings)) journal = refl

same-kind : (call : Call) → is_setup (previewed call) ≡ is_setup call
same-kind (SetUp s) = refl
same-kind (Enter entry) = refl
same-kind (Ask ReadStatus) = refl
same-kind (Ask (Write form size)) = refl
same-kind (Ask (Preview n readings)) = refl

-- if a call is accepted, the journal has 544 bytes and, unless the call is a setup, holds a year
module _ (call : Call) (journal : List ℕ) (h : refusal_on call journal ≡ 0) where
  no : (r : ℕ) → applies (refusals_on call journal) r ≡ false
  no = not-refused (length journal) call (read_journal journal) h

  pub accepted-size : length journal ≡ 544
  unfolding refusals
  accepted-size = eqb-true (length journal) 544 (not-false (eqb (length journal) 544) (no 3))

  pub accepted-year : is_setup call ≡ false → no_setup (read_journal journal) ≡ false
  unfolding refusals
  accepted-year k = let none = no 7 in rw (same-kind call ∙ k) at none

  pub accepted-refusal : refusal 544 call (read_journal journal) ≡ 0
  accepted-refusal = rw accepted-size at h

  -- an accepted call is a step of the model
  pub accepted-reads : read_journal (journal_after call journal) ≡ accepted call (read_journal journal)
  unfolding step_model
  accepted-reads = (stored-calls.step journal accepted-size call).reads ∙ rw (eq-eqb (refusal 544 call (read_journal journal)) 0 accepted-refusal)

-- if an entry is accepted, its event is admissible and there is a slot for it
module _ (entry : Entry) (journal : List ℕ) (s : Setup) (es : List Event) (e : read_journal journal ≡ Year s es) (h : refusal_on (Enter entry) journal ≡ 0) where
  pub entry-admissible : admissible (replay s es) (event_of (replay s es) entry) ≡ true
  entry-admissible = let a = accepted-refusal (Enter entry) journal h in admitted s es entry (rw e at a)

  pub entry-room : get_or journal 24 0 < 64
  entry-room = rw (demand.accepted journal s es e).stored (read-few journal s es (event_of (replay s es) entry) e entry-admissible)

-- a journal that is read as a year has 544 bytes
pub year-size : (journal : List ℕ) (s : Setup) (es : List Event) → read_journal journal ≡ Year s es → length journal ≡ 544
year-size journal s es e = let j = demand.accepted journal s es e in ap length j.stored ∙ demand.size (version_in journal) s es j.valid

-- status, marks and the report on 544 bytes: accepted if these hold a year and the output is long enough; refused by 7 if they hold none
module _ (journal : List ℕ) (n : length journal ≡ 544) where
  pub status-accepted : no_setup (read_journal journal) ≡ false → refusal_on (Ask ReadStatus) journal ≡ 0
  unfolding refusal refusals
  status-accepted h = rw (n, h)

  pub marks-accepted : (size : ℕ) (s : Setup) (es : List Event) → read_journal journal ≡ Year s es → 2 * length (replay s es).tested ≤ size
      → refusal_on (Ask (Write Marks size)) journal ≡ 0
  unfolding refusal refusals
  marks-accepted size s es e h = rw (n, e, le-ltb size (2 * length (replay s es).tested) h)

  pub status-none : read_journal journal ≡ NoSetup → refusal_on (Ask ReadStatus) journal ≡ 7
  unfolding refusal refusals
  status-none e = rw (n, e)

  pub marks-none : (size : ℕ) → read_journal journal ≡ NoSetup → refusal_on (Ask (Write Marks size)) journal ≡ 7
  unfolding refusal refusals
  marks-none size e = rw (n, e)

  pub report-none : (size : ℕ) → read_journal journal ≡ NoSetup → refusal_on (Ask (Write Report size)) journal ≡ 7
  unfolding refusal refusals
  report-none size e = rw (n, e)

  module _ (size : ℕ) (s : Setup) (es : List Event) (e : read_journal journal ≡ Year s es) where
    pub report-accepted : 61 * (length (replay s es).tested + 1) ≤ size → refusal_on (Ask (Write Report size)) journal ≡ 0
    unfolding refusal refusals
    report-accepted h = rw (n, e, le-ltb size (61 * (length (replay s es).tested + 1)) h)

    pub report-short : size < 61 * (length (replay s es).tested + 1) → refusal_on (Ask (Write Report size)) journal ≡ 18
    unfolding refusal refusals
    report-short h = rw (n, e, lt-ltb size (61 * (length (replay s es).tested + 1)) h)

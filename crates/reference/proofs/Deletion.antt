-- W-201's promises, proved: two years that differ only in how many events are stored have the same figures, and the same refusals while slots are left.
use mathlib.Core.Path.{◌≡◌, refl, sym, ap, ◌∙◌}
use mathlib.Core.Bool.{cond}
use mathlib.Core.List.{List, ◌∷◌}
use Prim.Native.Nat.{ℕ, ◌+◌, ◌<◌}
use native.Mathlib.Omega.{arith}
use lib.ListN.{length, get_or}
use borrow.Author.Tests.{lt-leb}
use Rattle.conditions.proofs.Tests.{eqb_refl}
use Rattle.year.specs.declared.Setup.{Setup}
use Rattle.year.specs.declared.Event.{Event}
use Rattle.year.specs.declared.Event.TheVariants.{Deletion}
use Rattle.year.specs.Replay.{Progress, replay}
use Rattle.year.specs.Status.{status}
use Rattle.year.specs.Admissible.{closed, events_full}
use Rattle.year.specs.Model.{Year, no_setup, of_year}
use Rattle.year.specs.Deletions.{remaining, storing}
use Rattle.year.proofs.Replayed.{replay-stored}
use Rattle.year.proofs.Deletions.{storing-status}
use Rattle.year.proofs.Remaining.{storing-closed, deletions}
use Rattle.journal.specs.Encode.{encode, version}
use Rattle.journal.specs.Read.{read_journal}
use Rattle.journal.proofs.OneJournal.{demand}
use Rattle.std.specs.Prelude.{Ok}
use Rattle.reference.specs.Call.{Readings, EnterEngine, Form, Marks, Report, ReadStatus, Write, Call, Ask, event_of}
use Rattle.reference.specs.Refusals.{refusals, refusal}
use Rattle.reference.specs.Answers.{refusal_on, journal_after, status_of, answer, out_bytes, out_after, out_part, output_answer}
use Rattle.reference.specs.Deletion.{engine_call, deletion_call, SameFigures, DeletionPromises}
use Rattle.reference.proofs.Given.{held-year, accepted-answer, accepted-year, accepted-reads, year-size, status-accepted}
use Rattle.reference.proofs.Demand1.{demand-1}
use Rattle.reference.proofs.Demand2.{demand-2}

-- ---- what status answers on an accepted journal

status-on : (journal : List ℕ) (s : Setup) (es : List Event) → read_journal journal ≡ Year s es → answer (Ask ReadStatus) journal ≡ Ok (status 1024 (replay s es))
status-on journal s es h =
    accepted-answer (Ask ReadStatus) journal (status-accepted journal (year-size journal s es h) (ap no_setup h))
    ∙ ap (λ b. Ok (status_of (read_journal b))) (demand-1.query_kept ReadStatus journal)
    ∙ ap (λ m. Ok (status_of m)) h

-- ---- two years that differ in how many events are stored

module _ (s : Setup) (es fs : List Event) (n : ℕ) (same : replay s es ≡ storing n (replay s fs)) where
  abbrev p : Progress
  p = replay s fs

  output-refusal : (form : Form) (size : ℕ) → refusal 544 (Ask (Write form size)) (Year s es) ≡ refusal 544 (Ask (Write form size)) (Year s fs)
  unfolding refusal refusals
  output-refusal Marks size = rw same
  output-refusal Report size = rw same

  call-refusal : n < 64 → p.stored < 64 → (call : Call) → refusal 544 call (Year s es) ≡ refusal 544 call (Year s fs)
  unfolding refusal refusals
  call-refusal l m call = rw (same, storing-closed n p, lt-leb 64 n l, lt-leb 64 p.stored m)

  module _ (a b : List ℕ) (ha : read_journal a ≡ Year s es) (hb : read_journal b ≡ Year s fs) where
    refusal-on : (call : Call) → refusal 544 call (Year s es) ≡ refusal 544 call (Year s fs) → refusal_on call a ≡ refusal_on call b
    refusal-on call e = rw (year-size a s es ha, year-size b s fs hb, ha, hb) e

    bytes_same : (form : Form) → out_bytes form (read_journal a) ≡ out_bytes form (read_journal b)
    bytes_same Marks = rw (ha, hb, same)
    bytes_same Report = rw (ha, hb, same)

    pub same-figures : SameFigures a b
    unfolding out_after out_part output_answer
    same-figures =
        record {
          status = status-on a s es ha ∙ ap Ok (ap (status 1024) same ∙ storing-status n p 1024) ∙ sym (status-on b s fs hb);
          out = λ form out. rw (writes form out, bytes_same form);
          part = λ form out. rw (writes form out, bytes_same form);
          output = λ form out. rw (writes form out, bytes_same form);
        }
      where
        writes : (form : Form) (out : List ℕ) → refusal_on (Ask (Write form (length out))) a ≡ refusal_on (Ask (Write form (length out))) b
        writes form out = refusal-on (Ask (Write form (length out))) (output-refusal form (length out))

-- ---- an accepted engine, and its accepted strike

module _ (number : ℕ) (readings : Readings) (journal : List ℕ) (h : refusal_on (engine_call number readings) journal ≡ 0) where
  abbrev entered : List ℕ
  entered = journal_after (engine_call number readings) journal

  year : (s : Setup) × (es : List Event) × (read_journal journal ≡ Year s es)
  year = held-year (read_journal journal) (accepted-year (engine_call number readings) journal h refl)

  abbrev s : Setup
  s = year.0

  abbrev es : List Event
  es = year.1

  abbrev engine : Event
  engine = event_of (replay s es) (EnterEngine number readings)

  entered-reads : read_journal entered ≡ Year s (engine ∷ es)
  entered-reads = accepted-reads (engine_call number readings) journal h ∙ rw year.2

  module _ (k : refusal_on deletion_call entered ≡ 0) where
    left-reads : read_journal (journal_after deletion_call entered) ≡ Year s (Deletion ∷ engine ∷ es)
    left-reads = accepted-reads deletion_call entered k ∙ rw entered-reads

    -- the events with both, and how many are stored with them
    abbrev both : List Event
    both = Deletion ∷ engine ∷ es

    abbrev stored : ℕ
    stored = (replay s es).stored + 1 + 1

    undone : SameFigures (journal_after deletion_call entered) journal
    undone = same-figures s both es stored refl (journal_after deletion_call entered) journal left-reads year.2

    answered : answer deletion_call entered ≡ answer (Ask ReadStatus) journal
    answered = demand-2.answered deletion_call entered k ∙ undone.status

    refused_as : get_or journal 24 0 + 2 < 64 → (call : Call) → refusal_on call (journal_after deletion_call entered) ≡ refusal_on call journal
    refused_as room call =
        refusal-on s both es stored refl (journal_after deletion_call entered) journal left-reads year.2 call
        (call-refusal s both es stored refl (omega (arith, count, room)) (omega (arith, count, room)) call)
      where
        count : (replay s es).stored ≡ get_or journal 24 0
        count = replay-stored s es ∙ sym (ap (λ b. get_or b 24 0) (demand.accepted journal s es year.2).stored)

  -- row 17 does not apply to the engine just entered
  next-step : refusal_on deletion_call entered ≡ cond (closed (replay s (engine ∷ es))) 8 (cond (events_full (replay s (engine ∷ es))) 9 0)
  unfolding refusal refusals
  next-step = rw (year-size entered s (engine ∷ es) entered-reads, entered-reads, eqb_refl (replay s es).period)

  next : (t : Setup) (fs : List Event) → read_journal entered ≡ Year t fs → refusal_on deletion_call entered ≡ cond (closed (replay t fs)) 8 (cond (events_full (replay t fs)) 9 0)
  next t fs e = next-step ∙ ap (λ m. cond (of_year closed m) 8 (cond (of_year events_full m) 9 0)) (sym entered-reads ∙ e)

-- ---- an accepted journal and the journal of its remaining events

module _ (journal : List ℕ) (s : Setup) (es : List Event) (h : read_journal journal ≡ Year s es) where
  remaining-reads : read_journal (encode 1 s (remaining es)) ≡ Year s (remaining es)
  remaining-reads =
      let d = deletions s es in
      let one : 1 ≡ version (remaining es) = sym (ap (λ b. cond b 2 1) d.none) in
      demand.read_back 1 s (remaining es) ((demand.version 1 s (remaining es)).1 one) (d.entered (demand.accepted journal s es h).valid)

  figures : (read_journal (encode 1 s (remaining es)) ≡ Year s (remaining es)) × SameFigures journal (encode 1 s (remaining es))
  figures =
      (remaining-reads, same-figures s es (remaining es) (length es) (deletions s es).year journal (encode 1 s (remaining es)) h remaining-reads)

pub deletion-promises : DeletionPromises
deletion-promises = record { figures = figures; answered = answered; undone = undone; refusals = refused_as; next = next }

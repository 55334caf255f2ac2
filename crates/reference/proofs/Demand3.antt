-- Demand 3, proved.
use mathlib.Core.Path.{◌≡◌, refl, sym, ap, ◌∙◌}
use mathlib.Core.Bool.{false, cond}
use mathlib.Core.List.{List, [], reverse}
use Prim.Native.Nat.{ℕ, ◌*◌, ◌≤◌}
use native.Mathlib.Omega.{arith}
use lib.Dec.{eqb}
use lib.ListN.{length}
use Rattle.cumsum.specs.declared.Mark.{Mark}
use Rattle.cumsum.specs.declared.Mark.TheVariants.{Unmarked, Over, Under, Undecided}
use Rattle.cumsum.specs.Marks.{mark_byte}
use Rattle.year.specs.declared.Setup.{Setup}
use Rattle.year.specs.declared.Event.{Event}
use Rattle.year.specs.declared.Status.{Status}
use Rattle.year.specs.Replay.{Progress, replay}
use Rattle.year.specs.Model.{NoSetup, Year, no_setup}
use Rattle.year.specs.FinerWork.{FinerWork}
use Rattle.year.specs.Work.{cumsum_at, limit_at}
use Rattle.year.proofs.Finer.{finer-work}
use Rattle.year.proofs.Remaining.{deletions}
use Rattle.journal.specs.Read.{read_journal}
use Rattle.reference.specs.Call.{Marks, ReadStatus, Write, Call, Ask}
use Rattle.reference.specs.Answers.{refusal_on, answer, out_bytes, out_part}
use Rattle.reference.specs.Model.{model_of, journal_of}
use Rattle.reference.specs.Demand2.{Shows}
use Rattle.reference.specs.Demand3.{status_on, Calculated, FinerJournal, OfRemaining, BeforeSetup, AfterCalls, Demand3}
use Rattle.reference.proofs.Stored.{stored-calls}
use Rattle.reference.proofs.WithSetup.{model-has-setup, model-has-none}
use Rattle.reference.proofs.Given.{accepted-gives, held-year, year-size, status-accepted, marks-accepted, status-none, marks-none}
use Rattle.reference.proofs.Demand1.{demand-1}
use Rattle.reference.proofs.Demand2.{demand-2}

module _ (journal : List ℕ) (s : Setup) (es : List Event) (e : read_journal journal ≡ Year s es) where
  fits : (out : List ℕ) → 2 * length (replay s es).tested ≤ length out → refusal_on (Ask (Write Marks (length out))) journal ≡ 0
  fits out = marks-accepted journal (year-size journal s es e) (length out) s es e

  reads : refusal_on (Ask ReadStatus) journal ≡ 0
  reads = status-accepted journal (year-size journal s es e) (ap no_setup e)

  part : (out : List ℕ) → 2 * length (replay s es).tested ≤ length out → out_part Marks journal out ≡ out_bytes Marks (Year s es)
  unfolding out_part
  part out h = accepted-gives (Ask (Write Marks (length out))) journal (out_bytes Marks (read_journal journal)) [] (fits out h) ∙ ap (out_bytes Marks) e

  shown : Shows (status_on journal) (replay s es)
  shown = demand-2.shown (Ask ReadStatus) journal s es reads (ap read_journal (demand-1.query_kept ReadStatus journal) ∙ e)

  -- (used for its field `newest`, which holds whatever m is: the year at its newest engine is the whole year)
  work : FinerWork 1 (replay s es)
  work = finer-work s es 1 (omega arith)

  calculated : Calculated journal s es
  calculated =
      record {
        marks_accepted = fits;
        marks = part;
        out = λ out h. demand-2.marks journal out s es e (fits out h);
        status_accepted = reads;
        verdict = shown.verdict;
        cumsum = λ q h. rw (work.newest q) (shown.cumsum q h);
        limit = λ q h. rw (work.newest q) (shown.limit q h);
      }

  finer-journal : (m : ℕ) → 1 ≤ m → FinerJournal m journal s es
  finer-journal m pos = record { calculated = calculated; finer = finer-work s es m pos }

-- on a journal that holds no year, status and marks are refused
before-setup : (journal : List ℕ) → length journal ≡ 544 → read_journal journal ≡ NoSetup → BeforeSetup journal
unfolding answer
before-setup journal n e = record { status = rw (status-none journal n e); marks = λ size. marks-none journal n size e }

module _ (calls : List Call) (m : ℕ) (pos : 1 ≤ m) where
  with-setup : no_setup (model_of (reverse calls)) ≡ false
      → (s : Setup) × (es : List Event) × (model_of (reverse calls) ≡ Year s es) × FinerJournal m (journal_of (reverse calls)) s es
  with-setup h =
      let year = held-year (model_of (reverse calls)) h in
      (year.0, year.1, year.2, finer-journal (journal_of (reverse calls)) year.0 year.1 ((stored-calls.every (reverse calls)).reads ∙ year.2) m pos)

  after-calls : AfterCalls calls m
  after-calls =
      let held = stored-calls.every (reverse calls) in
      record {
        reads_back = held;
        refusals = λ call. rw (held.size, held.reads);
        with_setup = λ h. with-setup (model-has-setup (reverse calls) h);
        without_setup = λ h. before-setup (journal_of (reverse calls)) held.size (held.reads ∙ model-has-none (reverse calls) h);
      }

-- the mark that a byte stands for
abbrev mark_of : ℕ → Mark
mark_of byte = cond (eqb byte 45) Unmarked (cond (eqb byte 79) Over (cond (eqb byte 85) Under Undecided))

mark-of : (a : Mark) → mark_of (mark_byte a) ≡ a
mark-of Unmarked = refl
mark-of Over = refl
mark-of Under = refl
mark-of Undecided = refl

told-apart : (a b : Mark) → mark_byte a ≡ mark_byte b → a ≡ b
told-apart a b e = sym (mark-of a) ∙ ap mark_of e ∙ mark-of b

-- work at m looks at no number of stored events
of-remaining : (m : ℕ) (s : Setup) (es : List Event) → OfRemaining m s es
of-remaining m s es =
    let year = (deletions s es).year in
    record {
      marks = (deletions s es).marks (1024 * m);
      verdict = ap (λ (x : Status). x.verdict) ((deletions s es).status (1024 * m));
      cumsum = λ n q. ap (λ (p : Progress). cumsum_at m p n q) year;
      limit = λ n q. ap (λ (p : Progress). limit_at m p n q) year;
    }

pub demand-3 : Demand3
demand-3 = record { apart = told-apart; lists = after-calls; others = finer-journal; struck = of-remaining }

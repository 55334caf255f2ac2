-- Demand 3: finer work compared with what the calls give, after every list of calls on one journal that starts all zero, and on every accepted journal. Strikes
-- and previews stand in the lists; the engines are those that remain (document 02, W-201), and a preview changes nothing (W-202).
use Rattle.std.specs.Prelude.{◌≡◌, true, false, List, map, reverse, ℕ, ◌*◌, ◌≤◌, length, Err}
use Rattle.buffers.specs.Bytes.{put}
use Rattle.cumsum.specs.declared.Mark.{Mark}
use Rattle.cumsum.specs.Marks.{mark_byte}
use Rattle.year.specs.declared.Setup.{Setup}
use Rattle.year.specs.declared.Event.{Event}
use Rattle.year.specs.declared.Status.{Status}
use Rattle.year.specs.Setup.{Pollutant}
use Rattle.year.specs.Replay.{replay}
use Rattle.year.specs.Model.{Year}
use Rattle.year.specs.Work.{marks_at, verdict_at, cumsum_at, limit_at}
use Rattle.year.specs.FinerWork.{FinerWork}
use Rattle.year.specs.Deletions.{remaining}
use Rattle.journal.specs.Read.{read_journal}
use Rattle.reference.specs.declared.Refusal.TheVariants.{NotAJournal}
use Rattle.reference.specs.Call.{Marks, ReadStatus, Write, Call, Ask}
use Rattle.reference.specs.Answers.{refusal_on, answer, outcome_of, out_after, out_part}
use Rattle.reference.specs.Refusals.{refusal}
use Rattle.reference.specs.Model.{model_of, journal_of, setup_accepted}
use Rattle.reference.specs.Stored.{Holds}
use Rattle.reference.specs.Demand2.{figures_of}

-- the figures that status gives on a journal
abbrev pub status_on : List ℕ → Status
status_on journal = (outcome_of (answer (Ask ReadStatus) journal)).status

-- what the calculator gives on a journal is the work at m = 1 of this setup and these events
pub record Calculated (journal : List ℕ) (s : Setup) (es : List Event) : Type 0 where
  -- "the strip, handed back in any buffer long enough, is the marks at m = 1"; and so are the bytes at the front of that buffer
  pub marks_accepted : (out : List ℕ) → 2 * length (replay s es).tested ≤ length out → refusal_on (Ask (Write Marks (length out))) journal ≡ 0
  pub marks : (out : List ℕ) → 2 * length (replay s es).tested ≤ length out → out_part Marks journal out ≡ map mark_byte (marks_at 1 (replay s es))
  pub out : (out : List ℕ) → 2 * length (replay s es).tested ≤ length out → out_after Marks journal out ≡ put out 0 (map mark_byte (marks_at 1 (replay s es)))
  -- "the verdict from status is that at m = 1"
  pub status_accepted : refusal_on (Ask ReadStatus) journal ≡ 0
  pub verdict : (status_on journal).verdict ≡ verdict_at 1 (replay s es)
  -- "The calculator's brackets are those at m = 1; from engine 2 on, status gives the newest engine's."
  pub cumsum : (q : Pollutant) → 2 ≤ length (replay s es).tested
      → (figures_of q (status_on journal)).cumsum ≡ cumsum_at 1 (replay s es) (length (replay s es).tested) q
  pub limit : (q : Pollutant) → 2 ≤ length (replay s es).tested
      → (figures_of q (status_on journal)).limit ≡ limit_at 1 (replay s es) (length (replay s es).tested) q

-- a journal of this setup and these events: what the calculator gives on it, and work at m compared with that
pub record FinerJournal (m : ℕ) (journal : List ℕ) (s : Setup) (es : List Event) : Type 0 where
  pub calculated : Calculated journal s es
  -- the marks at m = 1 and at m, the verdicts, the brackets of every engine and their widths
  pub finer : FinerWork m (replay s es)

-- "the marks at finer work are now of the remaining engines" (document 02, W-201): work at m is that of the events without strikes and struck engines
pub record OfRemaining (m : ℕ) (s : Setup) (es : List Event) : Type 0 where
  pub marks : marks_at m (replay s es) ≡ marks_at m (replay s (remaining es))
  pub verdict : verdict_at m (replay s es) ≡ verdict_at m (replay s (remaining es))
  pub cumsum : (n : ℕ) (q : Pollutant) → cumsum_at m (replay s es) n q ≡ cumsum_at m (replay s (remaining es)) n q
  pub limit : (n : ℕ) (q : Pollutant) → limit_at m (replay s es) n q ≡ limit_at m (replay s (remaining es)) n q

-- "Before an accepted setup, status and strip are refused by 7."
pub record BeforeSetup (journal : List ℕ) : Type 0 where
  pub status : answer (Ask ReadStatus) journal ≡ Err NotAJournal
  pub marks : (size : ℕ) → refusal_on (Ask (Write Marks size)) journal ≡ 7

-- after a list of calls, in the order in which they are made; `model_of` and `journal_of` take the newest first
module _ (calls : List Call) (m : ℕ) where
  abbrev newest_first : List Call
  newest_first = reverse calls

  pub record AfterCalls : Type 0 where
    -- the journal that the calls leave is read as the reference model, which is fed their arguments alone
    pub reads_back : Holds (journal_of newest_first) (model_of newest_first)
    -- so a further call is accepted or refused on the journal exactly as in the model
    pub refusals : (call : Call) → refusal_on call (journal_of newest_first) ≡ refusal 544 call (model_of newest_first)
    -- "every list of these calls with an accepted setup in it": the model then has a setup, for which `FinerJournal` holds
    pub with_setup : setup_accepted newest_first ≡ true
        → (s : Setup) × (es : List Event) × (model_of newest_first ≡ Year s es) × FinerJournal m (journal_of newest_first) s es
    pub without_setup : setup_accepted newest_first ≡ false → BeforeSetup (journal_of newest_first)

pub record Demand3 : Type 0 where
  -- different marks have different bytes, so every statement about marks holds for the strip
  pub apart : (a b : Mark) → mark_byte a ≡ mark_byte b → a ≡ b
  pub lists : (calls : List Call) (m : ℕ) → 1 ≤ m → AfterCalls calls m
  -- "this holds for every other accepted book too": "its strip is compared with the marks at m of the setup and list that it reads back as"
  pub others : (journal : List ℕ) (s : Setup) (es : List Event) → read_journal journal ≡ Year s es → (m : ℕ) → 1 ≤ m → FinerJournal m journal s es
  pub struck : (m : ℕ) (s : Setup) (es : List Event) → OfRemaining m s es

-- Demand 2: "Rounding, sample size, CumSum, action limit, marks and verdict equal the definitions", in what the calls store, answer and write; and one journal
-- for each setup and list.
use Rattle.std.specs.Prelude.{◌≡◌, Bool, true, false, not, ◌||◌, List, [], ◌∷◌, map, ℕ, ◌≤◌, ◌<◌, length, take}
use Rattle.buffers.specs.Bytes.{put}
use Rattle.conditions.specs.Rows.{Row, FirstApplies, NoneApplies}
use Rattle.statistics.specs.Spread.{total, deviation_of}
use Rattle.statistics.specs.SampleSize.{sample_size_of}
use Rattle.cumsum.specs.Intervals.{cumsum, action_limit}
use Rattle.cumsum.specs.Marks.{mark, mark_byte}
use Rattle.year.specs.declared.Setup.{Setup}
use Rattle.year.specs.declared.Event.{Event}
use Rattle.year.specs.declared.Figures.{Figures}
use Rattle.year.specs.declared.Status.{Status}
use Rattle.year.specs.Setup.{Pollutant, Hcnox, Co}
use Rattle.year.specs.Replay.{Progress, replay, history}
use Rattle.year.specs.Verdict.{verdict_rows, verdict}
use Rattle.year.specs.Status.{blank, year_marks}
use Rattle.year.specs.Admissible.{admissible}
use Rattle.year.specs.Model.{Year, no_setup}
use Rattle.journal.specs.Read.{read_journal}
use Rattle.journal.specs.OneJournal.{OneJournal}
use Rattle.report.specs.Report.{report}
use Rattle.reference.specs.Call.{Entry, Form, Marks, Report, ReadStatus, Write, Call, SetUp, Enter, Ask, event_of, previewed, of_engine}
use Rattle.reference.specs.Refusals.{counts_fit, readings_fit}
use Rattle.reference.specs.Answers.{refusal_on, journal_after, answer, outcome_of, out_after, out_part}

abbrev pub figures_of : Pollutant → Status → Figures
figures_of Hcnox status = status.figures.hcnox
figures_of Co status = status.figures.co

-- a status shows the figures of a year as they are defined, at the calculator's resolution
pub record Shows (status : Status) (p : Progress) : Type 0 where
  pub n : status.n ≡ length p.tested
  pub verdict : status.verdict ≡ verdict 1024 p
  pub sum : (q : Pollutant) → (figures_of q status).sum ≡ total (history q p.tested)
  -- from engine 2 on
  pub deviation : (q : Pollutant) → 2 ≤ length p.tested → (figures_of q status).deviation ≡ deviation_of 1024 (history q p.tested)
  pub cumsum : (q : Pollutant) → 2 ≤ length p.tested → (figures_of q status).cumsum ≡ cumsum 1024 (history q p.tested)
  pub limit : (q : Pollutant) → 2 ≤ length p.tested → (figures_of q status).limit ≡ action_limit 1024 (history q p.tested)
  pub size : (q : Pollutant) → 2 ≤ length p.tested → (figures_of q status).size ≡ sample_size_of (history q p.tested)
  pub mark : (q : Pollutant) → 2 ≤ length p.tested → (figures_of q status).mark ≡ mark 1024 (history q p.tested)
  -- "Before engine 2 the figures other than n, S and verdict are zero and N is absent; with no engine the mark is '-'."
  pub early : (q : Pollutant) → length p.tested < 2 → figures_of q status ≡ blank (total (history q p.tested))

-- an engine's reading counts or readings are refused, whatever the year (11, 12)
abbrev pub unreadable : Entry → Bool
unreadable = of_engine (λ number readings. not (counts_fit readings) || not (readings_fit readings))

pub record Demand2 : Type 0 where
  -- what is stored: a setup as given, and an entry's event, which for an engine has the results worked from its readings (`event_of`)
  pub set_up : (s : Setup) (journal : List ℕ) → refusal_on (SetUp s) journal ≡ 0 → read_journal (journal_after (SetUp s) journal) ≡ Year s []
  pub entered : (entry : Entry) (journal : List ℕ) (s : Setup) (es : List Event) → read_journal journal ≡ Year s es → refusal_on (Enter entry) journal ≡ 0
      → read_journal (journal_after (Enter entry) journal) ≡ Year s (event_of (replay s es) entry ∷ es)
  -- and conversely: an entry is accepted if the year admits its event, and its readings are 1 to 3 for each pollutant and in range. So the events of an
  -- accepted journal "could have been entered in that order" (document 01, "The book")
  pub could_enter : (entry : Entry) (journal : List ℕ) (s : Setup) (es : List Event) → read_journal journal ≡ Year s es
      → admissible (replay s es) (event_of (replay s es) entry) ≡ true → unreadable entry ≡ false → refusal_on (Enter entry) journal ≡ 0
  -- what is answered: each figure of the year that the journal then holds (after an accepted call it holds one), which is what status answers on that journal.
  -- For a preview (document 02, W-202) that journal is the one which the engine's entry would leave (`previewed`)
  pub held : (call : Call) (journal : List ℕ) → refusal_on call journal ≡ 0 → no_setup (read_journal (journal_after (previewed call) journal)) ≡ false
  pub shown : (call : Call) (journal : List ℕ) (s : Setup) (es : List Event) → refusal_on call journal ≡ 0
      → read_journal (journal_after (previewed call) journal) ≡ Year s es → Shows (outcome_of (answer call journal)).status (replay s es)
  pub answered : (call : Call) (journal : List ℕ) → refusal_on call journal ≡ 0 → answer call journal ≡ answer (Ask ReadStatus) (journal_after (previewed call) journal)
  -- the verdict (document 01, "Verdict"): "The first that applies", in this order; 1 if none does
  pub verdict_order : (k : ℕ) (p : Progress) → map (λ (row : Row). row.1) (verdict_rows k p) ≡ 7 ∷ 6 ∷ 5 ∷ 0 ∷ 2 ∷ 3 ∷ 4 ∷ []
  pub verdict_first : (k : ℕ) (p : Progress) (v : ℕ) → FirstApplies (verdict_rows k p) v → verdict k p ≡ v
  pub verdict_else : (k : ℕ) (p : Progress) → NoneApplies (verdict_rows k p) → verdict k p ≡ 1
  -- what is written: the marks, at the front of the output; and the wall page (document 02, W-205), of which `ReportPromises` says more
  pub marks : (journal out : List ℕ) (s : Setup) (es : List Event) → read_journal journal ≡ Year s es → refusal_on (Ask (Write Marks (length out))) journal ≡ 0
      → out_after Marks journal out ≡ put out 0 (map mark_byte (year_marks 1024 (replay s es)))
  pub page : (journal out : List ℕ) (s : Setup) (es : List Event) → read_journal journal ≡ Year s es → refusal_on (Ask (Write Report (length out))) journal ≡ 0
      → out_after Report journal out ≡ put out 0 (report (replay s es))
  -- "and hands back just that written part": the front of the output
  pub handed_back : (form : Form) (journal out : List ℕ) → take (length (out_part form journal out)) (out_after form journal out) ≡ out_part form journal out
  -- "For one setup, every list of accepted events .. has one book, and every accepted book reads back as its setup and list."
  pub journals : OneJournal

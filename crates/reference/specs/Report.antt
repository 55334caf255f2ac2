-- Document 02, W-205, on the calls: the wall page ("report") of every journal, in every lent buffer. `Demand1` and `Demand2` have what holds of every output: what
-- a refused call leaves, the bytes behind the page, and that the part handed back is the front of the buffer.
use Rattle.std.specs.Prelude.{◌≡◌, List, ℕ, ◌+◌, ◌*◌, ◌≤◌, ◌<◌, length}
use Rattle.buffers.specs.Bytes.{put}
use Rattle.year.specs.declared.Setup.{Setup}
use Rattle.year.specs.declared.Event.{Event}
use Rattle.year.specs.Replay.{replay}
use Rattle.year.specs.Model.{NoSetup, Year}
use Rattle.report.specs.Report.{report}
use Rattle.report.specs.Shown.{Shown}
use Rattle.journal.specs.Read.{read_journal}
use Rattle.reference.specs.Call.{Report, Write, Call, Ask}
use Rattle.reference.specs.Answers.{refusal_on, out_after, out_part}

abbrev pub report_into : ℕ → Call
report_into size = Ask (Write Report size)

-- of an accepted journal that reads back as this setup and these events
pub record Reported (journal : List ℕ) (s : Setup) (es : List Event) : Type 0 where
  -- "18, the page buffer has under 61 × (n + 1) bytes": refused by it in every shorter buffer, accepted in every other
  pub too_short : (size : ℕ) → size < 61 * (length (replay s es).tested + 1) → refusal_on (report_into size) journal ≡ 18
  pub accepted : (size : ℕ) → 61 * (length (replay s es).tested + 1) ≤ size → refusal_on (report_into size) journal ≡ 0
  -- "The call hands back the written front part": the page, which then stands at the front of the buffer
  pub part : (out : List ℕ) → 61 * (length (replay s es).tested + 1) ≤ length out → out_part Report journal out ≡ report (replay s es)
  pub out : (out : List ℕ) → 61 * (length (replay s es).tested + 1) ≤ length out → out_after Report journal out ≡ put out 0 (report (replay s es))
  -- "Each figure fits its column, for every book. Reading a line's columns gives back the figures of that engine."
  pub shown : Shown (replay s es)

pub record ReportPromises : Type 0 where
  pub every : (journal : List ℕ) (s : Setup) (es : List Event) → read_journal journal ≡ Year s es → Reported journal s es
  -- 7 comes before 18
  pub none : (journal : List ℕ) (size : ℕ) → length journal ≡ 544 → read_journal journal ≡ NoSetup → refusal_on (report_into size) journal ≡ 7

-- Document 02, W-204, on the calls: "A year in which every engine fails must never show verdict 4 unless one percent rounds to 0". `FailingEngines` of the crate year
-- says the same, and more, of a year in work at every m.
use Rattle.std.specs.Prelude.{◌≡◌, List, ℕ, ◌≤◌, All, count_by}
use Rattle.year.specs.declared.Setup.{Setup}
use Rattle.year.specs.declared.Event.{Event}
use Rattle.year.specs.Replay.{replay}
use Rattle.year.specs.Model.{Year}
use Rattle.year.specs.Verdict.{one_percent, passes}
use Rattle.year.specs.FailingEngines.{Fails}
use Rattle.journal.specs.Read.{read_journal}
use Rattle.reference.specs.Call.{Call, previewed}
use Rattle.reference.specs.Answers.{refusal_on, journal_after, answer, outcome_of}

-- of every accepted call that answers a status with verdict 4: the year of that status (for a preview, the one with its engine)
pub record FailingShown : Type 0 where
  pub enough_pass : (call : Call) (journal : List ℕ) (s : Setup) (es : List Event) → refusal_on call journal ≡ 0
      → read_journal (journal_after (previewed call) journal) ≡ Year s es → (outcome_of (answer call journal)).status.verdict ≡ 4
      → one_percent s.volume ≤ count_by passes (replay s es).tested
  pub none_passes : (call : Call) (journal : List ℕ) (s : Setup) (es : List Event) → refusal_on call journal ≡ 0
      → read_journal (journal_after (previewed call) journal) ≡ Year s es → All Fails (replay s es).tested
      → (outcome_of (answer call journal)).status.verdict ≡ 4 → one_percent s.volume ≡ 0

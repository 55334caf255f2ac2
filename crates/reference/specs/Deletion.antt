-- Document 02, W-201, on the calls: "All figures become those the book had without that engine", and "an engine followed by its strike, both accepted, must
-- give the earlier status". `Deletions` of the crate year says the same of a year's events. A deletion is document 02's strike.
use Rattle.std.specs.Prelude.{◌≡◌, cond, List, ℕ, ◌+◌, ◌<◌, get_or}
use Rattle.year.specs.declared.Setup.{Setup}
use Rattle.year.specs.declared.Event.{Event}
use Rattle.year.specs.Replay.{replay}
use Rattle.year.specs.Admissible.{closed, events_full}
use Rattle.year.specs.Model.{Year}
use Rattle.year.specs.Deletions.{remaining}
use Rattle.journal.specs.Encode.{encode}
use Rattle.journal.specs.Read.{read_journal}
use Rattle.reference.specs.declared.Change.TheVariants.{Delete}
use Rattle.reference.specs.Call.{Readings, EnterEngine, EnterChange, Form, ReadStatus, Call, Enter, Ask}
use Rattle.reference.specs.Answers.{refusal_on, journal_after, answer, out_after, out_part, output_answer}

abbrev pub engine_call : ℕ → Readings → Call
engine_call number readings = Enter (EnterEngine number readings)

abbrev pub deletion_call : Call
deletion_call = Enter (EnterChange Delete)

-- two journals on which status answers the same, and each output is the same, in every lent buffer
pub record SameFigures (a b : List ℕ) : Type 0 where
  pub status : answer (Ask ReadStatus) a ≡ answer (Ask ReadStatus) b
  pub out : (form : Form) (out : List ℕ) → out_after form a out ≡ out_after form b out
  pub part : (form : Form) (out : List ℕ) → out_part form a out ≡ out_part form b out
  pub output : (form : Form) (out : List ℕ) → output_answer form a out ≡ output_answer form b out

pub record DeletionPromises : Type 0 where
  -- an accepted journal has the figures of the journal of its remaining events, which has no strikes
  pub figures : (journal : List ℕ) (s : Setup) (es : List Event) → read_journal journal ≡ Year s es
      → (read_journal (encode 1 s (remaining es)) ≡ Year s (remaining es)) × SameFigures journal (encode 1 s (remaining es))
  -- an accepted engine and its accepted strike: the strike answers what status answered before the engine
  pub answered : (number : ℕ) (readings : Readings) (journal : List ℕ) → refusal_on (engine_call number readings) journal ≡ 0
      → refusal_on deletion_call (journal_after (engine_call number readings) journal) ≡ 0
      → answer deletion_call (journal_after (engine_call number readings) journal) ≡ answer (Ask ReadStatus) journal
  -- status and marks are then what they were
  pub undone : (number : ℕ) (readings : Readings) (journal : List ℕ) → refusal_on (engine_call number readings) journal ≡ 0
      → refusal_on deletion_call (journal_after (engine_call number readings) journal) ≡ 0
      → SameFigures (journal_after deletion_call (journal_after (engine_call number readings) journal)) journal
  -- and so is the refusal of every call, as long as two slots fewer are enough: "The engine number is free again", the period can be short again
  pub refusals : (number : ℕ) (readings : Readings) (journal : List ℕ) → refusal_on (engine_call number readings) journal ≡ 0
      → refusal_on deletion_call (journal_after (engine_call number readings) journal) ≡ 0 → get_or journal 24 0 + 2 < 64
      → (call : Call) → refusal_on call (journal_after deletion_call (journal_after (engine_call number readings) journal)) ≡ refusal_on call journal
  -- a strike right after an accepted engine is refused by 8 if the year has failed, by 9 if the engine took the last slot, and by nothing else
  pub next : (number : ℕ) (readings : Readings) (journal : List ℕ) → refusal_on (engine_call number readings) journal ≡ 0
      → (s : Setup) (es : List Event) → read_journal (journal_after (engine_call number readings) journal) ≡ Year s es
      → refusal_on deletion_call (journal_after (engine_call number readings) journal) ≡ cond (closed (replay s es)) 8 (cond (events_full (replay s es)) 9 0)

-- Document 01, "Refused calls, in checking order", 3 to 16, for every call, and of document 02 refusal 17, checked after 9, and 18, checked after 16. (1 and 2 belong to
-- the key line.)
-- One table, over the call, the length of the journal's buffer, and the year that it holds.
use Rattle.std.specs.Prelude.{Bool, true, not, ◌&&◌, ◌||◌, List, [], ◌∷◌, ℕ, ◌+◌, ◌*◌, eqb, ltb, length}
use Rattle.conditions.specs.Rows.{Row, first}
use Rattle.rounding.specs.Result.{count_in_range, reading_in_range}
use Rattle.year.specs.Setup.{both, standards_in_range, production_in_range, factors_in_range}
use Rattle.year.specs.Replay.{short, is_tested, newest_in}
use Rattle.year.specs.Admissible.{closed, events_full, engines_full, number_in_range, results_in_range, last_period}
use Rattle.year.specs.Model.{Model, no_setup, of_year}
use Rattle.reference.specs.Call.{Readings, readings_of, Call, results_of, previewed, is_setup, adds_event, of_setup, of_entry, of_query, of_engine, of_change, of_amendment, of_period, of_deletion, of_marks, of_report}

-- "The reading counts differ or are not 1 to 3."
abbrev pub counts_fit : Readings → Bool
counts_fit readings = eqb (length readings.hcnox) (length readings.co) && count_in_range (length readings.hcnox)

-- "A reading is above 20,000,000."
abbrev pub all_in_range : List ℕ → Bool
all_in_range [] = true
all_in_range (x ∷ xs) = reading_in_range x && all_in_range xs

abbrev pub readings_fit : Readings → Bool
readings_fit readings = both (λ q. all_in_range (readings_of q readings))

-- the table, for a journal buffer of this size that holds this year; a preview is refused by the rows of the engine's entry (`refusals` below)
abbrev pub rows : ℕ → Call → Model → List Row
rows size call model =
    -- The book buffer is not 544 bytes.
    (not (eqb size 544), 3)
    -- P or D is out of range.
    ∷ (of_setup (λ s. not (production_in_range s)) call, 4)
    -- A standard is out of range or no multiple of ten.
    ∷ (of_setup (λ s. not (standards_in_range s.standards)) call || of_entry (of_change (of_amendment (λ standards. not (standards_in_range standards)))) call, 5)
    -- A factor or its kind is out of range.
    ∷ (of_setup (λ s. not (factors_in_range s)) call, 6)
    -- The buffer is no accepted book (not checked by setup).
    ∷ (not (is_setup call) && no_setup model, 7)
    -- The verdict is 6 or 7 and the call would add an event.
    ∷ (adds_event call && of_year closed model, 8)
    -- 64 events are stored and the call would add one.
    ∷ (adds_event call && of_year events_full model, 9)
    -- No engine of the current period to strike.
    ∷ (of_entry (of_change (of_deletion (of_year (λ p. not (newest_in p.period p.tested)) model))) call, 17)
    -- The engine number is out of range or in the book.
    ∷ (of_entry (of_engine (λ number readings. not (number_in_range number) || of_year (λ p. is_tested number p.tested) model)) call, 10)
    -- The reading counts differ or are not 1 to 3.
    ∷ (of_entry (of_engine (λ number readings. not (counts_fit readings))) call, 11)
    -- A reading is above 20,000,000.
    ∷ (of_entry (of_engine (λ number readings. not (readings_fit readings))) call, 12)
    -- A result is above 20,000.
    ∷ (of_entry (of_engine (λ number readings. of_year (λ p. not (results_in_range (results_of p.setup readings))) model)) call, 13)
    -- Forty engines are stored and another comes.
    ∷ (of_entry (of_engine (λ number readings. of_year engines_full model)) call, 14)
    -- The next period is wanted in the last period or while the current one is short.
    ∷ (of_entry (of_change (of_period (of_year (λ p. last_period p || short p) model))) call, 15)
    -- The strip buffer has under 2n bytes.
    ∷ (of_query (of_marks (λ size. of_year (λ p. ltb size (2 * length p.tested)) model)) call, 16)
    -- The page buffer has under 61 × (n + 1) bytes.
    ∷ (of_query (of_report (λ size. of_year (λ p. ltb size (61 * (length p.tested + 1))) model)) call, 18)
    ∷ []

-- the rows by which a call is refused. A preview has those of the engine's entry (document 02, W-202)
unfoldable pub refusals : ℕ → Call → Model → List Row
refusals size call model = rows size (previewed call) model

-- demand 1: "the first that applies, in 01's order, is the one returned"; 0 if none does
unfoldable pub refusal : ℕ → Call → Model → ℕ
refusal size call model = first (refusals size call model) 0

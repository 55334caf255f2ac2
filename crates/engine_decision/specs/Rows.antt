-- An engine's rows on a year, in the parts in which the code tests them, since results can be computed only once the readings fit. proofs/OneEngine proves that
-- these are the rows of `refusals`, in its order.
use Rattle.std.specs.Prelude.{not, ◌&&◌, ◌||◌, List, [], ◌∷◌, ℕ, leb, length, Result}
use Rattle.conditions.specs.Rows.{Row, first}
use Rattle.rounding.specs.Result.{result_in_range}
use Rattle.year.specs.declared.Event.{Event}
use Rattle.year.specs.Replay.{Progress, is_tested}
use Rattle.year.specs.Admissible.{number_in_range}
use Rattle.reference.specs.Call.{Readings, EnterEngine, results_of, event_of}
use Rattle.reference.specs.Refusals.{counts_fit, readings_fit}
use Rattle.reference.specs.declared.Refusal.{Refusal}
use Rattle.reference.specs.Refused.{unless_refused}

-- tested before its results are computed
abbrev pub asked_rows : ℕ → Readings → Progress → List Row
asked_rows number readings p =
    (not (number_in_range number) || is_tested number p.tested, 10) ∷ (not (counts_fit readings), 11) ∷ (not (readings_fit readings), 12) ∷ []

-- tests of its results, and of the number of engines tested
abbrev pub worked_rows : ℕ → ℕ → ℕ → List Row
worked_rows hcnox co count = (not (result_in_range hcnox && result_in_range co), 13) ∷ (leb 40 count, 14) ∷ []

abbrev pub engine_refusal : ℕ → Readings → Progress → ℕ
engine_refusal number readings p =
    first (asked_rows number readings p)
    (first (worked_rows (results_of p.setup readings).hcnox (results_of p.setup readings).co (length p.tested)) 0)

abbrev pub engine_decision : ℕ → Readings → Progress → Result Event Refusal
engine_decision number readings p = unless_refused (engine_refusal number readings p) (event_of p (EnterEngine number readings))

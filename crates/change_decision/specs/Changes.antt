-- A change's own rows of the table of refusals, and the event that it adds. proofs/Changed proves that these are rows of `refusals`, in its order.
use Rattle.std.specs.Prelude.{not, ◌||◌, [], ◌∷◌, ℕ, Result}
use Rattle.conditions.specs.Rows.{first}
use Rattle.year.specs.declared.Event.{Event}
use Rattle.year.specs.Replay.{Progress, short, newest_in}
use Rattle.year.specs.Admissible.{last_period}
use Rattle.reference.specs.declared.Change.{Change}
use Rattle.reference.specs.declared.Refusal.{Refusal}
use Rattle.reference.specs.Call.{change_event, of_period, of_deletion}
use Rattle.reference.specs.Refused.{unless_refused}

-- a change's own rows, on a year: 17, then 15
abbrev pub change_refusal : Change → Progress → ℕ
change_refusal change p =
    first ((of_deletion (not (newest_in p.period p.tested)) change, 17) ∷ (of_period (last_period p || short p) change, 15) ∷ []) 0

abbrev pub change_decision : Change → Progress → Result Event Refusal
change_decision change p = unless_refused (change_refusal change p) (change_event change)

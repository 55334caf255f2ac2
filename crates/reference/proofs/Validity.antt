-- The event of an accepted entry is admissible, so a year that any list of calls leaves in the reference model could have been entered.
use mathlib.Core.Path.{◌≡◌, refl}
use mathlib.Core.Bool.{true, false, not, and-eq-true_iff}
use mathlib.Core.List.{List, [], ◌∷◌}
use Prim.Native.Nat.{ℕ}
use native.Mathlib.Omega.{arith}
use lib.Dec.{eqb}
use lib.ListN.{length}
use borrow.Author.Tests.{eqb-true}
use Rattle.conditions.specs.Rows.{applies, Numbered}
use Rattle.conditions.proofs.Rows.{first-none, none-applies}
use Rattle.conditions.proofs.Tests.{by-test, and-true, or-false, false-not, not-false}
use Rattle.rounding.specs.Result.{count_in_range}
use Rattle.year.specs.declared.Setup.{Setup}
use Rattle.year.specs.declared.Event.{Event}
use Rattle.year.specs.Setup.{standards_in_range, production_in_range, factors_in_range, setup_in_range}
use Rattle.year.specs.Replay.{replay, is_tested}
use Rattle.year.specs.Admissible.{number_in_range, results_in_range, fits, admissible, valid}
use Rattle.year.specs.Model.{Model, NoSetup, Year}
use Rattle.year.proofs.Valid.{valid-next}
use Rattle.year.proofs.Ranges.{admitted-by}
use Rattle.reference.specs.Call.{Readings, Entry, EnterEngine, EnterChange, Call, SetUp, Enter, Ask, results_of, event_of}
use Rattle.reference.specs.declared.Change.TheVariants.{Amend, BeginPeriod, Declare, Delete}
use Rattle.reference.specs.Refusals.{refusals, refusal}
use Rattle.reference.specs.Model.{accepted, step_model, model_of}

pub refusals-numbered : (size : ℕ) (call : Call) (model : Model) → Numbered (refusals size call model)
unfolding refusals
refusals-numbered size call model = omega arith

-- if a call is not refused, no row applies to it
pub not-refused : (size : ℕ) (call : Call) (model : Model) → refusal size call model ≡ 0 → (r : ℕ) → applies (refusals size call model) r ≡ false
unfolding refusal
not-refused size call model h r =
    none-applies (refusals size call model) r (first-none (refusals size call model) (refusals-numbered size call model) h)

module _ (s : Setup) (es : List Event) where
  -- if an entry is not refused, the row with number r does not apply to it
  no : (entry : Entry) → refusal 544 (Enter entry) (Year s es) ≡ 0 → (r : ℕ) → applies (refusals 544 (Enter entry) (Year s es)) r ≡ false
  no entry h = not-refused 544 (Enter entry) (Year s es) h

  engine-fits : (number : ℕ) (readings : Readings) → refusal 544 (Enter (EnterEngine number readings)) (Year s es) ≡ 0
      → fits (replay s es) (event_of (replay s es) (EnterEngine number readings)) ≡ true
  unfolding refusals
  engine-fits number readings h =
      let row = no (EnterEngine number readings) h in
      let free = or-false (not (number_in_range number)) (is_tested number (replay s es).tested) (row 10) in
      let counts = (and-eq-true_iff (eqb (length readings.hcnox) (length readings.co)) (count_in_range (length readings.hcnox))).0 (not-false _ (row 11)) in
      let results = not-false (results_in_range (results_of (replay s es).setup readings)) (row 13) in
      and-true (and-true (and-true (and-true (not-false (number_in_range number) free.0) (false-not free.1)) counts.1) results) (false-not (row 14))

  entry-fits : (entry : Entry) → refusal 544 (Enter entry) (Year s es) ≡ 0 → fits (replay s es) (event_of (replay s es) entry) ≡ true
  unfolding refusals
  entry-fits (EnterEngine number readings) h = engine-fits number readings h
  entry-fits (EnterChange (Amend standards)) h = not-false _ (no (EnterChange (Amend standards)) h 5)
  entry-fits (EnterChange BeginPeriod) h = false-not (no (EnterChange BeginPeriod) h 15)
  entry-fits (EnterChange Declare) h = refl
  entry-fits (EnterChange Delete) h = not-false _ (no (EnterChange Delete) h 17)

  -- the event of an accepted entry is admissible
  pub admitted : (entry : Entry) → refusal 544 (Enter entry) (Year s es) ≡ 0 → admissible (replay s es) (event_of (replay s es) entry) ≡ true
  unfolding refusals
  admitted entry h = admitted-by (replay s es) (event_of (replay s es) entry) (no entry h 8) (no entry h 9) (entry-fits entry h)

-- so a model's year remains one that could have been entered
abbrev pub ValidModel : Model → Type 0
ValidModel NoSetup = Unit {0}
ValidModel (Year s es) = valid s es ≡ true

pub setup-valid : (s : Setup) (model : Model) → refusal 544 (SetUp s) model ≡ 0 → setup_in_range s ≡ true
unfolding refusals
setup-valid s model h =
    let row = not-refused 544 (SetUp s) model h in
    let standards = (or-false (not (standards_in_range s.standards)) false (row 5)).0 in
    and-true (and-true (not-false (production_in_range s) (row 4)) (not-false (standards_in_range s.standards) standards)) (not-false (factors_in_range s) (row 6))

accepted-valid : (call : Call) (model : Model) → refusal 544 call model ≡ 0 → ValidModel model → ValidModel (accepted call model)
accepted-valid (SetUp s) model h v = setup-valid s model h
accepted-valid (Enter entry) NoSetup h v = v
accepted-valid (Enter entry) (Year s es) h v = valid-next s (event_of (replay s es) entry) es v (admitted s es entry h)
accepted-valid (Ask query) model h v = v

pub step-valid : (call : Call) (model : Model) → ValidModel model → ValidModel (step_model call model)
unfolding step_model
step-valid call model v =
    by-test ValidModel (eqb (refusal 544 call model) 0) (accepted call model) model (λ e. accepted-valid call model (eqb-true _ 0 e) v) (λ _. v)

pub model-valid : (calls : List Call) → ValidModel (model_of calls)
model-valid [] = tt
model-valid (call ∷ calls) = step-valid call (model_of calls) (model-valid calls)

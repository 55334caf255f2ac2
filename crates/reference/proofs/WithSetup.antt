-- A list of calls leaves the reference model with a setup exactly if there is an accepted setup in it.
use mathlib.Core.Path.{◌≡◌, refl, ap, ◌∙◌}
use mathlib.Core.Bool.{true, false, ◌&&◌, false≢true}
use mathlib.Core.List.{List, [], ◌∷◌}
use lib.Dec.{eqb}
use Rattle.conditions.proofs.Tests.{by-test, cond_same, or-false, either_true}
use Rattle.year.specs.Model.{Model, NoSetup, Year, no_setup}
use Rattle.reference.specs.Call.{Call, SetUp, Enter, Ask, is_setup}
use Rattle.reference.specs.Refusals.{refusal}
use Rattle.reference.specs.Model.{accepted, step_model, model_of, setup_accepted}

-- no call removes a setup
pub accepted-has : (call : Call) (model : Model) → no_setup model ≡ false → no_setup (accepted call model) ≡ false
accepted-has (SetUp s) model h = refl
accepted-has (Enter entry) NoSetup h = h
accepted-has (Enter entry) (Year s es) h = refl
accepted-has (Ask query) model h = h

pub step-has : (call : Call) (model : Model) → no_setup model ≡ false → no_setup (step_model call model) ≡ false
unfolding step_model
step-has call model h =
    by-test (λ (m : Model). no_setup m ≡ false) (eqb (refusal 544 call model) 0) (accepted call model) model (λ _. accepted-has call model h) (λ _. h)

setup-has : (call : Call) (model : Model) → (is_setup call && eqb (refusal 544 call model) 0) ≡ true → no_setup (step_model call model) ≡ false
unfolding step_model
setup-has (SetUp s) model h = rw h
setup-has (Enter entry) model h = absurd (false≢true h)
setup-has (Ask query) model h = absurd (false≢true h)

pub model-has-setup : (calls : List Call) → setup_accepted calls ≡ true → no_setup (model_of calls) ≡ false
model-has-setup [] h = absurd (false≢true h)
model-has-setup (call ∷ calls) h =
    either_true (is_setup call && eqb (refusal 544 call (model_of calls)) 0) (setup-has call (model_of calls))
    (λ before. step-has call (model_of calls) (model-has-setup calls before)) h

-- and no other call than an accepted setup adds one
step-none : (call : Call) → (is_setup call && eqb (refusal 544 call NoSetup) 0) ≡ false → step_model call NoSetup ≡ NoSetup
unfolding step_model
step-none (SetUp s) h = rw h
step-none (Enter entry) h = cond_same (eqb (refusal 544 (Enter entry) NoSetup) 0) NoSetup
step-none (Ask query) h = cond_same (eqb (refusal 544 (Ask query) NoSetup) 0) NoSetup

pub model-has-none : (calls : List Call) → setup_accepted calls ≡ false → model_of calls ≡ NoSetup
model-has-none [] h = refl
model-has-none (call ∷ calls) h =
    let parts = or-false (is_setup call && eqb (refusal 544 call (model_of calls)) 0) (setup_accepted calls) h in
    let before = model-has-none calls parts.1 in
    ap (step_model call) before ∙ step-none call (rw before at parts.0)

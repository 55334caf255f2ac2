-- As long as no setup was accepted, no byte of the journal has changed.
use mathlib.Core.Path.{◌≡◌, refl, sym, ap, ◌∙◌}
use mathlib.Core.Bool.{Bool, true, false, cond, false≢true}
use mathlib.Core.List.{List, [], ◌∷◌}
use Prim.Native.Nat.{ℕ}
use lib.Dec.{eqb}
use Rattle.buffers.specs.Bytes.{zeros}
use Rattle.conditions.proofs.Tests.{cond_same}
use Rattle.year.specs.Model.{Model, NoSetup, Year, no_setup}
use Rattle.journal.specs.Encode.{setup_version, encode}
use Rattle.reference.specs.Call.{Call, SetUp, Enter, Ask}
use Rattle.reference.specs.Refusals.{refusal}
use Rattle.reference.specs.Answers.{journal_after}
use Rattle.reference.specs.Model.{step_model, model_of, journal_of}
use Rattle.reference.specs.Stored.{Holds}
use Rattle.reference.proofs.WithSetup.{step-has}
use Rattle.reference.proofs.Stored.{stored-calls}

-- a call that leaves the model without a setup found it without one
was-none : (call : Call) (model : Model) → step_model call model ≡ NoSetup → model ≡ NoSetup
was-none call NoSetup e = refl
was-none call (Year s es) e = absurd (false≢true (sym (step-has call (Year s es) refl) ∙ ap no_setup e))

module _ (journal : List ℕ) (holds : Holds journal NoSetup) where
  -- and such a call wrote nothing
  leaves : (call : Call) → step_model call NoSetup ≡ NoSetup → journal_after call journal ≡ journal
  unfolding journal_after step_model
  leaves (SetUp s) e = rw (holds.size, holds.reads) (by (eqb (refusal 544 (SetUp s) NoSetup) 0) e)
    where
      by : (b : Bool) → cond b (Year s []) NoSetup ≡ NoSetup → cond b (encode setup_version s []) journal ≡ journal
      by true h = absurd (false≢true (ap no_setup h))
      by false h = refl
  leaves (Enter entry) e = rw (holds.size, holds.reads) (cond_same (eqb (refusal 544 (Enter entry) NoSetup) 0) journal)
  leaves (Ask query) e = rw (holds.size, holds.reads) (cond_same (eqb (refusal 544 (Ask query) NoSetup) 0) journal)

pub untouched : (calls : List Call) → model_of calls ≡ NoSetup → journal_of calls ≡ zeros 544
untouched [] e = refl
untouched (call ∷ calls) e =
    let none = was-none call (model_of calls) e in
    let held = stored-calls.every calls in
    leaves (journal_of calls) (rw none at held) call (rw none at e) ∙ untouched calls none

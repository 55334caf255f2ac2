-- An engine's own rows: those tested before its results are computed, and those after; and that they are those of the table.
use Rattle.std.specs.Prelude.{Ok, Err}
use mathlib.Core.Path.{◌≡◌, sym, ap, ◌∙◌}
use mathlib.Core.Logic.{◌≢◌}
use mathlib.Core.List.{List}
use Prim.Native.Nat.{ℕ}
use native.Mathlib.Omega.{arith}
use lib.ListN.{length}
use Rattle.conditions.proofs.Rows.{first-kept, first-passed}
use Rattle.conditions.specs.Rows.{first, from, Numbered}
use Rattle.year.specs.declared.Setup.{Setup}
use Rattle.year.specs.declared.Event.{Event}
use Rattle.year.specs.declared.Event.TheVariants.{Engine}
use Rattle.year.specs.Replay.{Progress}
use Rattle.journal.specs.Read.{read_journal}
use Rattle.reference.specs.Call.{Readings, EnterEngine, Enter, results_of, event_of}
use Rattle.reference.specs.Refusals.{refusals}
use Rattle.reference.specs.declared.Refusal.{Refusal}
use Rattle.reference.specs.Refused.{number_of, unless_refused}
use Rattle.reference.proofs.Refused.{above_0, err-gives}
use Rattle.slots.proofs.Year.{StandsFor}
use Rattle.engine_decision.specs.Rows.{asked_rows, worked_rows, engine_refusal, engine_decision}
use Rattle.refusals.proofs.Decided.{own}

module _ (number : ℕ) (readings : Readings) (p : Progress) where
  asked-numbered : Numbered (asked_rows number readings p)
  asked-numbered = omega arith

  -- a row tested before the results are computed decides if one applies
  pub asked_refused : (r : Refusal) → number_of r ≡ first (asked_rows number readings p) 0 → Err r ≡ engine_decision number readings p
  asked_refused r e =
      let later = first (worked_rows (results_of p.setup readings).hcnox (results_of p.setup readings).co (length p.tested)) 0 in
      let some : first (asked_rows number readings p) 0 ≢ 0 = omega (arith, e, above_0 r) in
      err-gives _ (event_of p (EnterEngine number readings)) r (e ∙ sym (first-kept (asked_rows number readings p) later some))

-- on a year, once the engine's results are computed
module _ (number : ℕ) (readings : Readings) (p : Progress) (asked : 0 ≡ first (asked_rows number readings p) 0) (s : Setup) (same : s ≡ p.setup)
    (hcnox co count : ℕ) (h : hcnox ≡ (results_of s readings).hcnox) (o : co ≡ (results_of s readings).co) (n : count ≡ length p.tested) where
  abbrev added : Event
  added = Engine number (length readings.hcnox) (record { hcnox = hcnox; co = co })

  by-results : unless_refused (first (worked_rows hcnox co count) 0) added ≡ engine_decision number readings p
  by-results =
      rw (h, o, n, same)
      (ap (λ r. unless_refused r (event_of p (EnterEngine number readings))) (sym (first-passed (asked_rows number readings p) _ (asked-numbered number readings p) (sym asked))))

  pub results_refused : (r : Refusal) → number_of r ≡ first (worked_rows hcnox co count) 0 → Err r ≡ engine_decision number readings p
  results_refused r e = err-gives _ added r e ∙ by-results

  pub results_added : 0 ≡ first (worked_rows hcnox co count) 0 → Ok added ≡ engine_decision number readings p
  results_added z = ap (λ r. unless_refused r added) z ∙ by-results

-- its rows are those of the table, on a journal that holds a year
pub engine_rows : (number : ℕ) (readings : Readings) (journal : List ℕ) (p : Progress) → StandsFor p (read_journal journal)
    → engine_refusal number readings p ≡ own (EnterEngine number readings) journal
unfolding refusals
engine_rows number readings journal p year =
    ap (engine_refusal number readings) year.year
    ∙ ap (λ model. first (from 17 (refusals (length journal) (Enter (EnterEngine number readings)) model)) 0) (sym year.holds)

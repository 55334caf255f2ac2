-- The events of an accepted journal could have been entered: an entry with an admissible event, and readings in range, is accepted.
use mathlib.Core.Path.{◌≡◌}
use mathlib.Core.Bool.{true, false, not, ◌&&◌, ◌||◌, and-eq-true_iff}
use mathlib.Core.List.{List}
use Prim.Native.Nat.{ℕ}
use lib.ListN.{length}
use borrow.Author.Tests.{not-true}
use Rattle.conditions.proofs.Tests.{or-false}
use Rattle.rounding.specs.Result.{count_in_range}
use Rattle.year.specs.declared.Setup.{Setup}
use Rattle.year.specs.declared.Event.{Event}
use Rattle.year.specs.Replay.{Progress, replay, short, is_tested}
use Rattle.year.specs.Admissible.{engines_full, number_in_range, results_in_range, last_period, admissible}
use Rattle.year.specs.Model.{Year}
use Rattle.year.proofs.Ranges.{open-year, fitting}
use Rattle.journal.specs.Read.{read_journal}
use Rattle.reference.specs.Call.{Entry, EnterEngine, EnterChange, Enter, results_of, event_of}
use Rattle.reference.specs.declared.Change.TheVariants.{Amend, BeginPeriod, Declare, Delete}
use Rattle.reference.specs.Refusals.{refusals, refusal, counts_fit, readings_fit}
use Rattle.reference.specs.Answers.{refusal_on}
use Rattle.reference.specs.Demand2.{unreadable}
use Rattle.reference.proofs.Given.{year-size}

module _ (journal : List ℕ) (s : Setup) (es : List Event) (e : read_journal journal ≡ Year s es) where
  abbrev p : Progress
  p = replay s es

  pub could-enter : (entry : Entry) → admissible (replay s es) (event_of (replay s es) entry) ≡ true → unreadable entry ≡ false → refusal_on (Enter entry) journal ≡ 0
  unfolding refusal refusals
  could-enter (EnterEngine number readings) a r =
      let event = event_of p (EnterEngine number readings) in
      let running = open-year p event a in
      let new = not (is_tested number p.tested) in
      let count = count_in_range (length readings.hcnox) in
      let result = results_in_range (results_of p.setup readings) in
      let full = (and-eq-true_iff (number_in_range number && new && count && result) (not (engines_full p))).0 (fitting p event a) in
      let results = (and-eq-true_iff (number_in_range number && new && count) result).0 full.0 in
      let named = (and-eq-true_iff (number_in_range number) new).0 ((and-eq-true_iff (number_in_range number && new) count).0 results.0).0 in
      let read = or-false (not (counts_fit readings)) (not (readings_fit readings)) r in
      rw (
        year-size journal s es e,
        e,
        running.0,
        running.1,
        named.0,
        not-true (is_tested number p.tested) named.1,
        read.0,
        read.1,
        results.1,
        not-true (engines_full p) full.1,
      )
  could-enter (EnterChange (Amend standards)) a r =
      let event = event_of p (EnterChange (Amend standards)) in
      let running = open-year p event a in
      rw (year-size journal s es e, e, running.0, running.1, fitting p event a)
  could-enter (EnterChange BeginPeriod) a r =
      let event = event_of p (EnterChange BeginPeriod) in
      let running = open-year p event a in
      rw (year-size journal s es e, e, running.0, running.1, not-true (last_period p || short p) (fitting p event a))
  could-enter (EnterChange Declare) a r = let running = open-year p (event_of p (EnterChange Declare)) a in rw (year-size journal s es e, e, running.0, running.1)
  could-enter (EnterChange Delete) a r =
      let event = event_of p (EnterChange Delete) in
      let running = open-year p event a in
      rw (year-size journal s es e, e, running.0, running.1, fitting p event a)

-- The decision on an entry, from the rows that can apply to every entry and then its own.
use mathlib.Core.Path.{◌≡◌, refl, sym, ap, ◌∙◌}
use mathlib.Core.Logic.{◌≢◌}
use mathlib.Core.List.{List}
use Prim.Native.Nat.{ℕ}
use native.Mathlib.Omega.{arith}
use Rattle.std.specs.Prelude.{Err, Some}
use Rattle.conditions.specs.Rows.{Row, first, Numbered}
use Rattle.conditions.proofs.Rows.{first-kept, first-passed}
use Rattle.year.specs.Model.{Model, NoSetup, Year}
use Rattle.year.specs.Replay.{Progress}
use Rattle.journal.specs.Read.{read_journal}
use Rattle.reference.specs.declared.Refusal.{Refusal}
use Rattle.reference.specs.Refused.{number_of, unless_refused}
use Rattle.reference.specs.Call.{Entry, Enter, event_of}
use Rattle.reference.specs.Refusals.{refusals, refusal}
use Rattle.reference.specs.Answers.{refusal_on}
use Rattle.reference.proofs.Refused.{above_0, err_named, err-gives}
use Rattle.slots.specs.Scanned.{year_of}
use Rattle.slots.proofs.Year.{StandsFor, stands}
use Rattle.refusals.specs.Parts.{unfit_standards, entry_rows}
use Rattle.refusals.specs.Decisions.{decision, decision_on}
use Rattle.refusals.proofs.Decided.{own}

module _ (entry : Entry) (journal : List ℕ) where
  abbrev shared : List Row
  shared = entry_rows (unfit_standards entry) journal

  whole : refusal_on (Enter entry) journal ≡ first shared (own entry journal)
  unfolding refusal refusals entry_rows
  whole = refl

  -- one of the rows that all entries share
  pub shared_refused : (r : Refusal) → number_of r ≡ first shared 0 → Err r ≡ decision_on entry journal
  shared_refused r e = by (read_journal journal)
    where
      some : first shared 0 ≢ 0
      some = omega (arith, e, above_0 r)

      same : number_of r ≡ refusal_on (Enter entry) journal
      same = e ∙ sym (whole ∙ first-kept shared (own entry journal) some)

      by : (model : Model) → Err r ≡ decision entry (refusal_on (Enter entry) journal) model
      by NoSetup = ap Err (err_named r _ same)
      by (Year s es) = err-gives _ _ r same

  -- none of them: its own rows on the year that the journal holds
  pub own_decides : (p : Progress) → 0 ≡ first shared 0 → Some p ≡ year_of (read_journal journal) → (number : ℕ)
      → (StandsFor p (read_journal journal) → number ≡ own entry journal) → unless_refused number (event_of p entry) ≡ decision_on entry journal
  unfolding entry_rows
  own_decides p none held number rows =
      let year = stands (read_journal journal) p held in
      let numbered : Numbered shared = omega arith in
      let same : number ≡ refusal_on (Enter entry) journal = rows year ∙ sym (whole ∙ first-passed shared (own entry journal) numbered (sym none)) in
      ap (λ q. unless_refused number (event_of q entry)) year.year
      ∙ ap (decision entry number) (sym year.holds)
      ∙ ap (λ n. decision entry n (read_journal journal)) same

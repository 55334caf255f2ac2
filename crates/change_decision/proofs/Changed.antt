-- A change's own rows are those of the table, and the test of its standards is that of row 5.
use mathlib.Core.Path.{◌≡◌, sym, ap, ◌∙◌}
use mathlib.Core.Bool.{Bool, cond}
use mathlib.Core.List.{List}
use Prim.Native.Nat.{ℕ}
use native.Mathlib.Omega.{arith}
use lib.ListN.{length}
use Rattle.std.specs.Prelude.{Result}
use Rattle.std.specs.Result.{is_err}
use Rattle.conditions.specs.Rows.{first, from}
use Rattle.year.specs.Replay.{Progress}
use Rattle.journal.specs.Read.{read_journal}
use Rattle.reference.specs.declared.Change.{Change}
use Rattle.reference.specs.declared.Refusal.{Refusal}
use Rattle.reference.specs.Refused.{refused}
use Rattle.reference.specs.Call.{EnterChange, Enter}
use Rattle.reference.specs.Refusals.{refusals}
use Rattle.slots.proofs.Year.{StandsFor}
use Rattle.refusals.specs.Parts.{unfit_standards, standards_rows, entry_rows}
use Rattle.refusals.proofs.Decided.{own}
use Rattle.change_decision.specs.Changes.{change_refusal}

pub change_rows : (change : Change) (journal : List ℕ) (p : Progress) → StandsFor p (read_journal journal) → change_refusal change p ≡ own (EnterChange change) journal
unfolding refusals
change_rows change journal p year =
    ap (change_refusal change) year.year
    ∙ ap (λ model. first (from 17 (refusals (length journal) (Enter (EnterChange change)) model)) 0) (sym year.holds)

-- what its standards' test gives, unfit or not, is the test of row 5
module _ {A : Type 0} (change : Change) (test : Result A Refusal) (given : refused test ≡ first (standards_rows (EnterChange change)) 0) where
  is_unfit : is_err test ≡ unfit_standards (EnterChange change)
  is_unfit = by (unfit_standards (EnterChange change)) given
    where
      by : (unfit : Bool) → refused test ≡ cond unfit 5 0 → is_err test ≡ unfit
      by unfit h = grind arith

  pub rows_tested : (journal : List ℕ) (unfit : Bool) → unfit ≡ is_err test
      → first (entry_rows unfit journal) 0 ≡ first (entry_rows (unfit_standards (EnterChange change)) journal) 0
  rows_tested journal unfit e = ap (λ b. first (entry_rows b journal) 0) (e ∙ is_unfit)

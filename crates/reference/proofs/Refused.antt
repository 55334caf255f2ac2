-- The refusals by name and by number: each number of the table has a name, and what a test or a call gives back tells whether it is refused.
use Rattle.std.proofs.Common.{Result, IsErrAnd, ◌≡◌, ◌≢◌, ◌∙◌, ap, sym, List, [], ◌∷◌, ℕ, ◌≤◌, refl, arith}
use Rattle.std.proofs.lemmas.Result.{err_from_is_err_and}
use mathlib.Core.Bool.{Bool, true, false, cond}
use lib.Dec.{eqb}
use lib.ListN.{length}
use borrow.Author.Tests.{eqb-true, eqb-false, ne_eqb}
use Rattle.conditions.specs.Rows.{Row, first}
use Rattle.conditions.proofs.Tests.{by-test}
use Rattle.year.specs.Model.{Model}
use Rattle.journal.specs.Read.{read_journal}
use Rattle.reference.specs.declared.Refusal.{Refusal}
use Rattle.reference.specs.declared.Refusal.TheVariants.{LineTooLong, LineForm, JournalSize, ProductionRange, StandardRange, FactorRange, NotAJournal, YearClosed, EventsFull, EngineNumber, ReadingCount, ReadingRange, ResultRange, EnginesFull, NoNextPeriod, MarksSize, NothingToDelete, ReportSize}
use Rattle.std.proofs.lemmas.Bool.Decides.{nat_tests}
use Rattle.std.specs.Prelude.{Ok, Err}
use Rattle.reference.specs.Call.{Call}
use Rattle.reference.specs.Refusals.{refusals, refusal}
use Rattle.reference.specs.Answers.{refusal_on}
use Rattle.reference.specs.Refused.{number_of, named, unless_refused, Named}

numbered : (n : ℕ) → 1 ≤ n → n ≤ 18 → number_of (named n) ≡ n
numbered n low high = grind (arith, nat_tests)

named_again : (r : Refusal) → named (number_of r) ≡ r
named_again LineTooLong = refl
named_again LineForm = refl
named_again JournalSize = refl
named_again ProductionRange = refl
named_again StandardRange = refl
named_again FactorRange = refl
named_again NotAJournal = refl
named_again YearClosed = refl
named_again EventsFull = refl
named_again EngineNumber = refl
named_again ReadingCount = refl
named_again ReadingRange = refl
named_again ResultRange = refl
named_again EnginesFull = refl
named_again NoNextPeriod = refl
named_again MarksSize = refl
named_again NothingToDelete = refl
named_again ReportSize = refl

pub above_0 : (r : Refusal) → 1 ≤ number_of r
above_0 r = grind arith

at_most_18 : (r : Refusal) → number_of r ≤ 18
at_most_18 r = grind arith

pub refusals_named : Named
refusals_named = record { number = numbered; name = named_again; above_0 = above_0; at_most_18 = at_most_18 }

-- ---- the numbers of the table

-- if every number of a table is at most `most`, so is the number that is taken
abbrev UpTo : ℕ → List Row → Type 0
UpTo most [] = Unit {0}
UpTo most (row ∷ rows) = (row.1 ≤ most) × UpTo most rows

first-up-to : (most : ℕ) (rows : List Row) → UpTo most rows → first rows 0 ≤ most
first-up-to most [] u = omega arith
first-up-to most (row ∷ rows) u = by-test (λ (n : ℕ). n ≤ most) row.0 row.1 (first rows 0) (λ _. u.0) (λ _. first-up-to most rows u.1)

pub refusal-up-to : (size : ℕ) (call : Call) (model : Model) → refusal size call model ≤ 18
unfolding refusals refusal
refusal-up-to size call model = first-up-to 18 (refusals size call model) (omega arith)

-- the number of a refused call is that of its refusal
pub named-number : (size : ℕ) (call : Call) (model : Model) → refusal size call model ≢ 0 → number_of (named (refusal size call model)) ≡ refusal size call model
named-number size call model h = let most = refusal-up-to size call model in numbered (refusal size call model) (omega arith) most

pub named-refusal : (call : Call) (journal : List ℕ) → refusal_on call journal ≢ 0 → number_of (named (refusal_on call journal)) ≡ refusal_on call journal
named-refusal call journal = named-number (length journal) call (read_journal journal)

-- ---- what is given back

-- a refusal with a number is what that number names
pub err_named : (r : Refusal) (number : ℕ) → number_of r ≡ number → r ≡ named number
err_named r number e = sym (named_again r) ∙ ap named e

module _ {A : Type 0} (number : ℕ) (value : A) where
  -- a refusal with this number
  pub err-gives : (r : Refusal) → number_of r ≡ number → Err r ≡ unless_refused number value
  err-gives r e =
      let f : number ≢ 0 = omega (arith, e, above_0 r) in
      rw (ne_eqb number 0 f) (ap Err (err_named r number e))

  -- accepted, with this value; or refused, by the refusal of this number
  pub ok-means : (x : A) → Ok x ≡ unless_refused number value → (number ≡ 0) × (x ≡ value)
  ok-means x e = by (eqb number 0) refl e
    where
      by : (b : Bool) → eqb number 0 ≡ b → Ok x ≡ cond b (Ok value) (Err (named number)) → (number ≡ 0) × (x ≡ value)
      by true h k = (eqb-true number 0 h, grind arith)
      by false h k = absurd (grind arith)

  pub err-means : (r : Refusal) → Err r ≡ unless_refused number value → (number ≢ 0) × (r ≡ named number)
  err-means r e = by (eqb number 0) refl e
    where
      by : (b : Bool) → eqb number 0 ≡ b → Err r ≡ cond b (Ok value) (Err (named number)) → (number ≢ 0) × (r ≡ named number)
      by true h k = absurd (grind arith)
      by false h k = (eqb-false number 0 h, grind arith)

-- what a `?` hands on is the refusal that it met
pub handed-on : {A : Type 0} {r want : Result A Refusal} {e : Refusal} → IsErrAnd r (λ d. d ≡ e) → Err e ≡ want → r ≡ want
handed-on {r = r} h k = let p = err_from_is_err_and r h in p.1 ∙ ap Err p.2 ∙ k

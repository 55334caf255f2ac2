-- The refusal of an entry, from the parts of the table: the buffer's size, an amendment's standards, the year's rows, and then the entry's own.
use mathlib.Core.Path.{◌≡◌, sym, ◌∙◌}
use mathlib.Core.Logic.{◌≢◌}
use mathlib.Core.List.{List}
use Prim.Native.Nat.{ℕ}
use native.Mathlib.Omega.{arith}
use lib.ListN.{length}
use borrow.Author.Tests.{ne_eqb}
use Rattle.conditions.specs.Rows.{first, from, Numbered}
use Rattle.conditions.proofs.Rows.{first-kept, first-passed}
use Rattle.reference.specs.declared.Refusal.{Refusal}
use Rattle.reference.specs.Refused.{number_of}
use Rattle.reference.specs.Call.{Entry, Enter}
use Rattle.reference.specs.Refusals.{refusals, refusal}
use Rattle.reference.specs.Answers.{refusals_on, refusal_on}
use Rattle.reference.proofs.Refused.{above_0}
use Rattle.refusals.specs.Parts.{standards_rows, year_rows}

module _ (entry : Entry) (journal : List ℕ) where
  -- the number that its own rows give
  abbrev pub own : ℕ
  own = first (from 17 (refusals_on (Enter entry) journal)) 0

  -- 3 is tested first
  pub other_size : length journal ≢ 544 → 3 ≡ refusal_on (Enter entry) journal
  unfolding refusal refusals
  other_size h = rw (ne_eqb (length journal) 544 h)

  -- on a buffer of a journal's size
  module _ (size : length journal ≡ 544) where
    parts : refusal_on (Enter entry) journal ≡ first (standards_rows entry) (first (year_rows journal) own)
    unfolding refusal refusals
    parts = rw size

    -- then 5
    pub by_standards : (r : Refusal) → number_of r ≡ first (standards_rows entry) 0 → number_of r ≡ refusal_on (Enter entry) journal
    by_standards r e =
        let some : first (standards_rows entry) 0 ≢ 0 = omega (arith, e, above_0 r) in
        e ∙ sym (parts ∙ first-kept (standards_rows entry) (first (year_rows journal) own) some)

    module _ (fit : 0 ≡ first (standards_rows entry) 0) where
      rest : refusal_on (Enter entry) journal ≡ first (year_rows journal) own
      rest = let numbered : Numbered (standards_rows entry) = omega arith in parts ∙ first-passed (standards_rows entry) _ numbered (sym fit)

      -- then 7, 8 and 9
      pub by_year : (r : Refusal) → number_of r ≡ first (year_rows journal) 0 → number_of r ≡ refusal_on (Enter entry) journal
      by_year r e =
          let some : first (year_rows journal) 0 ≢ 0 = omega (arith, e, above_0 r) in
          e ∙ sym (rest ∙ first-kept (year_rows journal) own some)

      -- then the entry's own
      pub by_own : 0 ≡ first (year_rows journal) 0 → refusal_on (Enter entry) journal ≡ own
      by_own none = let numbered : Numbered (year_rows journal) = omega arith in rest ∙ first-passed (year_rows journal) own numbered (sym none)

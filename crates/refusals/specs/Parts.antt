-- The rows of the table of refusals that entries share, in the parts in which the code tests them once it knows the buffer's size; and all of them, on a buffer of
-- any size. proofs/Decided and proofs/Decisions prove that these are rows of `refusals`, in its order.
use Rattle.std.specs.Prelude.{Bool, not, List, [], ◌∷◌, ℕ, eqb, length}
use Rattle.conditions.specs.Rows.{Row}
use Rattle.year.specs.Setup.{standards_in_range}
use Rattle.year.specs.Admissible.{closed, events_full}
use Rattle.year.specs.Model.{no_setup, of_year}
use Rattle.journal.specs.Read.{read_journal}
use Rattle.reference.specs.Call.{Entry, of_change, of_amendment}

-- an amendment's standards are out of range or not multiples of ten
abbrev pub unfit_standards : Entry → Bool
unfit_standards = of_change (of_amendment (λ standards. not (standards_in_range standards)))

-- 5, for an amendment
abbrev pub standards_rows : Entry → List Row
standards_rows entry = (unfit_standards entry, 5) ∷ []

-- 7, 8 and 9, for every entry
abbrev pub year_rows : List ℕ → List Row
year_rows journal =
    (no_setup (read_journal journal), 7)
    ∷ (of_year closed (read_journal journal), 8)
    ∷ (of_year events_full (read_journal journal), 9)
    ∷ []

-- the rows that can apply to every entry, on a buffer of any size: 3, 7, 8 and 9, and in its place in the order 5, for an amendment whose standards are unfit
unfoldable pub entry_rows : Bool → List ℕ → List Row
entry_rows unfit journal = (not (eqb (length journal) 544), 3) ∷ (unfit, 5) ∷ year_rows journal

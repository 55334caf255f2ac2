-- The refusals by name. Documents 01 and 02 know them by their numbers, as the table of `Refusals` has them.
use Rattle.std.specs.Prelude.{◌≡◌, cond, ℕ, ◌≤◌, eqb, Result, Ok, Err}
use Rattle.reference.specs.declared.Refusal.{Refusal}
use Rattle.reference.specs.declared.Refusal.TheVariants.{LineTooLong, LineForm, JournalSize, ProductionRange, StandardRange, FactorRange, NotAJournal, YearClosed, EventsFull, EngineNumber, ReadingCount, ReadingRange, ResultRange, EnginesFull, NoNextPeriod, MarksSize, NothingToDelete, ReportSize}

-- document 01, "Refused calls, in checking order", 1 to 16, and of document 02 17, W-201, and 18, W-205
abbrev pub number_of : Refusal → ℕ
number_of LineTooLong = 1
number_of LineForm = 2
number_of JournalSize = 3
number_of ProductionRange = 4
number_of StandardRange = 5
number_of FactorRange = 6
number_of NotAJournal = 7
number_of YearClosed = 8
number_of EventsFull = 9
number_of EngineNumber = 10
number_of ReadingCount = 11
number_of ReadingRange = 12
number_of ResultRange = 13
number_of EnginesFull = 14
number_of NoNextPeriod = 15
number_of MarksSize = 16
number_of NothingToDelete = 17
number_of ReportSize = 18

-- the refusal with a number from 1 to 18
abbrev pub named : ℕ → Refusal
named number =
    cond (eqb number 1) LineTooLong
    (cond (eqb number 2) LineForm
    (cond (eqb number 3) JournalSize
    (cond (eqb number 4) ProductionRange
    (cond (eqb number 5) StandardRange
    (cond (eqb number 6) FactorRange
    (cond (eqb number 7) NotAJournal
    (cond (eqb number 8) YearClosed
    (cond (eqb number 9) EventsFull
    (cond (eqb number 10) EngineNumber
    (cond (eqb number 11) ReadingCount
    (cond (eqb number 12) ReadingRange
    (cond (eqb number 13) ResultRange
    (cond (eqb number 14) EnginesFull
    (cond (eqb number 15) NoNextPeriod
    (cond (eqb number 16) MarksSize
    (cond (eqb number 17) NothingToDelete ReportSize))))))))))))))))

module _ {A : Type 0} where
  -- the number of what a call or a test gives back: its refusal's, 0 for none
  abbrev pub refused : Result A Refusal → ℕ
  refused (Ok value) = 0
  refused (Err refusal) = number_of refusal

  -- what a call gives back that is refused by this number, or gives a value if that is 0
  abbrev pub unless_refused : ℕ → A → Result A Refusal
  unless_refused number value = cond (eqb number 0) (Ok value) (Err (named number))

module _ {A B : Type 0} where
  -- what a call gives back that writes its value into a lent place: the value left there, or the refusal
  abbrev pub left_in : Result A Refusal → B → Result B Refusal
  left_in (Ok done) value = Ok value
  left_in (Err refusal) value = Err refusal

-- a name for each number, and a number for each name
pub record Named : Type 0 where
  pub number : (n : ℕ) → 1 ≤ n → n ≤ 18 → number_of (named n) ≡ n
  pub name : (r : Refusal) → named (number_of r) ≡ r
  pub above_0 : (r : Refusal) → 1 ≤ number_of r
  pub at_most_18 : (r : Refusal) → number_of r ≤ 18

-- Document 01's tables in which "the first that applies" wins: its verdicts and its refusals.
use Rattle.std.specs.Prelude.{◌≡◌, ◌⊎◌, Bool, true, false, cond, List, [], ◌∷◌, ℕ, ◌<◌, eqb}

-- a row: whether it applies, and its number
abbrev pub Row : Type 0
Row = Bool × ℕ

-- the number of the first row that applies; `otherwise` if none does
abbrev pub first : List Row → ℕ → ℕ
first [] otherwise = otherwise
first (row ∷ rows) otherwise = cond row.0 row.1 (first rows otherwise)

-- the rows from the one with this number on
abbrev pub from : ℕ → List Row → List Row
from number [] = []
from number (row ∷ rows) = cond (eqb row.1 number) (row ∷ rows) (from number rows)

-- whether the row with this number applies
abbrev pub applies : List Row → ℕ → Bool
applies [] number = false
applies (row ∷ rows) number = cond (eqb row.1 number) row.0 (applies rows number)

-- a row with this number applies, and no row before it does
abbrev pub FirstApplies : List Row → ℕ → Type 0
FirstApplies [] number = ⊥
FirstApplies (row ∷ rows) number = ((row.0 ≡ true) × (row.1 ≡ number)) ⊎ ((row.0 ≡ false) × FirstApplies rows number)

-- no row applies
abbrev pub NoneApplies : List Row → Type 0
NoneApplies [] = Unit {0}
NoneApplies (row ∷ rows) = (row.0 ≡ false) × NoneApplies rows

-- every row's number is above 0, so that 0 can mean that no row applies
abbrev pub Numbered : List Row → Type 0
Numbered [] = Unit {0}
Numbered (row ∷ rows) = (0 < row.1) × Numbered rows

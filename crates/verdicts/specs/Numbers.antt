-- The verdicts by name. Document 01, "Verdict", knows them by their numbers, as the table of `year/specs/Verdict` has them.
use Rattle.std.specs.Prelude.{Bool, ℕ}
use Rattle.conditions.specs.Rows.{Row}
use Rattle.verdicts.specs.declared.kinds.Verdict.{Verdict}
use Rattle.verdicts.specs.declared.kinds.Verdict.TheVariants.{Short, Testing, SizeReached, ThirtyTested, PercentTested, Undecided, Failed, Declared}

abbrev pub number_of : Verdict → ℕ
number_of Short = 0
number_of Testing = 1
number_of SizeReached = 2
number_of ThirtyTested = 3
number_of PercentTested = 4
number_of Undecided = 5
number_of Failed = 6
number_of Declared = 7

-- a row of the table, by number
abbrev pub numbered : Bool × Verdict → Row
numbered row = (row.0, number_of row.1)

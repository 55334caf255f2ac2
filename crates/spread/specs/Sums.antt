-- What the code carries from engine to engine about one pollutant's results. No figure is redefined here.
use Rattle.std.specs.Prelude.{List, length}
use Rattle.statistics.specs.Spread.{total, squares, variation}
use Rattle.statistics.specs.declared.Test.{Test}
use Rattle.spread.specs.declared.Sums.{Sums}

-- n, S, Q and V of a history in one value
abbrev pub sums : List Test → Sums
sums history = record { n = length history; total = total history; squares = squares history; variation = variation history }

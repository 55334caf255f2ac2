-- The year that a journal holds, and the rows of the table that test it.
use mathlib.Core.Path.{◌≡◌}
use mathlib.Core.Bool.{false, cond}
use mathlib.Core.List.{List}
use Prim.Native.Nat.{ℕ, ◌<◌}
use native.Mathlib.Omega.{arith}
use Rattle.std.specs.Prelude.{Some}
use Rattle.conditions.specs.Rows.{first}
use Rattle.year.specs.Replay.{Progress, replay}
use Rattle.year.specs.Admissible.{closed, events_full}
use Rattle.year.specs.Model.{Model, NoSetup, Year, no_setup, of_year}
use Rattle.journal.specs.Read.{read_journal}
use Rattle.slots.specs.Scanned.{year_of}
use Rattle.refusals.specs.Parts.{year_rows}

-- a year that is open and has room for an event meets none of them
pub open_none : (p : Progress) (journal : List ℕ) → Some p ≡ year_of (read_journal journal) → closed p ≡ false → p.stored < 64 → 0 ≡ first (year_rows journal) 0
open_none p journal year unclosed room = by (read_journal journal) year
  where
    by : (model : Model) → Some p ≡ year_of model → ◌≡◌ {A = ℕ} 0 (cond (no_setup model) 7 (cond (of_year closed model) 8 (cond (of_year events_full model) 9 0)))
    by NoSetup e = absurd (grind arith)
    by (Year s es) e = let same : p ≡ replay s es = grind arith in rw (← same, unclosed) (grind arith)

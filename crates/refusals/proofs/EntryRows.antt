-- The rows that can apply to every entry, one test after another.
use mathlib.Core.Path.{◌≡◌}
use mathlib.Core.Logic.{◌≢◌}
use mathlib.Core.Bool.{Bool, true, false}
use mathlib.Core.List.{List}
use Prim.Native.Nat.{ℕ}
use lib.ListN.{length}
use borrow.Author.Tests.{ne_eqb}
use Rattle.conditions.specs.Rows.{first}
use Rattle.refusals.specs.Parts.{year_rows, entry_rows}

module _ (unfit : Bool) (journal : List ℕ) where
  pub size_first : length journal ≢ 544 → 3 ≡ first (entry_rows unfit journal) 0
  unfolding entry_rows
  size_first h = rw (ne_eqb (length journal) 544 h)

  pub then_unfit : length journal ≡ 544 → unfit ≡ true → 5 ≡ first (entry_rows unfit journal) 0
  unfolding entry_rows
  then_unfit size h = rw (size, h)

  pub then_year : length journal ≡ 544 → unfit ≡ false → first (year_rows journal) 0 ≡ first (entry_rows unfit journal) 0
  unfolding entry_rows
  then_year size h = rw (size, h)

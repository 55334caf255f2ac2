-- Document 02, W-203, "Root from a table": what the table says, and how near the root the start is. No answer depends on either: `root` keeps its contract.
use Rattle.std.specs.Prelude.{◌≡◌, ℕ, ◌*◌, ◌-◌, ◌≤◌, ◌<◌, length, get_or}
use Rattle.statistics.specs.Spread.{root}
use Rattle.spread.specs.declared.start.TheConstants.{ROOTS}

-- "the largest whole number whose square is at most j"
pub record IsEntry (j entry : ℕ) : Type 0 where
  pub at_most : entry * entry ≤ j
  pub largest : (r : ℕ) → r * r ≤ j → r ≤ entry

-- "a table of 1,024 entries, where entry j is the largest whole number whose square is at most j. Its rule is to hold for every entry."
pub record TableRule : Type 0 where
  pub entries : length ROOTS ≡ 1024
  pub rule : (j : ℕ) → j < 1024 → IsEntry j (get_or ROOTS j 0)

-- "The start is never above the root, nor below it by more than a sixteenth of the start."
pub record Near (x start : ℕ) : Type 0 where
  pub not_above : start ≤ root 1 x
  pub not_below : 16 * (root 1 x - start) ≤ start

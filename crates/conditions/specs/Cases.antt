-- Worked cases of ranges and of tables of rows.
use Rattle.std.specs.Prelude.{◌≡◌, true, false, [], ◌∷◌}
use Rattle.conditions.specs.Ranges.{within, distance}
use Rattle.conditions.specs.Rows.{first, from, applies}

pub record Cases : Type 0 where
  -- the first row that applies wins, even if a later one applies too; if none applies, the given default
  pub first_of_two : first ((false, 3) ∷ (true, 4) ∷ (true, 5) ∷ []) 0 ≡ 4
  pub first_of_none : first ((false, 3) ∷ (false, 4) ∷ []) 1 ≡ 1
  pub later_applies : applies ((false, 3) ∷ (true, 4) ∷ (true, 5) ∷ []) 5 ≡ true
  -- both ends of a range are in it
  pub low_end : within 10 20000 10 ≡ true
  pub high_end : within 10 20000 20000 ≡ true
  pub below_low : within 10 20000 9 ≡ false
  pub above_high : within 10 20000 20001 ≡ false
  -- a distance is the same either way
  pub distance_up : distance 3 5 ≡ 2
  pub distance_down : distance 5 3 ≡ 2
  -- the part of a table from the row with a given number on
  pub from_five : from 5 ((false, 3) ∷ (true, 5) ∷ (true, 4) ∷ []) ≡ (true, 5) ∷ (true, 4) ∷ []

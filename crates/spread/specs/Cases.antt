-- Worked cases of the table's rule and of the start.
use Rattle.std.specs.Prelude.{◌≡◌, get_or}
use Rattle.spread.specs.declared.start.TheConstants.{ROOTS}
use Rattle.spread.specs.Start.{IsEntry, Near}

pub record Cases : Type 0 where
  -- the square of the entry may equal j
  pub square : IsEntry 4 2
  -- not the next number, whose square is above j, nor one below
  pub too_large : IsEntry 3 2 → ⊥
  pub too_small : IsEntry 4 1 → ⊥
  -- the first entries and the last, and those about 256 and 961
  pub first : get_or ROOTS 0 0 ≡ 0
  pub second : get_or ROOTS 1 0 ≡ 1
  pub below_16 : get_or ROOTS 255 0 ≡ 15
  pub from_16 : get_or ROOTS 256 0 ≡ 16
  pub below_31 : get_or ROOTS 960 0 ≡ 30
  pub last : get_or ROOTS 1023 0 ≡ 31
  -- and none after it: past the end `get_or` gives 0
  pub past : get_or ROOTS 1024 0 ≡ 0
  -- the root itself; and it may exceed the start by a sixteenth of the start
  pub equal : Near 288 16
  pub a_sixteenth : Near 289 16
  -- 17 is above the root of 288, and 33, the root of 1,089, exceeds 31 by 2 of 31
  pub above : Near 288 17 → ⊥
  pub below : Near 1089 31 → ⊥

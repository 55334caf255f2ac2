-- The first row of the table that applies.
use mathlib.Core.Path.{◌≡◌, refl}
use mathlib.Core.Bool.{Bool, true, false}
use mathlib.Core.List.{List, [], ◌∷◌, map}
use Prim.Native.Nat.{ℕ}
use Rattle.std.specs.Prelude.{Option, Some, None}
use Rattle.std.specs.List.{find}
use Rattle.conditions.specs.Rows.{first}
use Rattle.verdicts.specs.declared.kinds.Verdict.{Verdict}
use Rattle.verdicts.specs.Numbers.{number_of, numbered}

abbrev pub given : Option (Bool × Verdict) → ℕ
given (Some row) = number_of row.1
given None = 1

pub first_found : (rows : List (Bool × Verdict)) → given (find (λ row. row.0) rows) ≡ first (map numbered rows) 1
first_found [] = refl
first_found ((true, v) ∷ rows) = refl
first_found ((false, v) ∷ rows) = first_found rows

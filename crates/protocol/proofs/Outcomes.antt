-- A number's answer, put in document 01's numbers, is what the line defines.
use mathlib.Core.Path.{◌≡◌, refl}
use mathlib.Core.Bool.{Bool, true, false, cond}
use mathlib.Core.List.{List}
use Prim.Native.Nat.{ℕ, ◌+◌}
use lib.ListN.{take, drop}
use Rattle.ascii.specs.Decimal.{digits, spelt}
use Rattle.std.specs.Prelude.{Some, None}
use Rattle.protocol.specs.Number.{is_number, number_at, number_outcome_of, number_outcome}
use Rattle.protocol.specs.KeyLine.{space_at, spaced_number, spaced_outcome}

told : (readable : Bool) (value next : ℕ) → number_outcome_of (cond readable (Some (record { value = value; next = next })) None)
    ≡ record { refusal = cond readable 0 2; value = cond readable value 0; next = cond readable next 0 }
told true value next = refl
told false value next = refl

module _ (line : List ℕ) where
  pub number-outcome : (position : ℕ) → number_outcome_of (number_at line position) ≡ number_outcome line position
  unfolding number_at number_outcome
  number-outcome position =
      let count = digits (drop position line) in
      told (is_number line position count) (spelt 0 (take count (drop position line))) (position + count)

  pub spaced-outcome : (position : ℕ) → number_outcome_of (spaced_number line position) ≡ spaced_outcome line position
  unfolding spaced_number spaced_outcome
  spaced-outcome position = by (space_at line position)
    where
      by : (space : Bool) → number_outcome_of (cond space (number_at line (position + 1)) None)
          ≡ cond space (number_outcome line (position + 1)) (record { refusal = 2; value = 0; next = 0 })
      by true = number-outcome (position + 1)
      by false = refl

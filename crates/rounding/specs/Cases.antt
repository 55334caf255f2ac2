-- Worked cases of rounding, and the ends of each range. The first four are document 01's, "Cases on the edges", starred.
use Rattle.std.specs.Prelude.{◌≡◌, true, false, [], ◌∷◌, map, ℕ}
use Rattle.rounding.specs.declared.Factor.{Factor}
use Rattle.rounding.specs.Result.{rounded, mean, factored, result_of, count_in_range, reading_in_range, factor_in_range, result_in_range}

-- an additive factor; `multiplied` below is a multiplicative one
abbrev pub added : ℕ → Factor
added value = record { kind = 0; value = value }

-- a factor that changes nothing
abbrev pub no_factor : Factor
no_factor = added 0

abbrev pub multiplied : ℕ → Factor
multiplied value = record { kind = 1; value = value }

pub record Cases : Type 0 where
  -- * 1,000,500 rounds to 1,000; * 1,001,500 to 1,002
  pub rounds1000500 : rounded 1000500 ≡ 1000
  pub rounds1001500 : rounded 1001500 ≡ 1002
  -- * mean of 800 and 801 is 800
  pub mean_of_800_and_801 : mean (800 ∷ 801 ∷ []) ≡ 800
  -- * 50 under factor 1,050 of kind 1 is 52
  pub fifty_under_1050 : factored (multiplied 1050) 50 ≡ 52
  -- just below a half, and just above
  pub rounds1000499 : rounded 1000499 ≡ 1000
  pub rounds1000501 : rounded 1000501 ≡ 1001
  -- a third is below a half and two thirds are above
  pub mean_of_four_3rds : mean (1 ∷ 1 ∷ 2 ∷ []) ≡ 1
  pub mean_of_five_3rds : mean (1 ∷ 2 ∷ 2 ∷ []) ≡ 2
  -- readings 1,500 and 600 round to 2 and 1, whose mean rounds to 2; rounding once at the end would give 1
  pub each_reading_rounded : result_of no_factor (1500 ∷ 600 ∷ []) ≡ 2
  -- the mean is rounded before the factor is applied: 0 and 3 have mean 1.5, which rounds to 2, and 2 + 1.5 rounds to 4; with the mean not rounded, or the
  -- factor applied to each reading, it would be 3
  pub mean_then_factor : result_of (added 1500) (0 ∷ 2800 ∷ []) ≡ 4
  -- kind 0 adds 1,500 thousandths to 50: 51.5 is rounded to 52
  pub fifty_and_1500 : factored (added 1500) 50 ≡ 52
  -- adding nothing, and a factor of 1,000 thousandths, leave the largest result unchanged
  pub nothing_added : factored no_factor 20000 ≡ 20000
  pub times_one : factored (multiplied 1000) 20000 ≡ 20000
  -- "An engine has 1 to 3 readings for each pollutant, each 0 to 20,000,000."
  pub counts : map count_in_range (0 ∷ 1 ∷ 3 ∷ 4 ∷ []) ≡ false ∷ true ∷ true ∷ false ∷ []
  pub readings : map reading_in_range (0 ∷ 20000000 ∷ 20000001 ∷ []) ≡ true ∷ true ∷ false ∷ []
  -- "Kind 0 adds 0 to 60,000; kind 1 multiplies by 1,000 to 60,000."
  pub added_factors : map (λ (v : ℕ). factor_in_range (added v)) (0 ∷ 60000 ∷ 60001 ∷ []) ≡ true ∷ true ∷ false ∷ []
  pub multiplied_factors : map (λ (v : ℕ). factor_in_range (multiplied v)) (999 ∷ 1000 ∷ 60000 ∷ 60001 ∷ []) ≡ false ∷ true ∷ true ∷ false ∷ []
  pub other_kind : factor_in_range (record { kind = 2; value = 1000 }) ≡ false
  -- "The result X is at most 20,000."
  pub results : map result_in_range (0 ∷ 20000 ∷ 20001 ∷ []) ≡ true ∷ true ∷ false ∷ []

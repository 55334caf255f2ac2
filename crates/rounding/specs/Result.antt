-- Document 01, "From reading to result": readings in thousandths of a result unit, and the result X in result units.
use Rattle.std.specs.Prelude.{Bool, cond, ◌&&◌, ◌||◌, List, map, ℕ, ◌+◌, ◌*◌, ◌/◌, ◌%◌, leb, ltb, eqb, length, sum}
use Rattle.conditions.specs.Ranges.{within}
use Rattle.rounding.specs.declared.Factor.{Factor}

-- a / b "to the nearest, halves to the even neighbour": down if the remainder is under half of b, up if it is over,
-- and at a half to whichever of the two is even
unfoldable pub nearest_even : ℕ → ℕ → ℕ
nearest_even a b =
    cond (ltb (2 * (a % b)) b) (a / b)
    (cond (ltb b (2 * (a % b))) (a / b + 1)
    (a / b + a / b % 2))

-- "Round each to result units."
abbrev pub rounded : ℕ → ℕ
rounded reading = nearest_even reading 1000

-- "Add them, divide by their count, round."
abbrev pub mean : List ℕ → ℕ
mean xs = nearest_even (sum xs) (length xs)

-- "Apply the factor, round. Kind 0 adds .. ; kind 1 multiplies .."
abbrev pub factored : Factor → ℕ → ℕ
factored f x = nearest_even (cond (eqb f.kind 0) (1000 * x + f.value) (x * f.value)) 1000

-- the result X of an engine's readings for one pollutant
abbrev pub result_of : Factor → List ℕ → ℕ
result_of f readings = factored f (mean (map rounded readings))

-- "An engine has 1 to 3 readings for each pollutant, each 0 to 20,000,000."
abbrev pub count_in_range : ℕ → Bool
count_in_range = within 1 3

abbrev pub reading_in_range : ℕ → Bool
reading_in_range reading = leb reading 20000000

-- "Kind 0 adds 0 to 60,000; kind 1 multiplies by 1,000 to 60,000."
abbrev pub factor_in_range : Factor → Bool
factor_in_range f = eqb f.kind 0 && leb f.value 60000 || eqb f.kind 1 && within 1000 60000 f.value

-- "The result X is at most 20,000."
abbrev pub result_in_range : ℕ → Bool
result_in_range x = leb x 20000

-- Upper bounds on a rounded quotient, which show that it fits.
use mathlib.Core.List.{List, [], ◌∷◌, map}
use Prim.Native.Nat.{ℕ, suc, ◌+◌, ◌*◌, ◌/◌, ◌%◌, ◌≤◌, ◌<◌}
use native.Mathlib.Nat.{mod-lt}
use native.Mathlib.Omega.{arith}
use Rattle.std.proofs.Common.{Fits, w32}
use Rattle.std.proofs.Math.Nat.{div-le_self}
use lib.Dec.{ltb, lit<}
use lib.ListN.{length, get_or}
use Rattle.conditions.proofs.Tests.{by-test}
use Rattle.std.specs.Prelude.{sum, sum_by}
use Rattle.std.proofs.lemmas.List.Sums.{sum-map, sum_by-cons}
use Rattle.rounding.specs.Result.{nearest_even, rounded}

-- a rounded quotient is at most one more than the quotient
pub nearest_le : (a b : ℕ) → nearest_even a b ≤ a / b + 1
unfolding nearest_even
nearest_le a b =
    by-test (λ q. q ≤ a / b + 1) (ltb (2 * (a % b)) b) _ _ (λ _. omega arith)
    (λ _. by-test (λ q. q ≤ a / b + 1) (ltb b (2 * (a % b))) _ _ (λ _. omega arith) (λ _. omega (arith, mod-lt (a / b) {m = 2} (lit< tt))))

-- so it is at most one more than what is divided
pub mean_le : (a b : ℕ) → nearest_even a b ≤ a + 1
mean_le a b = omega (arith, nearest_le a b, div-le_self a b)

-- a rounded reading is at most 4,294,968, since a reading is below 2 ^ 32
rounded-sum-le : (xs : List ℕ) → ((i : ℕ) → Fits w32 (get_or xs i 0)) → sum_by rounded xs ≤ length xs * 4294968
rounded-sum-le [] h = omega arith
rounded-sum-le (x ∷ xs) h = rw sum_by-cons (omega (arith, rounded-sum-le xs (λ i. h (suc i)), nearest_le x 1000, h 0))

pub rounded-sum-lt : (xs : List ℕ) → ((i : ℕ) → Fits w32 (get_or xs i 0)) → length xs ≤ 3 → sum (map rounded xs) < 16777216
rounded-sum-lt xs h few = rw sum-map (omega (arith, rounded-sum-le xs h))

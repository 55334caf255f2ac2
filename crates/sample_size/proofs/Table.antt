-- The coefficient read from its table, 165 past the table's end.
use mathlib.Core.Path.{◌≡◌}
use Prim.Native.Nat.{ℕ, ◌-◌, ◌≤◌}
use native.Mathlib.Omega.{arith}
use lib.Dec.{leb}
use lib.ListN.{get_or, get_or-eq_default}
use borrow.Author.Tests.{leb-true, leb-false}
use Rattle.std.proofs.lemmas.Grind.{get_or_default_zero}
use Rattle.conditions.proofs.Tests.{by-test}
use Rattle.statistics.specs.SampleSize.{coefficients, t95}

pub t95_read : (n : ℕ) → 2 ≤ n → get_or coefficients (n - 2) 165 ≡ t95 n
unfolding t95
t95_read n h =
    by-test (λ t. get_or coefficients (n - 2) 165 ≡ t) (leb n 30) _ 165
    (λ e. get_or_default_zero coefficients (n - 2) 165 (omega (arith, leb-true n 30 e)))
    (λ e. get_or-eq_default coefficients 165 {n = n - 2} (omega (arith, leb-false n 30 e)))

-- "The first that applies": `first` gives r exactly if r is the number of a row that applies with no applying row before it, and 0 exactly if no row applies.
use mathlib.Core.Path.{◌≡◌, refl}
use mathlib.Core.Logic.{◌⊎◌, inl, inr}
use mathlib.Core.Bool.{Bool, true, false, cond}
use mathlib.Core.List.{List, [], ◌∷◌}
use Prim.Native.Nat.{ℕ, ◌<◌}
use native.Mathlib.Nat.{pos_of_ne-zero}
use native.Mathlib.Omega.{arith}
use lib.Dec.{eqb}
use Rattle.conditions.specs.Rows.{Row, first, applies, FirstApplies, NoneApplies, Numbered}
use Rattle.conditions.proofs.Tests.{by-test}

-- a row that applies gives its own number; one that does not passes on to the rows after it
taken : (t : Bool) (x y : ℕ) → t ≡ true → cond t x y ≡ x
taken t x y h = rw h

passed : (t : Bool) (x y : ℕ) → t ≡ false → cond t x y ≡ y
passed t x y h = rw h

pub first-is : (rows : List Row) (r d : ℕ) → FirstApplies rows r → first rows d ≡ r
first-is [] r d h = absurd h
first-is (row ∷ rows) r d (inl h) = rw (taken row.0 row.1 (first rows d) h.0) h.1
first-is (row ∷ rows) r d (inr h) = rw (passed row.0 row.1 (first rows d) h.0) (first-is rows r d h.1)

pub none_is : (rows : List Row) (d : ℕ) → NoneApplies rows → first rows d ≡ d
none_is [] d h = refl
none_is (row ∷ rows) d h = rw (passed row.0 row.1 (first rows d) h.0) (none_is rows d h.1)

-- if no row applies, the row with number r does not
pub none-applies : (rows : List Row) (r : ℕ) → NoneApplies rows → applies rows r ≡ false
none-applies [] r h = refl
none-applies (row ∷ rows) r h = by-test (λ t. t ≡ false) (eqb row.1 r) row.0 (applies rows r) (λ _. h.0) (λ _. none-applies rows r h.1)

-- if `first` gives a number above 0, it is that of the first row that applies
first_step : (t : Bool) (x y r : ℕ) {P : Type 0} → (y ≡ r → P) → cond t x y ≡ r → ((t ≡ true) × (x ≡ r)) ⊎ ((t ≡ false) × P)
first_step true x y r f h = inl (refl, h)
first_step false x y r f h = inr (refl, f h)

pub first-applies : (rows : List Row) (r : ℕ) → 0 < r → first rows 0 ≡ r → FirstApplies rows r
first-applies [] r p h = omega arith
first-applies (row ∷ rows) r p h = first_step row.0 row.1 (first rows 0) r (first-applies rows r p) h

-- if every row's number is above 0, `first` gives 0 only if no row applies
none-step : (t : Bool) (x y : ℕ) {P : Type 0} → 0 < x → (y ≡ 0 → P) → cond t x y ≡ 0 → (t ≡ false) × P
none-step true x y p f h = absurd (omega arith)
none-step false x y p f h = (refl, f h)

pub first-none : (rows : List Row) → Numbered rows → first rows 0 ≡ 0 → NoneApplies rows
first-none [] n h = tt
first-none (row ∷ rows) n h = none-step row.0 row.1 (first rows 0) n.0 (first-none rows n.1) h

-- with default d instead of 0: if some row applies the number taken is the same, and if none does it is d
pub first-kept : (rows : List Row) (d : ℕ) → (first rows 0 ≡ 0 → ⊥) → first rows d ≡ first rows 0
first-kept rows d h = first-is rows (first rows 0) d (first-applies rows (first rows 0) (pos_of_ne-zero h) refl)

pub first-passed : (rows : List Row) (d : ℕ) → Numbered rows → first rows 0 ≡ 0 → first rows d ≡ d
first-passed rows d n h = none_is rows d (first-none rows n h)

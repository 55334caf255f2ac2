-- The sample size in code: N in tenths from one quotient, the stop test from another, and the products fit 64 bits.
use mathlib.Core.Path.{◌≡◌, sym, ap, ◌∙◌}
use mathlib.Core.Bool.{false, and-true, and-false}
use mathlib.Core.Logic.{⊎_elim}
use Prim.Native.Nat.{ℕ, zero, suc, ◌+◌, ◌-◌, ◌*◌, ◌/◌, ◌%◌, ◌≤◌, ◌<◌}
use native.Mathlib.Nat.{eq-or-lt_of_le, mul-le-mul, mul-pos, div-add-mod, mod-lt, div-eq_of_lt-le, div-lt_iff_lt-mul, le-div_iff_mul-le}
use native.Mathlib.Omega.{arith}
use native.Mathlib.Decide.{dec_lt}
use lib.Dec.{ltb}
use borrow.Author.Tests.{lt-ltb, le-ltb, le-leb, lt-leb, eq-eqb, ne_eqb}
use Rattle.std.specs.Prelude.{min, Some, None}
use Rattle.conditions.specs.Ranges.{distance}
use Rattle.statistics.specs.SampleSize.{t95, denominator, numerator, rounded_up, sample_size, size_reached}
use Rattle.statistics.proofs.Coefficients.{t95-le}

-- N in tenths, where w is a ten-thousandth of the denominator and a the numerator of N − 1
tenths : (w a : ℕ) → 1 ≤ w → rounded_up (10 * (10000 * w + a)) (10000 * w) ≡ 10 + (a / (1000 * w) + min 1 (a % (1000 * w)))
unfolding rounded_up
tenths w a h = at (a / (1000 * w)) (a % (1000 * w)) (div-add-mod a (1000 * w)) (mod-lt a (omega arith))
  where
    at : (q m : ℕ) → 1000 * w * q + m ≡ a → m < 1000 * w → (10 * (10000 * w + a) + (10000 * w - 1)) / (10000 * w) ≡ 10 + (q + min 1 m)
    at q zero e l = div-eq_of_lt-le (10000 * w) (omega arith) (omega arith)
    at q (suc m) e l = let one : min 1 (suc m) ≡ 1 = omega arith in rw one (div-eq_of_lt-le (10000 * w) (omega arith) (omega arith))

-- d + a < (m + 1) × d exactly if the whole part of a / d is below m
quotient-test : (m d a : ℕ) → 1 ≤ d → ltb (d + a) ((m + 1) * d) ≡ ltb (a / d) m
quotient-test m d a p = by (dec_lt a (m * d))
  where
    by : Dec (a < m * d) → ltb (d + a) ((m + 1) * d) ≡ ltb (a / d) m
    by (yes l) = lt-ltb (d + a) ((m + 1) * d) (omega arith) ∙ sym (lt-ltb (a / d) m ((div-lt_iff_lt-mul p).1 l))
    by (no f) = le-ltb (d + a) ((m + 1) * d) (omega arith) ∙ sym (le-ltb (a / d) m ((le-div_iff_mul-le p).1 (omega arith)))

-- the denominator of N − 1 is above 0
pub denominator-pos : (n g : ℕ) → 2 ≤ n → 1 ≤ g → 1 ≤ (n - 1) * (g * g)
denominator-pos n g h k = mul-pos (omega arith) (mul-pos k k)

module _ (n s t v : ℕ) where
  pub absent-few : n < 2 → None ≡ sample_size n s t v
  unfolding sample_size
  absent-few h = simp (lt-leb 2 n h)

  pub absent-even : 2 ≤ n → s ≡ n * t → None ≡ sample_size n s t v
  unfolding sample_size
  absent-even h e = simp (le-leb _ _ h, eq-eqb _ _ e)

  present : 2 ≤ n → (s ≡ n * t → ⊥) → Some (rounded_up (10 * numerator n s t v) (denominator n s t)) ≡ sample_size n s t v
  unfolding sample_size
  present h f = simp (le-leb _ _ h, ne_eqb _ _ f)

  pub in-tenths : (w a : ℕ) → 2 ≤ n → (s ≡ n * t → ⊥) → w ≡ (n - 1) * (distance s (n * t) * distance s (n * t)) → a ≡ t95 n * t95 n * v * n
      → Some (10 + (a / (1000 * w) + min 1 (a % (1000 * w)))) ≡ sample_size n s t v
  in-tenths w a h f ew ea = rw (ew, ea) (ap (λ (tenths : ℕ). Some tenths) (sym (tenths _ _ (denominator-pos n (distance s (n * t)) h (omega arith)))) ∙ present h f)

  pub not-few : n < 2 → false ≡ size_reached n s t v
  unfolding size_reached
  not-few h = simp (lt-leb 2 n h)

  pub not-above : 2 ≤ n → n * t ≤ s → false ≡ size_reached n s t v
  unfolding size_reached
  not-above h k = ⊎_elim (λ e. simp (le-leb 2 n h, eq-eqb s (n * t) (sym e))) (λ l. simp (lt-leb s (n * t) l, and-false)) (eq-or-lt_of_le k)

  as-defined : (w a : ℕ) → 2 ≤ n → s < n * t → w ≡ (n - 1) * ((n * t - s) * (n * t - s)) → a ≡ t95 n * t95 n * v * n
      → ltb (10000 * w + a) (n * (10000 * w)) ≡ size_reached n s t v
  unfolding size_reached
  as-defined w a h l ew ea =
      rw (ew, ea) (simp (le-leb _ _ h, ne_eqb s (n * t) (omega arith), le-leb s (n * t) (omega arith), apart) (sym (and-true _)))
    where
      apart : distance s (n * t) ≡ n * t - s
      apart = omega arith

  pub by-quotient : (w a : ℕ) → 2 ≤ n → s < n * t → w ≡ (n - 1) * ((n * t - s) * (n * t - s)) → a ≡ t95 n * t95 n * v * n
      → ltb (a / (10000 * w)) (n - 1) ≡ size_reached n s t v
  by-quotient w a h l ew ea =
      let whole : n - 1 + 1 ≡ n = omega arith in
      let above : 1 ≤ w = rw ew (denominator-pos n (n * t - s) h (omega arith)) in
      sym (rw whole at (quotient-test (n - 1) (10000 * w) a (omega arith))) ∙ as-defined w a h l ew ea

-- The products fit 64 bits.
pub square_fits : (n : ℕ) → t95 n * t95 n ≤ 398161
square_fits n = mul-le-mul (t95-le n) (t95-le n)

pub numerator_fits : (n v : ℕ) → n ≤ 40 → v ≤ n * n * 100000000
    → (t95 n * t95 n * v ≤ 63705760000000000) × (t95 n * t95 n * v * n ≤ 2548230400000000000)
numerator_fits n v few h = (ttv, mul-le-mul ttv few)
  where
    small : v ≤ 160000000000
    small = omega (arith, mul-le-mul few few)

    ttv : t95 n * t95 n * v ≤ 63705760000000000
    ttv = mul-le-mul (square_fits n) small

-- what a sample size, and what the stop test, is found to be
pub ruleset sizes = (absent-few, absent-even, in-tenths)

pub ruleset stops = (not-few, not-above, by-quotient)

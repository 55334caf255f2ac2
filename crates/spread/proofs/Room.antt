-- A deviation in code: its products fit 64 bits, and the root of the quotient, with a test of its square, gives s and e.
use mathlib.Core.Path.{◌≡◌, sym, ◌∙◌}
use Prim.Native.Nat.{ℕ, ◌+◌, ◌-◌, ◌*◌, ◌/◌, ◌^◌, ◌≤◌, ◌<◌}
use native.Mathlib.Nat.{lt_of_le_of_lt, lt_of_not-le, not-le_of_lt, mul-le-mul, le-mul_of_pos_right}
use native.Mathlib.Omega.{arith}
use borrow.Author.Tests.{eq-eqb, ne_eqb}
use Rattle.statistics.specs.Spread.{root, deviation}
use Rattle.spread.specs.Ranges.{DeviationInRange}
use Rattle.statistics.proofs.Deviations.{divisor-pos, deviation-root, deviation-passes, deviation-next, deviation-unique}

module _ (k i v : ℕ) (h : DeviationInRange k i v) where
  pub square-fits : k * k ≤ 67108864
  square-fits = mul-le-mul h.fine h.fine

  pub scaled_fits : k * k * v < 2 ^ 64
  scaled_fits = omega (arith, mul-le-mul square-fits h.variation, mul-le-mul h.few h.few)

  -- s as the code finds it: the root of the integer quotient
  module _ (s : ℕ) (e : s ≡ root 1 ((k * k * v) / (i * (i - 1)))) where
    is-floor : s ≡ (deviation k i v).floor
    is-floor = e ∙ sym (deviation-root k i v h.two)

    passes : s * s * (i * (i - 1)) ≤ k * k * v
    passes = rw is-floor (deviation-passes k i v h.two)

    next-fails : k * k * v < (s + 1) * (s + 1) * (i * (i - 1))
    next-fails = rw is-floor (deviation-next k i v h.two)

    pub product_fits : s * s * (i * (i - 1)) < 2 ^ 64
    product_fits = lt_of_le_of_lt passes scaled_fits

    pub root_fits : s * s < 2 ^ 64
    root_fits = lt_of_le_of_lt (le-mul_of_pos_right (s * s) (divisor-pos i h.two)) product_fits

    pub exact : s * s * (i * (i - 1)) ≡ k * k * v → record { floor = s; inexact = 0 } ≡ deviation k i v
    exact t = sym (deviation-unique k i v h.two s passes next-fails ∙ rw (eq-eqb _ _ t))

    pub inexact : (s * s * (i * (i - 1)) ≡ k * k * v → ⊥) → record { floor = s; inexact = 1 } ≡ deviation k i v
    inexact t = sym (deviation-unique k i v h.two s passes next-fails ∙ rw (ne_eqb _ _ t))

  -- s is below 2 ^ 32, so that 20 × s fits
  pub deviation-lt : (deviation k i v).floor < 4294967296
  deviation-lt = lt_of_not-le (λ l. not-le_of_lt (root_fits (deviation k i v).floor (deviation-root k i v h.two)) (mul-le-mul l l))

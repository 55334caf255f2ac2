-- Laws of nearest_even: its three cases, that it is the nearest with ties to even, and that nothing else is.
use mathlib.Core.Path.{◌≡◌, refl, sym, ap}
use mathlib.Core.Logic.{◌⊎◌, inl, inr, ⊎_elim}
use Prim.Native.Nat.{ℕ, zero, suc, ◌+◌, ◌*◌, ◌/◌, ◌%◌, ◌≤◌, ◌<◌}
use native.Mathlib.Nat.{le_of_eq, div-add-mod, mod-lt, mul-le-mul_left, eq_of_mul-eq-mul_left}
use native.Mathlib.Omega.{arith}
use native.Mathlib.Decide.{dec_lt}
use borrow.Author.Tests.{lt-ltb, le-ltb}
use Rattle.conditions.specs.Ranges.{distance}
use Rattle.rounding.specs.Result.{nearest_even}
use Rattle.rounding.specs.Nearest.{Nearest}

module _ (a b : ℕ) where
  pub down : 2 * (a % b) < b → nearest_even a b ≡ a / b
  unfolding nearest_even
  down h = simp (lt-ltb _ _ h)

  pub up : b < 2 * (a % b) → nearest_even a b ≡ a / b + 1
  unfolding nearest_even
  up h = simp (le-ltb (2 * (a % b)) b (omega arith), lt-ltb _ _ h)

  pub half : 2 * (a % b) ≡ b → nearest_even a b ≡ a / b + a / b % 2
  unfolding nearest_even
  half h = simp (le-ltb (2 * (a % b)) b (omega arith), le-ltb b (2 * (a % b)) (omega arith))

-- q is at most a half from a / b, and even if exactly a half from it, on either side: equivalent to `Nearest`, without quantifying over other numbers
record Half (a b q : ℕ) : Type 0 where
  pub low : 2 * (b * q) ≤ 2 * a + b
  pub high : 2 * a ≤ 2 * (b * q) + b
  pub above : 2 * (b * q) ≡ 2 * a + b → q % 2 ≡ 0
  pub below : 2 * a ≡ 2 * (b * q) + b → q % 2 ≡ 0

-- case split on the remainder: below half of b, above it, equal to it; q is the quotient of the division, m its remainder
half_down : (a b q m : ℕ) → b * q + m ≡ a → 2 * m < b → Half a b q
half_down a b q m e h = record { low = omega arith; high = omega arith; above = λ t. absurd (omega arith); below = λ t. absurd (omega arith) }

half_up : (a b q m : ℕ) → b * q + m ≡ a → m < b → b < 2 * m → Half a b (q + 1)
half_up a b q m e l h =
    record { low = omega arith; high = omega arith; above = λ t. absurd (omega arith); below = λ t. absurd (omega arith) }

-- half-way, the quotient q is rounded up by p, its parity
half-half : (a b q m p : ℕ) → b * q + m ≡ a → 2 * m ≡ b → q % 2 ≡ p → (p ≡ 0) ⊎ (p ≡ 1) → Half a b (q + p)
half-half a b q m p e h k d = ⊎_elim (λ z. at (ap (λ (x : ℕ). b * x) z) z) (λ z. at_1 (ap (λ (x : ℕ). b * x) z) z) d
  where
    at : b * p ≡ b * 0 → p ≡ 0 → Half a b (q + p)
    at f z = record { low = omega arith; high = omega arith; above = omega arith; below = omega arith }

    at_1 : b * p ≡ b * 1 → p ≡ 1 → Half a b (q + p)
    at_1 f z = record { low = omega arith; high = omega arith; above = omega arith; below = omega arith }

parity : (p : ℕ) → p < 2 → (p ≡ 0) ⊎ (p ≡ 1)
parity zero h = inl refl
parity (suc zero) h = inr refl
parity (suc (suc n)) h = absurd (omega arith)

compared : (m n : ℕ) → (m < n) ⊎ ((n < m) ⊎ (m ≡ n))
compared m n = first (dec_lt m n)
  where
    second : ¬ (m < n) → Dec (n < m) → (m < n) ⊎ ((n < m) ⊎ (m ≡ n))
    second f (yes h) = inr (inl h)
    second f (no g) = inr (inr (omega arith))

    first : Dec (m < n) → (m < n) ⊎ ((n < m) ⊎ (m ≡ n))
    first (yes h) = inl h
    first (no f) = second f (dec_lt n m)

rounds-half : (a b : ℕ) → 1 ≤ b → Half a b (nearest_even a b)
rounds-half a b hb =
    ⊎_elim (λ h. rw (down a b h) (half_down a b q m e h))
    (⊎_elim (λ h. rw (up a b h) (half_up a b q m e (mod-lt a hb) h))
    (λ h. rw (half a b h) (half-half a b q m (q % 2) e h refl (parity (q % 2) (omega arith)))))
    (compared (2 * m) b)
  where
    q : ℕ
    q = a / b

    m : ℕ
    m = a % b

    e : b * q + m ≡ a
    e = div-add-mod a b

module _ (a b : ℕ) (hb : 1 ≤ b) where
  -- no number is nearer than one that is at most a half away
  half-nearest : (q : ℕ) → Half a b q → Nearest a b q
  half-nearest q h =
      record {
        nearest = λ p. ⊎_elim (λ l. omega (arith, h.low, mul-le-mul_left b l)) (⊎_elim (λ l. omega (arith, h.high, mul-le-mul_left b l))
            (λ e. le_of_eq (ap (λ (x : ℕ). distance (b * x) a) (sym e)))) (compared p q);
        even = λ p n e. ⊎_elim (λ l. h.above (omega (arith, h.low, mul-le-mul_left b l))) (⊎_elim (λ l. h.below (omega (arith, h.high, mul-le-mul_left b l)))
            (λ f. absurd (n f))) (compared p q);
      }

  -- the converse, by comparison with the numbers next to q
  nearest-half : (q : ℕ) → Nearest a b q → Half a b q
  nearest-half zero n =
      record {
        low = omega arith;
        high = omega (arith, n.nearest 1);
        above = λ t. omega arith;
        below = λ t. omega arith;
      }
  nearest-half (suc q) n =
      record {
        low = omega (arith, n.nearest q);
        high = omega (arith, n.nearest (suc (suc q)));
        above = λ t. n.even q (omega arith) (omega arith);
        below = λ t. n.even (suc (suc q)) (omega arith) (omega arith);
      }

  not-below : (q p : ℕ) → Half a b q → Half a b p → q < p → ⊥
  not-below q p nq np h =
      let m : b * (q + 1) ≤ b * p = mul-le-mul_left b (omega arith) in
      let low : 2 * a ≡ 2 * (b * q) + b = omega (arith, nq.high, np.low) in
      let high : 2 * (b * p) ≡ 2 * a + b = omega (arith, nq.high, np.low) in
      let next : p ≡ q + 1 = eq_of_mul-eq-mul_left b hb p (q + 1) (omega arith) in
      omega (arith, nq.below low, np.above high)

  -- nearest_even a b is the whole number nearest to a / b, the even one if two are equally near
  pub nearest : Nearest a b (nearest_even a b)
  nearest = half-nearest (nearest_even a b) (rounds-half a b hb)

  -- no other number is
  pub nearest-unique : (q p : ℕ) → Nearest a b q → Nearest a b p → q ≡ p
  nearest-unique q p nq np =
      let hq = nearest-half q nq in
      let hp = nearest-half p np in
      ⊎_elim (λ l. absurd (not-below q p hq hp l)) (⊎_elim (λ l. absurd (not-below p q hp hq l)) (λ e. e)) (compared q p)

  pub nearest-is : (q : ℕ) → Nearest a b q → q ≡ nearest_even a b
  nearest-is q n = nearest-unique q (nearest_even a b) n nearest

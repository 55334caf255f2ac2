-- That the start is near the root: it is the root of x's upper binary digits, an even number of digits being cut off, with a zero for every two of them.
use mathlib.Core.Path.{◌≡◌, refl, ap, sym}
use mathlib.Core.Logic.{◌⊎◌, inl, inr, ⊎_elim}
use Prim.Native.Nat.{ℕ, zero, suc, ◌+◌, ◌-◌, ◌*◌, ◌/◌, ◌%◌, ◌^◌, ◌≤◌, ◌<◌}
use native.Mathlib.Nat.{lt_of_lt_of_le, lt_of_le_of_lt, mul-le-mul_right, div-add-mod, mod-lt, mod-eq_of_lt, div-mul-le_self, le-div_iff_mul-le}
use native.Mathlib.Omega.{arith}
use lib.Dec.{lit<}
use lib.Count.{count_leading_zeros, leading_length}
use lib.Pow.{pow_mono, pow_pos, shr_lt}
use Rattle.std.proofs.Common.{pow-add}
use Rattle.statistics.specs.Spread.{root}
use Rattle.statistics.proofs.Root.{side-lt, root-passes, root-most, root-next}
use Rattle.spread.proofs.Near.{root-fits}

-- the length of a number in binary digits
length : (x : ℕ) → x < 2 ^ 62 → (m : ℕ) × (count_leading_zeros 64 x + m ≡ 64) × (x < 2 ^ m) × (2 ^ m ≤ 2 * x + 1)
length x fits = leading_length 64 x (omega arith)

-- what is left when k digits are cut off is below 1,024 if it has at most ten digits
pub index_fits : (x k : ℕ) → x < 2 ^ 62 → 64 - count_leading_zeros 64 x ≤ 10 + k → x / 2 ^ k < 1024
index_fits x k fits few =
    let l = length x fits in
    shr_lt 10 k (lt_of_lt_of_le l.2 (pow_mono (omega (arith, l.1))))

-- and 256 or more if it has at least nine
index-large : (x k : ℕ) → x < 2 ^ 62 → 9 + k ≤ 64 - count_leading_zeros 64 x → 256 ≤ x / 2 ^ k
index-large x k fits many =
    let l = length x fits in
    let power : 2 ^ (9 + k) ≤ 2 ^ l.0 = pow_mono (omega (arith, l.1)) in
    (le-div_iff_mul-le (pow_pos k)).1 (omega (arith, pow-add 2 9 k, power, l.3))

-- t is the root of what is left when 2 * h digits are cut off
module _ (x h : ℕ) (t : ℕ) (e : t ≡ root 1 (x / 2 ^ (2 * h))) where
  square : 2 ^ h * 2 ^ h ≡ 2 ^ (2 * h)
  square = rw (sym (pow-add 2 h h)) (ap (λ n. 2 ^ n) (omega arith))

  from : x / 2 ^ (2 * h) * (2 ^ h * 2 ^ h) ≤ x
  from = rw square (div-mul-le_self x (2 ^ (2 * h)))

  to : x < (x / 2 ^ (2 * h) + 1) * (2 ^ h * 2 ^ h)
  to = rw square (omega (arith, div-add-mod x (2 ^ (2 * h)), mod-lt x (pow_pos (2 * h))))

  start-above : t * 2 ^ h ≤ root 1 x
  start-above = root-most 1 (lit< tt) x (t * 2 ^ h) (rw e (omega (arith, from, mul-le-mul_right (2 ^ h * 2 ^ h) (root-passes 1 (x / 2 ^ (2 * h))))))

  root-below : root 1 x < (t + 1) * 2 ^ h
  root-below =
      side-lt 1 (root 1 x) ((t + 1) * 2 ^ h)
      (lt_of_le_of_lt (root-passes 1 x) (rw e (omega (arith, to, mul-le-mul_right (2 ^ h * 2 ^ h) (root-next 1 (lit< tt) (x / 2 ^ (2 * h)))))))

  -- the root is less than 2 ^ h above the start: nothing if h is 0, and at most a sixteenth of the start if t is 16 or more
  start-near : (h ≡ 0) ⊎ (16 ≤ t) → 16 * (root 1 x - t * 2 ^ h) ≤ t * 2 ^ h
  start-near wide =
      ⊎_elim
      (λ z. let one : 2 ^ h ≡ 1 = ap (λ n. 2 ^ n) z in omega (arith, root-below))
      (λ l. omega (arith, root-below, mul-le-mul_right (2 ^ h) l))
      wide

  -- in the code's words
  module _ (fits : x < 2 ^ 62) where
    whole : t * 2 ^ h % 18446744073709551616 ≡ t * 2 ^ h
    whole = mod-eq_of_lt (omega (arith, start-above, root-fits x fits))

    pub not_above : t * 2 ^ h % 18446744073709551616 ≤ root 1 x
    not_above = rw whole start-above

    pub not_below : h ≡ (64 - count_leading_zeros 64 x - 9) / 2 → 16 * (root 1 x - t * 2 ^ h % 18446744073709551616) ≤ t * 2 ^ h % 18446744073709551616
    not_below half = rw whole (start-near (wide h refl))
      where
        wide : (n : ℕ) → n ≡ h → (h ≡ 0) ⊎ (16 ≤ t)
        wide zero z = inl (sym z)
        wide (suc n) z =
            inr (rw e (root-most 1 (lit< tt) (x / 2 ^ (2 * h)) 16 (omega (arith, index-large x (2 * h) fits (omega arith)))))

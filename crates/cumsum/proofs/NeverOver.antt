-- A history in which C never rises: at each engine from the second on, X − T is at most a quarter of the deviation, as it is if X is at or below T. C stays 0 and
-- every mark from engine 2 on is 'U', so nothing fails and nothing is undecided, at any resolution.
use mathlib.Core.Path.{◌≡◌, refl}
use mathlib.Core.Bool.{Bool, true, false, ◌&&◌, and-eq-true_iff}
use mathlib.Core.List.{List, [], ◌∷◌}
use Prim.Native.Nat.{ℕ, ◌+◌, ◌*◌, ◌-◌, ◌≤◌}
use native.Mathlib.Nat.{mul-le-mul_left}
use native.Mathlib.Omega.{arith}
use lib.Dec.{leb}
use lib.ListN.{length}
use borrow.Author.Tests.{leb-true}
use Rattle.statistics.specs.declared.Test.{Test}
use Rattle.statistics.specs.Spread.{variation, deviation_of}
use Rattle.statistics.proofs.Deviations.{deviation-most}
use Rattle.cumsum.specs.declared.Mark.{Mark}
use Rattle.cumsum.specs.declared.Mark.TheVariants.{Under}
use Rattle.cumsum.specs.Intervals.{cumsum, action_limit}
use Rattle.cumsum.specs.Marks.{mark, marks, both_over, undecided_pair, consecutive, failed, undecided}
use Rattle.cumsum.proofs.Finer.{cumsum-width}
use Rattle.cumsum.proofs.MarksFiner.{compared-under}

-- 4 × (X − T) ≤ sigma at the newest engine, without a root. (`-` stops at 0.)
abbrev pub within_quarter : Test → List Test → Bool
within_quarter x h =
    leb (4 * (x.result - x.standard) * (4 * (x.result - x.standard)) * (length (x ∷ h) * (length (x ∷ h) - 1))) (variation (x ∷ h))

abbrev pub never_rises : List Test → Bool
never_rises [] = true
never_rises (x ∷ []) = true
never_rises (x ∷ y ∷ h) = within_quarter x (y ∷ h) && never_rises (y ∷ h)

rest : (x y : Test) (h : List Test) → never_rises (x ∷ y ∷ h) ≡ true → (within_quarter x (y ∷ h) ≡ true) × (never_rises (y ∷ h) ≡ true)
rest x y h all = (and-eq-true_iff (within_quarter x (y ∷ h)) (never_rises (y ∷ h))).0 all

module _ (k : ℕ) where
  -- the step at the newest engine takes C no higher: 4k × (X − T) ≤ s
  step-down : (x y : Test) (h : List Test) → within_quarter x (y ∷ h) ≡ true → 4 * k * x.result ≤ 4 * k * x.standard + (deviation_of k (x ∷ y ∷ h)).floor
  step-down x y h within =
      let step = 4 * (x.result - x.standard) in
      let n = length (x ∷ y ∷ h) in
      let scaled = mul-le-mul_left (k * k) (leb-true (step * step * (n * (n - 1))) (variation (x ∷ y ∷ h)) within) in
      let most = deviation-most k n (variation (x ∷ y ∷ h)) (omega arith) (k * step) (omega (arith, scaled)) in
      let above : x.result ≤ x.standard + (x.result - x.standard) = omega arith in
      omega (arith, most, mul-le-mul_left (4 * k) above)

  cumsum-none : (h : List Test) → never_rises h ≡ true → (cumsum k h).high ≤ 0
  cumsum-none [] all = omega arith
  cumsum-none (x ∷ []) all = omega arith
  cumsum-none (x ∷ y ∷ h) all =
      let both = rest x y h all in
      omega (arith, cumsum-none (y ∷ h) both.1, step-down x y h both.0)

  mark-under : (x y : Test) (h : List Test) → never_rises (x ∷ y ∷ h) ≡ true → mark k (x ∷ y ∷ h) ≡ Under
  mark-under x y h all =
      let none = cumsum-none (x ∷ y ∷ h) all in
      let w = cumsum-width k (x ∷ y ∷ h) in
      compared-under (cumsum k (x ∷ y ∷ h)) (action_limit k (x ∷ y ∷ h)) (omega arith) (omega arith)

  -- a test of two consecutive marks that fails if the newer is 'U' never passes
  never : (test : Mark → Mark → Bool) → ((m : Mark) → test Under m ≡ false) → (h : List Test) → never_rises h ≡ true → consecutive test (marks k h) ≡ false
  never test fails [] all = refl
  never test fails (x ∷ []) all = refl
  never test fails (x ∷ y ∷ h) all = rw (mark-under x y h all, fails (mark k (y ∷ h))) (never test fails (y ∷ h) (rest x y h all).1)

  pub never-failed : (h : List Test) → never_rises h ≡ true → failed (marks k h) ≡ false
  unfolding failed
  never-failed = never both_over (λ m. refl)

  pub never-undecided : (h : List Test) → never_rises h ≡ true → undecided (marks k h) ≡ false
  unfolding undecided
  never-undecided = never undecided_pair (λ m. refl)

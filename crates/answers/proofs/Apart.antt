-- A sample size in tenths is at least 10, so 0 means that there is none.
use mathlib.Core.Path.{◌≡◌, refl, sym, ap}
use mathlib.Core.Bool.{Bool, true, false}
use mathlib.Core.List.{[], ◌∷◌}
use Prim.Native.Nat.{ℕ, ◌*◌, ◌≤◌, ◌<◌}
use native.Mathlib.Decide.{dec_lt}
use native.Mathlib.Omega.{arith}
use lib.Dec.{eqb}
use lib.ListN.{length}
use borrow.Author.Tests.{eqb-true, eqb-false}
use Rattle.std.specs.Prelude.{None}
use Rattle.statistics.specs.Spread.{total, variation}
use Rattle.statistics.specs.SampleSize.{sample_size}
use Rattle.sample_size.proofs.Sizes.{absent-few, absent-even, in-tenths}
use Rattle.exports.specs.Numbers.{size_number, NoneApart}

module _ (n s t v : ℕ) (none : size_number (sample_size n s t v) ≡ 0) where
  enough : 2 ≤ n → (even : Bool) → eqb s (n * t) ≡ even → sample_size n s t v ≡ None
  enough h true e = sym (absent-even n s t v h (eqb-true s (n * t) e))
  enough h false e = absurd (omega (arith, none, ap size_number (in-tenths n s t v _ _ h (eqb-false s (n * t) e) refl refl)))

  by_count : Dec (n < 2) → sample_size n s t v ≡ None
  by_count (yes l) = sym (absent-few n s t v l)
  by_count (no f) = enough (omega arith) (eqb s (n * t)) refl

pub none_apart : NoneApart
none_apart [] e = refl
none_apart (x ∷ h) e = by_count (length (x ∷ h)) (total (x ∷ h)) x.standard (variation (x ∷ h)) e (dec_lt (length (x ∷ h)) 2)

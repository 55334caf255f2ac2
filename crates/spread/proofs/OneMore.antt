-- The sums with one more engine: their values, and that they fit.
use mathlib.Core.Path.{◌≡◌}
use mathlib.Core.List.{List, ◌∷◌}
use Prim.Native.Nat.{ℕ, ◌+◌, ◌-◌, ◌*◌, ◌≤◌}
use native.Mathlib.Nat.{mul-le-mul}
use native.Mathlib.Omega.{arith}
use lib.ListN.{length}
use Rattle.spread.specs.declared.Sums.{Sums}
use Rattle.statistics.specs.Spread.{squares as squares_of, variation}
use Rattle.statistics.specs.declared.Test.{Test}
use Rattle.spread.specs.Sums.{sums}
use Rattle.statistics.specs.Ranges.{HistoryInRange}
use Rattle.spread.specs.Ranges.{SumsInRange}
use Rattle.statistics.proofs.Bounds.{total-squared, total-le, squares-le}

-- the sums with one more result, x
abbrev pub with-result : Sums → ℕ → Sums
with-result s x =
    record {
      n = s.n + 1;
      total = s.total + x;
      squares = s.squares + x * x;
      variation = (s.n + 1) * (s.squares + x * x) - (s.total + x) * (s.total + x);
    }

same : {n n' t t' q q' v v' : ℕ} → n ≡ n' → t ≡ t' → q ≡ q' → v ≡ v'
    → ◌≡◌ {A = Sums} record { n = n; total = t; squares = q; variation = v } record { n = n'; total = t'; squares = q'; variation = v' }
same en et eq ev = rw (en, et, eq, ev)

pub sums_next : (s : Sums) (x : ℕ) (h : List Test) (t : ℕ) → s ≡ sums h → with-result s x ≡ sums (record { result = x; standard = t } ∷ h)
unfolding variation
sums_next s x h t e = rw e (same (omega arith) (omega arith) (omega arith) (omega arith))

-- the upper bounds under which the new sums fit
pub record Room (s : Sums) (x : ℕ) : Type 0 where
  pub few : s.n ≤ 39
  pub total : s.total ≤ 780000
  pub squares : s.squares ≤ 15600000000
  pub square : x * x ≤ 400000000
  pub below : (s.total + x) * (s.total + x) ≤ (s.n + 1) * (s.squares + x * x)
  pub above : (s.n + 1) * (s.squares + x * x) ≤ 640000000000

history-room : (x : ℕ) (h : List Test) → x ≤ 20000 → HistoryInRange 39 h → Room (sums h) x
history-room x h le r =
    let total = total-le h r.tests in
    let squares = squares-le h r.tests in
    let square : x * x ≤ 400000000 = mul-le-mul le le in
    let few : length h + 1 ≤ 40 = omega (arith, r.few) in
    let sum : squares_of h + x * x ≤ 16000000000 = omega arith in
    record {
      few = r.few;
      total = omega arith;
      squares = omega arith;
      square = square;
      below = omega (arith, total-squared (record { result = x; standard = 0 } ∷ h));
      above = mul-le-mul few sum;
    }

pub sums_room : (s : Sums) (x : ℕ) → SumsInRange s x → Room s x
sums_room s x r = rw r.summed (history-room x r.history r.result r.in_range)

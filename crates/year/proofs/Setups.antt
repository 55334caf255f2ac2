-- Upper bounds on the numbers of a setup in range, by which they fit their stored form and the code's types.
use mathlib.Core.Path.{◌≡◌}
use mathlib.Core.Bool.{Bool, true, ◌&&◌, and-eq-true_iff}
use Prim.Native.Nat.{ℕ, ◌≤◌}
use native.Mathlib.Omega.{arith}
use lib.Dec.{eqb, leb}
use borrow.Author.Tests.{eqb-true, leb-true}
use Rattle.conditions.specs.Ranges.{within}
use Rattle.conditions.proofs.Tests.{either_true}
use Rattle.rounding.specs.declared.Factor.{Factor}
use Rattle.rounding.specs.Result.{factor_in_range}
use Rattle.year.specs.declared.Setup.{Setup}
use Rattle.year.specs.Setup.{Pollutant, of, factor_of, standards_in_range, production_in_range, factors_in_range, setup_in_range}
use Rattle.year.proofs.Ranges.{both_of, standard-le}

within-le : (low high x : ℕ) → within low high x ≡ true → x ≤ high
within-le low high x h = leb-true x high ((and-eq-true_iff (leb low x) (leb x high)).0 h).1

module _ (f : Factor) where
  abbrev Bounds : Type 0
  Bounds = (f.kind ≤ 1) × (f.value ≤ 60000)

  of-kind : (k : ℕ) → k ≤ 1 → (b : Bool) → (b ≡ true → f.value ≤ 60000) → (eqb f.kind k && b) ≡ true → Bounds
  of-kind k l b g h =
      let p = (and-eq-true_iff (eqb f.kind k) b).0 h in
      let e : f.kind ≡ k = eqb-true f.kind k p.0 in
      (omega arith, g p.1)

  pub factor-le : factor_in_range f ≡ true → Bounds
  factor-le =
      either_true (eqb f.kind 0 && leb f.value 60000) (of-kind 0 (omega arith) (leb f.value 60000) (leb-true f.value 60000))
      (of-kind 1 (omega arith) (within 1000 60000 f.value) (within-le 1000 60000 f.value))

pub record Bounded (s : Setup) : Type 0 where
  pub volume : s.volume ≤ 99999999
  pub days : s.days ≤ 366
  pub standards : (q : Pollutant) → of q s.standards ≤ 20000
  pub factors : (q : Pollutant) → ((factor_of q s).kind ≤ 1) × ((factor_of q s).value ≤ 60000)

pub bounded : (s : Setup) → setup_in_range s ≡ true → Bounded s
bounded s h =
    let p = (and-eq-true_iff (production_in_range s && standards_in_range s.standards) (factors_in_range s)).0 h in
    let q = (and-eq-true_iff (production_in_range s) (standards_in_range s.standards)).0 p.0 in
    let r = (and-eq-true_iff (within 1 99999999 s.volume) (within 1 366 s.days)).0 q.0 in
    record {
      volume = within-le 1 99999999 s.volume r.0;
      days = within-le 1 366 s.days r.1;
      standards = standard-le s.standards q.1;
      factors = λ q. factor-le (factor_of q s) (both_of (λ q. factor_in_range (factor_of q s)) p.1 q);
    }

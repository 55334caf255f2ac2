-- The running figures of one pollutant: before engine 2, with one more engine, and the ranges in which one more engine and a sample size fit.
use mathlib.Core.Path.{◌≡◌, ap}
use mathlib.Core.Bool.{false, ◌||◌}
use mathlib.Core.List.{List, [], ◌∷◌}
use Prim.Native.Nat.{ℕ, ◌+◌, ◌*◌, ◌≤◌, ◌<◌}
use native.Mathlib.Nat.{mul-le-mul}
use native.Mathlib.Omega.{arith}
use lib.ListN.{length}
use Rattle.spread.specs.declared.Sums.{Sums}
use Rattle.statistics.specs.declared.Deviation.{Deviation}
use Rattle.statistics.specs.Spread.{deviation}
use Rattle.statistics.specs.declared.Test.{Test}
use Rattle.spread.specs.Sums.{sums}
use Rattle.statistics.specs.Ranges.{TestsInRange, HistoryInRange}
use Rattle.spread.specs.Ranges.{SumsInRange, DeviationInRange}
use Rattle.sample_size.specs.Ranges.{SizeInRange}
use Rattle.statistics.proofs.Deviations.{deviation-early, inexact-le}
use Rattle.spread.proofs.Bounds.{deviation-in-range}
use Rattle.sample_size.proofs.Bounds.{size-in-range}
use Rattle.spread.proofs.Room.{deviation-lt}
use Rattle.cumsum.specs.declared.Interval.{Interval}
use Rattle.cumsum.specs.declared.Mark.{Mark}
use Rattle.cumsum.specs.declared.Mark.TheVariants.{Unmarked}
use Rattle.figures.specs.declared.Running.{Running}
use Rattle.cumsum.specs.Intervals.{next_cumsum, cumsum, limit_of}
use Rattle.cumsum.specs.Marks.{compared, both_over, undecided_pair, failed, undecided}
use Rattle.figures.specs.Running.{newest_standard, running, RunningInRange, Worked}
use Rattle.marking.specs.Ranges.{NextInRange}
use Rattle.cumsum.proofs.Bounds.{cumsum-le}
use Rattle.cumsum.proofs.Finer.{cumsum-width}

module _ (k : ℕ) where
  -- the parts of the figures that a caller reads
  pub running-sums : (f : Running) (h : List Test) → f ≡ running k h → f.sums ≡ sums h
  unfolding running
  running-sums f h e = ap (λ (g : Running). g.sums) e

  pub running-cumsum : (f : Running) (h : List Test) → f ≡ running k h → f.cumsum ≡ cumsum k h
  unfolding running
  running-cumsum f h e = ap (λ (g : Running). g.cumsum) e

  pub early : (s : Sums) (t : ℕ) (h : List Test) → length h ≤ 1 → s ≡ sums h → t ≡ newest_standard h
      → record {
        sums = s;
        standard = t;
        deviation = record { floor = 0; inexact = 0 };
        cumsum = record { low = 0; high = 0 };
        limit = record { low = 0; high = 0 };
        mark = Unmarked;
        failed = false;
        undecided = false;
      } ≡ running k h
  unfolding running failed undecided
  early s t [] few es et = rw (es, et, deviation-early k [] few)
  early s t (x ∷ []) few es et = rw (es, et, deviation-early k (x ∷ []) few)
  early s t (x ∷ y ∷ h) few es et = absurd (omega arith)

  -- from engine 2 on: each figure is computed from the one before it
  pub later : (f : Running) (x : Test) (s : Sums) (d : Deviation) (c l : Interval) (m : Mark) (h : List Test)
      → f ≡ running k h → s ≡ sums (x ∷ h) → 2 ≤ s.n → d ≡ deviation k s.n s.variation
      → c ≡ next_cumsum k x d f.cumsum → l ≡ limit_of d → m ≡ compared c l
      → record {
        sums = s;
        standard = x.standard;
        deviation = d;
        cumsum = c;
        limit = l;
        mark = m;
        failed = both_over m f.mark || f.failed;
        undecided = undecided_pair m f.mark || f.undecided;
      } ≡ running k (x ∷ h)
  unfolding running failed undecided
  later f x s d c l m [] ef es two ed ec el em = absurd (omega (arith, ap (λ (z : Sums). z.n) es))
  later f x s d c l m (y ∷ h) ef es two ed ec el em = rw (em, el, ec, ed, es, ef)

module _ (k : ℕ) (f : Running) (x : ℕ) (r : RunningInRange k f x) where
  pub sums-in-range : SumsInRange f.sums x
  sums-in-range = record { history = r.history; summed = running-sums k f r.history r.worked; in_range = r.in_range; result = r.result }

  -- the history with this engine. (Its standard plays no part in the deviation.)
  pub one_more : HistoryInRange 40 (record { result = x; standard = 0 } ∷ r.history)
  one_more = record { few = omega (arith, r.in_range.few); tests = (r.result, omega arith, r.in_range.tests) }

  -- from engine 2 on, with the sums that are those of any history with this engine, if the old ones are of that history
  module _ (s : Sums) (two : 2 ≤ s.n) (es : (h : List Test) (t : ℕ) → f.sums ≡ sums h → s ≡ sums (record { result = x; standard = t } ∷ h)) where
    pub deviation-fits : DeviationInRange k s.n s.variation
    deviation-fits =
        let e = es r.history 0 (running-sums k f r.history r.worked) in
        rw e (deviation-in-range (record { result = x; standard = 0 } ∷ r.history) one_more k r.fine (rw e at two))

    module _ (d : Deviation) (ed : d ≡ deviation k s.n s.variation) where
      pub limit-fits : (d.floor < 4294967296) × (d.inexact ≤ 1)
      limit-fits = rw ed (deviation-lt k s.n s.variation deviation-fits, inexact-le k s.n s.variation)

      pub next_fits : NextInRange f.cumsum.low k (d.floor + d.inexact) × NextInRange f.cumsum.high k d.floor
      next_fits =
          let h = r.history in
          let unit : 4 * k * 20000 ≤ 4 * 8192 * 20000 = omega (arith, r.fine) in
          let below : length h * (4 * k * 20000) ≤ 39 * (4 * 8192 * 20000) = mul-le-mul r.in_range.few unit in
          let c : f.cumsum ≡ cumsum k h = running-cumsum k f h r.worked in
          let high = cumsum-le k h r.in_range.tests in
          let low = (cumsum-width k h).ordered in
          rw c (
            record { before = omega arith; fine = r.fine; off = omega (arith, limit-fits) },
            record { before = omega arith; fine = r.fine; off = omega (arith, limit-fits) },
          )

-- the figures of every history in range meet the range conditions of a sample size
newest-le : (h : List Test) → TestsInRange h → newest_standard h ≤ 20000
newest-le [] r = omega arith
newest-le (x ∷ h) r = r.1

size_of : (k : ℕ) (f : Running) (h : List Test) → f ≡ running k h → HistoryInRange 40 h
    → SizeInRange f.sums.n f.sums.total f.standard f.sums.variation
unfolding running
size_of k f h e r = rw e (size-in-range h r (newest_standard h) (newest-le h r.tests))

pub running_size : (f : Running) → Worked f → SizeInRange f.sums.n f.sums.total f.standard f.sums.variation
running_size f w = size_of w.resolution f w.history w.worked w.in_range

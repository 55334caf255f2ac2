-- The figures of a status from the running figures: before engine 2, and from it on; and the stop test.
use mathlib.Core.Path.{◌≡◌}
use mathlib.Core.List.{List, [], ◌∷◌}
use Prim.Native.Nat.{ℕ}
use native.Mathlib.Nat.{add-zero}
use native.Mathlib.Omega.{arith}
use Rattle.std.specs.Prelude.{Option}
use Rattle.statistics.specs.declared.Test.{Test}
use Rattle.statistics.proofs.Deviations.{deviation-early}
use Rattle.statistics.specs.SampleSize.{sample_size, sample_size_of, size_reached, size_reached_of}
use Rattle.year.specs.Status.{figures}
use Rattle.figures.specs.declared.Running.{Running}
use Rattle.figures.specs.Running.{running}

module _ (k : ℕ) (f : Running) where
  pub size_shown : (h : List Test) → f ≡ running k h → sample_size f.sums.n f.sums.total f.standard f.sums.variation ≡ sample_size_of h
  unfolding running sample_size
  size_shown [] e = rw e
  size_shown (x ∷ h) e = rw e

  pub shown : (h : List Test) (size : Option ℕ) → f ≡ running k h
      → record {
        sum = f.sums.total;
        deviation = f.deviation;
        cumsum = f.cumsum;
        limit = f.limit;
        size = size;
        mark = f.mark;
      } ≡ figures k size h
  unfolding running
  shown [] size e = rw (e, deviation-early k [] (omega arith))
  shown (x ∷ []) size e = rw (e, deviation-early k (x ∷ []) (omega arith), add-zero)
  shown (x ∷ y ∷ h) size e = rw e

  pub size_was_reached : (h : List Test) → f ≡ running k h → size_reached f.sums.n f.sums.total f.standard f.sums.variation ≡ size_reached_of h
  unfolding running size_reached
  size_was_reached [] e = rw e
  size_was_reached (x ∷ h) e = rw e

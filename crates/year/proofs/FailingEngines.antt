-- Which engines verdicts 3 and 4 count, in work at every m.
use mathlib.Core.Path.{◌≡◌, refl}
use mathlib.Core.Logic.{◌≢◌, ◌⊎◌, inl, inr, ⊎_elim}
use mathlib.Core.Bool.{Bool, true, false, cond, ◌&&◌, and-false}
use Prim.Native.Nat.{ℕ, ◌*◌, ◌≤◌}
use native.Mathlib.Omega.{arith}
use lib.Dec.{leb}
use lib.ListN.{length}
use borrow.Author.Tests.{leb-true, leb-false, le-leb, lt-leb}
use Rattle.std.specs.Prelude.{List, All, count_by, slice_index_or}
use Rattle.std.proofs.lemmas.List.Sums.{sum_by-le}
use Rattle.conditions.specs.Rows.{first, applies}
use Rattle.year.specs.declared.Tested.{Tested}
use Rattle.year.specs.Setup.{Hcnox, Co}
use Rattle.year.specs.Replay.{Progress}
use Rattle.year.specs.Verdict.{one_percent, passes, verdict_table, verdict_rows, verdict}
use Rattle.year.specs.FailingEngines.{Fails, PassOrFail, FailingEngines}

-- ---- an engine passes, or it fails

one-false : (a b : Bool) → (a && b) ≡ false → (a ≡ false) ⊎ (b ≡ false)
one-false true b h = inr h
one-false false b h = inl refl

fails-not : (x : Tested) → Fails x → passes x ≡ false
fails-not x (Hcnox, above) = rw (lt-leb x.results.hcnox x.standards.hcnox above) refl
fails-not x (Co, above) = rw (lt-leb x.results.co x.standards.co above) (and-false (leb x.results.hcnox x.standards.hcnox))

not-fails : (x : Tested) → passes x ≡ false → Fails x
not-fails x h =
    ⊎_elim (λ e. (Hcnox, leb-false x.results.hcnox x.standards.hcnox e)) (λ e. (Co, leb-false x.results.co x.standards.co e))
    (one-false (leb x.results.hcnox x.standards.hcnox) (leb x.results.co x.standards.co) h)

pub pass-or-fail : PassOrFail
pass-or-fail = record { fails = λ x. (fails-not x, not-fails x) }

-- if every engine fails, none is counted
none-counted : (xs : List Tested) → All Fails xs → count_by passes xs ≤ 0
none-counted xs all = omega (arith, sum_by-le (λ x. cond (passes x) 1 0) 0 xs (λ k d lt. rw (fails-not (slice_index_or xs k d) (all k d lt)) (omega arith)))

-- ---- rows 3 and 4

row-4 : (d f u s r t p : Bool) → first (verdict_table d f u s r t p) 1 ≡ 4 → p ≡ true
row-4 true f u s r t p h = absurd (omega (arith, h))
row-4 false true u s r t p h = absurd (omega (arith, h))
row-4 false false true s r t p h = absurd (omega (arith, h))
row-4 false false false true r t p h = absurd (omega (arith, h))
row-4 false false false false true t p h = absurd (omega (arith, h))
row-4 false false false false false true p h = absurd (omega (arith, h))
row-4 false false false false false false true h = refl
row-4 false false false false false false false h = absurd (omega (arith, h))

-- if row 3 applies, neither 4 nor 1 is taken
row-3 : (d f u s r p : Bool) → (first (verdict_table d f u s r true p) 1 ≢ 4) × (first (verdict_table d f u s r true p) 1 ≢ 1)
row-3 true f u s r p = (λ h. omega (arith, h), λ h. omega (arith, h))
row-3 false true u s r p = (λ h. omega (arith, h), λ h. omega (arith, h))
row-3 false false true s r p = (λ h. omega (arith, h), λ h. omega (arith, h))
row-3 false false false true r p = (λ h. omega (arith, h), λ h. omega (arith, h))
row-3 false false false false true p = (λ h. omega (arith, h), λ h. omega (arith, h))
row-3 false false false false false p = (λ h. omega (arith, h), λ h. omega (arith, h))

module _ (k : ℕ) (p : Progress) where
  abbrev at : ℕ → Bool
  at = applies (verdict_rows k p)

  enough-pass : verdict k p ≡ 4 → one_percent p.setup.volume ≤ count_by passes p.tested
  unfolding verdict
  enough-pass h = leb-true _ _ (row-4 (at 7) (at 6) (at 5) (at 0) (at 2) (at 3) (at 4) h)

  thirty-tested : 30 ≤ length p.tested → (verdict k p ≢ 4) × (verdict k p ≢ 1)
  unfolding verdict
  thirty-tested many = rw (le-leb 30 (length p.tested) many) (row-3 (at 7) (at 6) (at 5) (at 0) (at 2) (at 4))

pub failing-engines : (m : ℕ) (p : Progress) → FailingEngines m p
unfolding verdict
failing-engines m p =
    record {
      enough_pass = enough-pass (1024 * m) p;
      none_passes = λ all h. omega (arith, enough-pass (1024 * m) p h, none-counted p.tested all);
      thirty_tested = thirty-tested (1024 * m) p;
      amended = λ standards. refl;
    }

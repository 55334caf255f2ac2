-- A year takes no more events exactly if it was declared or a pollutant has failed at resolution 1,024: these two verdicts are tested first.
use mathlib.Core.Path.{◌≡◌, refl}
use mathlib.Core.Bool.{Bool, true, false, ◌||◌}
use Prim.Native.Nat.{ℕ}
use lib.Dec.{eqb}
use Rattle.conditions.specs.Rows.{first, applies}
use Rattle.cumsum.specs.Marks.{marks, failed}
use Rattle.year.specs.Setup.{some, judged}
use Rattle.year.specs.Replay.{Progress, history}
use Rattle.year.specs.Verdict.{verdict_table, verdict_rows, verdict}
use Rattle.year.specs.Admissible.{closed}

is-closed : (d f u s r t p : Bool) → (eqb (first (verdict_table d f u s r t p) 1) 6 || eqb (first (verdict_table d f u s r t p) 1) 7) ≡ (d || f)
is-closed true f u s r t p = refl
is-closed false true u s r t p = refl
is-closed false false true s r t p = refl
is-closed false false false true r t p = refl
is-closed false false false false true t p = refl
is-closed false false false false false true p = refl
is-closed false false false false false false true = refl
is-closed false false false false false false false = refl

pub closed_is : (p : Progress) → closed p ≡ (p.declared || some (λ q. failed (marks 1024 (history q p.tested))) judged)
unfolding closed verdict
closed_is p = is-closed (at 7) (at 6) (at 5) (at 0) (at 2) (at 3) (at 4)
  where
    at : ℕ → Bool
    at = applies (verdict_rows 1024 p)

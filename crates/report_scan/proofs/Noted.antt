-- What a row shows, and the rows of a year with one more event.
use mathlib.Core.Path.{◌≡◌, refl, ap, ◌∙◌}
use mathlib.Core.List.{List, [], ◌∷◌}
use Prim.Native.Nat.{ℕ, ◌≤◌, ◌<◌}
use native.Mathlib.Omega.{arith}
use lib.ListN.{length, length-append}
use Rattle.cumsum.specs.Marks.{mark_byte}
use Rattle.year.specs.declared.Pair.{Pair}
use Rattle.year.specs.declared.Tested.{Tested}
use Rattle.year.specs.Setup.{Hcnox, Co}
use Rattle.year.specs.declared.Event.{Event}
use Rattle.year.specs.declared.Event.TheVariants.{Engine}
use Rattle.year.specs.Replay.{Progress, after, history}
use Rattle.report.specs.declared.Row.{Row}
use Rattle.figures.specs.declared.Running.{Running}
use Rattle.figures.specs.Running.{running}
use Rattle.report.specs.Report.{row_of}
use Rattle.report_scan.specs.Rows.{report_rows}

pub row_is : (x : Tested) (f : Pair Running) (earlier : List Tested)
    → f.hcnox ≡ running 1024 (history Hcnox (x ∷ earlier)) → f.co ≡ running 1024 (history Co (x ∷ earlier))
    → record {
      number = x.number;
      results = x.results;
      cumsum = record { hcnox = f.hcnox.cumsum; co = f.co.cumsum };
      marks = record { hcnox = mark_byte f.hcnox.mark; co = mark_byte f.co.mark };
    } ≡ row_of x earlier
unfolding running
row_is x f earlier h o = rw (h, o) refl

pub length-rows : (xs : List Tested) → length (report_rows xs) ≡ length xs
length-rows [] = refl
length-rows (x ∷ xs) = omega (arith, length-append (report_rows xs) (row_of x xs ∷ []), length-rows xs)

-- one more engine has room
pub rows-room : (rows : List Row) (e : Event) (p year : Progress) (number readings : ℕ) (results : Pair ℕ) → rows ≡ report_rows year.tested → p ≡ after e year
    → e ≡ Engine number readings results → length p.tested ≤ 40 → length rows < 40
rows-room rows e p year number readings results noted step is few =
    omega (arith, few, ap (λ (l : List Row). length l) noted, length-rows year.tested, ap (λ (q : Progress). length q.tested) (step ∙ ap (λ (d : Event). after d year) is))

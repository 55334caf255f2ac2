-- The lines of rows: those before an index, with one more; and those of a year's engines.
use mathlib.Core.Path.{◌≡◌, refl, sym, ap, ◌∙◌}
use mathlib.Core.List.{List, [], ◌∷◌, ◌++◌, append_assoc}
use Prim.Native.Nat.{ℕ, ◌+◌, ◌*◌, ◌-◌, ◌≤◌}
use native.Mathlib.Omega.{arith}
use borrow.Rule.Slice.PartMut.{put_mid}
use lib.ListN.{length, take, length-append}
use Rattle.std.specs.Prelude.{All}
use Rattle.std.proofs.lemmas.List.{append-nil}
use Rattle.std.proofs.lemmas.List.Elements.{All-nil, All-push}
use Rattle.statistics.specs.Ranges.{HistoryInRange}
use Rattle.buffers.specs.Bytes.{put}
use Rattle.buffers.proofs.Lists.{put-part, put_next}
use Rattle.year.specs.declared.Tested.{Tested}
use Rattle.year.specs.Setup.{Pollutant, Hcnox, Co}
use Rattle.year.specs.Replay.{history}
use Rattle.report.specs.declared.Row.{Row}
use Rattle.report.specs.Report.{row_line, row_of, engine_lines}
use Rattle.report.proofs.Ranges.{history-drop, cumsum-fits}
use Rattle.report_scan.specs.Rows.{report_rows}
use Rattle.report_printing.specs.Lines.{CumsumFits, row_lines}

lines-append : (rs : List Row) (r : Row) → row_lines (rs ++ r ∷ []) ≡ row_lines rs ++ row_line r
lines-append [] r = append-nil (row_line r)
lines-append (s ∷ rs) r = ap (λ (l : List ℕ). row_line s ++ l) (lines-append rs r) ∙ sym (append_assoc (row_line s) (row_lines rs) (row_line r))

-- the lines of the rows before an index, and one more
module _ (rs : List Row) (i : ℕ) (r : Row) (more : take (i + 1) rs ≡ take i rs ++ r ∷ []) (line : List ℕ) (is : line ≡ row_line r) (long : length line ≡ 61)
    (size : length (row_lines (take i rs)) ≡ 61 * i) where
  next : row_lines (take (i + 1) rs) ≡ row_lines (take i rs) ++ line
  next = ap row_lines more ∙ lines-append (take i rs) r ∙ ap (λ (l : List ℕ). row_lines (take i rs) ++ l) (sym is)

  pub size-next : length (row_lines (take (i + 1) rs)) ≡ 61 * (i + 1)
  size-next = omega (arith, ap length next, length-append (row_lines (take i rs)) line, long, size)

  pub lines-next : (out now : List ℕ) (place : ℕ) → 61 * (length rs + 1) ≤ length out → place ≡ 61 * (i + 1) → now ≡ put out 61 (row_lines (take i rs))
      → put_mid place (place + 61 - place) now line ≡ put out 61 (row_lines (take (i + 1) rs))
  lines-next out now place room at e =
      let here : place ≡ 61 + length (row_lines (take i rs)) = omega (arith, at, size) in
      put-part now place (place + 61) line (omega (arith, long))
      ∙ ap (λ (b : List ℕ). put b place line) e
      ∙ ap (λ (n : ℕ). put (put out 61 (row_lines (take i rs))) n line) here
      ∙ put_next out 61 (row_lines (take i rs)) line (omega arith)
      ∙ ap (put out 61) (sym next)

-- ---- the rows of a year

pub year-lines : (xs : List Tested) → row_lines (report_rows xs) ≡ engine_lines xs
year-lines [] = refl
year-lines (x ∷ xs) = lines-append (report_rows xs) (row_of x xs) ∙ ap (λ (l : List ℕ). l ++ row_line (row_of x xs)) (year-lines xs)

pub rows-fit : (xs : List Tested) → ((q : Pollutant) → HistoryInRange 40 (history q xs)) → All CumsumFits (report_rows xs)
rows-fit [] r = All-nil CumsumFits
rows-fit (x ∷ xs) r =
    All-push CumsumFits (report_rows xs) (row_of x xs) (rows-fit xs (λ q. history-drop q 1 (x ∷ xs) (r q)))
    (record { hcnox = cumsum-fits (history Hcnox (x ∷ xs)) (r Hcnox); co = cumsum-fits (history Co (x ∷ xs)) (r Co) })

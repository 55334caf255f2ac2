-- The page of a year: its size, where its lines start, and that the columns of a line give back the figures of its engine.
use mathlib.Core.Path.{◌≡◌, refl, sym, ap, subst, ◌∙◌}
use mathlib.Core.Bool.{true}
use mathlib.Core.List.{List, [], ◌∷◌, ◌++◌}
use Prim.Native.Nat.{ℕ, zero, suc, ◌+◌, ◌*◌, ◌-◌, ◌≤◌, ◌<◌}
use native.Mathlib.Decide.{dec_lt}
use native.Mathlib.Omega.{arith}
use lib.ListN.{length, get_or, take, drop, length-append, length-drop}
use lib.Seq.{take_at, take_all, take-append-le, drop-append-le, drop-append-add, drop-append_seam, drop-cons}
use Rattle.std.specs.Prelude.{All}
use Rattle.std.proofs.lemmas.List.Elements.{All-weaker}
use Rattle.cumsum.specs.Intervals.{cumsum}
use Rattle.cumsum.specs.Marks.{mark, mark_byte}
use Rattle.year.specs.declared.Tested.{Tested}
use Rattle.year.specs.Setup.{Hcnox, Co, setup_in_range}
use Rattle.year.specs.Replay.{Progress, replay, history}
use Rattle.year.proofs.Ranges.{valid-in-range}
use Rattle.columns.specs.Columns.{IsLine, Fits}
use Rattle.columns.proofs.Columns.{Legible, line-read, figure-read, is-line}
use Rattle.report.specs.declared.Head.{Head}
use Rattle.report.specs.declared.Row.{Row}
use Rattle.report.specs.Report.{head_fields, row_fields, head_line, row_line, head_of, row_of, engine_lines, report}
use Rattle.report.specs.Shown.{line_at, read_head, read_row, none, engine_of, figures_at, Shown, ReportShown}
use Rattle.report.proofs.Ranges.{head-legible, Printable, printable-drop, row-legible, printable}

-- ---- one line: it is one, and the law of a column gives back each of its fields

module _ (h : Head) (a : All Legible (head_fields h)) where
  head-is-line : IsLine (head_line h)
  unfolding head_line
  head-is-line = is-line (head_fields h) a (omega arith)

  head-back : read_head (head_line h) ≡ h
  unfolding head_line
  head-back =
      let t = line-read (head_fields h) a in
      λ i. record { volume = figure-read h.volume t.0 i; days = figure-read h.days t.1.0 i; periods = figure-read h.periods t.1.1.0 i }

module _ (r : Row) (a : All Legible (row_fields r)) where
  row-is-line : IsLine (row_line r)
  unfolding row_line
  row-is-line = is-line (row_fields r) a (omega arith)

  row-back : read_row (row_line r) ≡ r
  unfolding row_line
  row-back =
      let results = (line-read (row_fields r) a).1 in
      let hcnox = results.1.1 in
      let co = hcnox.1.1 in
      let marks = co.1.1 in
      λ i.
      record {
        number = figure-read r.number (line-read (row_fields r) a).0 i;
        results = record { hcnox = figure-read r.results.hcnox results.0 i; co = figure-read r.results.co results.1.0 i };
        cumsum = record {
          hcnox = record { low = figure-read r.cumsum.hcnox.low hcnox.0 i; high = figure-read r.cumsum.hcnox.high hcnox.1.0 i };
          co = record { low = figure-read r.cumsum.co.low co.0 i; high = figure-read r.cumsum.co.high co.1.0 i };
        };
        marks = record { hcnox = get_or (marks.0 i) 0 0; co = get_or (marks.1.0 i) 0 0 };
      }

-- ---- the lines of all engines, which have 61 bytes each

fewer : (x : Tested) (xs : List Tested) → Printable (x ∷ xs) → Printable xs
fewer x xs = printable-drop 1 (x ∷ xs)

length-row : (x : Tested) (earlier : List Tested) → Printable (x ∷ earlier) → length (row_line (row_of x earlier)) ≡ 61
length-row x earlier p = (row-is-line (row_of x earlier) (row-legible x earlier p)).size

length-lines : (xs : List Tested) → Printable xs → length (engine_lines xs) ≡ 61 * length xs
length-lines [] p = refl
length-lines (x ∷ xs) p =
    omega (arith, length-append (engine_lines xs) (row_line (row_of x xs)), length-lines xs (fewer x xs p), length-row x xs p)

-- the line of the newest of some engines
abbrev newest_line : List Tested → List ℕ
newest_line [] = []
newest_line (x ∷ earlier) = row_line (row_of x earlier)

-- what it shows
abbrev newest_row : Tested → List Tested → Row
newest_row x xs =
    record {
      number = x.number;
      results = x.results;
      cumsum = record { hcnox = cumsum 1024 (history Hcnox xs); co = cumsum 1024 (history Co xs) };
      marks = record { hcnox = mark_byte (mark 1024 (history Hcnox xs)); co = mark_byte (mark 1024 (history Co xs)) };
    }

module _ (xs : List Tested) (x : Tested) (earlier : List Tested) (e : xs ≡ x ∷ earlier) where
  newest-shows : newest_line xs ≡ row_line (newest_row x xs)
  newest-shows = rw e refl

  newest-legible : Printable xs → All Legible (row_fields (newest_row x xs))
  newest-legible p = subst (λ (l : List Tested). All Legible (row_fields (newest_row x l))) (sym e) (row-legible x earlier (subst Printable e p))

-- where the line of the engine of index i, in order of entry, starts
lines-at : (xs : List Tested) → Printable xs → (i : ℕ) → i < length xs → take 61 (drop (61 * i) (engine_lines xs)) ≡ newest_line (drop (length xs - suc i) xs)
lines-at [] p i l = absurd (omega arith)
lines-at (x ∷ xs) p i l = by (lines-at xs (fewer x xs p) i) (dec_lt i (length xs))
  where
    size : length (engine_lines xs) ≡ 61 * length xs
    size = length-lines xs (fewer x xs p)

    by : (i < length xs → take 61 (drop (61 * i) (engine_lines xs)) ≡ newest_line (drop (length xs - suc i) xs))
        → Dec (i < length xs) → take 61 (drop (61 * i) (engine_lines xs ++ row_line (row_of x xs))) ≡ newest_line (drop (length (x ∷ xs) - suc i) (x ∷ xs))
    by older (yes k) =
        let earlier : length (x ∷ xs) - suc i ≡ suc (length xs - suc i) = omega arith in
        rw (
          earlier,
          drop-append-le (61 * i) (engine_lines xs) (row_line (row_of x xs)) (omega (arith, size)),
          take-append-le 61 (drop (61 * i) (engine_lines xs)) (row_line (row_of x xs)) (omega (arith, length-drop (61 * i) (engine_lines xs), size)),
        ) (older k)
    by older (no f) =
        let last : i ≡ length xs = omega arith in
        let newest : length (x ∷ xs) - suc i ≡ 0 = omega arith in
        let place : 61 * i ≡ length (engine_lines xs) = omega (arith, size) in
        rw (newest, place, drop-append_seam (engine_lines xs) (row_line (row_of x xs)))
        (take_all 61 (row_line (row_of x xs)) (omega (arith, length-row x xs p)))

-- ---- the page of a year

module _ (p : Progress) (setup : setup_in_range p.setup ≡ true) (engines : Printable p.tested) where
  head-is : IsLine (head_line (head_of p.setup))
  head-is = head-is-line (head_of p.setup) (head-legible p.setup setup)

  size : length (report p) ≡ 61 * (length p.tested + 1)
  size = omega (arith, length-append (head_line (head_of p.setup)) (engine_lines p.tested), head-is.size, length-lines p.tested engines)

  first-line : line_at 0 (report p) ≡ head_line (head_of p.setup)
  first-line = take_at (head_line (head_of p.setup)) (engine_lines p.tested) 61 head-is.size

  -- the engine of index i, engine i + 1
  module _ (i : ℕ) (l : i < length p.tested) where
    -- with those before it
    abbrev upto : List Tested
    upto = drop (length p.tested - suc i) p.tested

    split : upto ≡ engine_of (suc i) p ∷ drop (suc (length p.tested - suc i)) p.tested
    split = drop-cons p.tested (length p.tested - suc i) none (omega arith)

    legible : All Legible (row_fields (figures_at (suc i) p))
    legible = newest-legible upto (engine_of (suc i) p) _ split (printable-drop (length p.tested - suc i) p.tested engines)

    line-is : line_at (suc i) (report p) ≡ row_line (figures_at (suc i) p)
    line-is =
        let place : 61 * suc i ≡ length (head_line (head_of p.setup)) + 61 * i = omega (arith, head-is.size) in
        rw (place, drop-append-add (head_line (head_of p.setup)) (engine_lines p.tested) (61 * i))
        (lines-at p.tested engines i l ∙ newest-shows upto (engine_of (suc i) p) _ split)

  lines : (i : ℕ) → i ≤ length p.tested → IsLine (line_at i (report p))
  lines zero l = rw first-line head-is
  lines (suc i) l = rw (line-is i (omega arith)) (row-is-line (figures_at (suc i) p) (legible i (omega arith)))

  engine-fits : (n : ℕ) → 1 ≤ n → n ≤ length p.tested → All Fits (row_fields (figures_at n p))
  engine-fits zero l h = absurd (omega arith)
  engine-fits (suc i) l h = All-weaker Legible Fits (λ f a. a.fits) (row_fields (figures_at (suc i) p)) (legible i (omega arith))

  engine-read : (n : ℕ) → 1 ≤ n → n ≤ length p.tested → read_row (line_at n (report p)) ≡ figures_at n p
  engine-read zero l h = absurd (omega arith)
  engine-read (suc i) l h = ap read_row (line-is i (omega arith)) ∙ row-back (figures_at (suc i) p) (legible i (omega arith))

  shown : Shown p
  shown =
      record {
        size = size;
        lines = lines;
        head_fits = All-weaker Legible Fits (λ f a. a.fits) (head_fields (head_of p.setup)) (head-legible p.setup setup);
        engine_fits = engine-fits;
        head_read = ap read_head first-line ∙ head-back (head_of p.setup) (head-legible p.setup setup);
        engine_read = engine-read;
      }

pub report-shown : ReportShown
report-shown = record { every = λ s es v. shown (replay s es) (valid-in-range s es v).setup (printable s es v) }

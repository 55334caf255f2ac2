-- What a page shows of a year in range fits its columns: the figures of its setup, and those of each engine.
use mathlib.Core.Path.{◌≡◌, refl}
use mathlib.Core.Bool.{true}
use mathlib.Core.List.{List, [], ◌∷◌}
use Prim.Native.Nat.{ℕ, zero, suc, ◌*◌, ◌≤◌, ◌<◌}
use native.Mathlib.Nat.{mul-le-mul}
use native.Mathlib.Omega.{arith}
use lib.ListN.{length, drop}
use Rattle.std.specs.Prelude.{All}
use Rattle.std.proofs.lemmas.List.Elements.{All-from_recursion, All-nil, All-cons, All-head, All-drop}
use Rattle.statistics.specs.declared.Test.{Test}
use Rattle.statistics.specs.Ranges.{HistoryInRange}
use Rattle.cumsum.specs.Intervals.{cumsum}
use Rattle.cumsum.specs.declared.Mark.{Mark}
use Rattle.cumsum.specs.declared.Mark.TheVariants.{Unmarked, Over, Under, Undecided}
use Rattle.cumsum.specs.Marks.{mark, mark_byte}
use Rattle.cumsum.proofs.Bounds.{cumsum-le}
use Rattle.cumsum.proofs.Finer.{cumsum-width}
use Rattle.year.specs.declared.Setup.{Setup}
use Rattle.year.specs.declared.Event.{Event}
use Rattle.year.specs.declared.Event.TheVariants.{Engine, Amendment, NextPeriod, Declaration, Deletion}
use Rattle.year.specs.declared.Tested.{Tested}
use Rattle.year.specs.Setup.{Pollutant, Hcnox, Co, setup_in_range}
use Rattle.year.specs.Periods.{periods}
use Rattle.year.specs.Replay.{replay, history}
use Rattle.year.specs.Admissible.{valid}
use Rattle.year.proofs.Ranges.{periods-le, admitted-engine, valid-in-range}
use Rattle.year.proofs.Setups.{bounded}
use Rattle.year.proofs.Valid.{valid-before, valid-newest}
use Rattle.columns.specs.Columns.{symbol}
use Rattle.columns.proofs.Columns.{Solid, Legible, figure-legible}
use Rattle.report.specs.Report.{head_fields, row_fields, head_of, row_of}

-- ---- the head

pub head-legible : (s : Setup) → setup_in_range s ≡ true → All Legible (head_fields (head_of s))
head-legible s h =
    let b = bounded s h in
    All-from_recursion Legible (head_fields (head_of s)) (
      figure-legible 8 s.volume (omega arith) (omega (arith, b.volume)),
      (
        figure-legible 3 s.days (omega arith) (omega (arith, b.days)),
        (
          figure-legible 1 (periods s.volume s.days) (omega arith) (omega (arith, periods-le s.volume s.days)),
          tt,
        ),
      ),
    )

-- ---- an engine's line

-- the engines of a page: the newest first, with numbers of at most 65,535 and results of at most 20,000
abbrev pub Numbered : Tested → Type 0
Numbered x = x.number ≤ 65535

pub record Printable (xs : List Tested) : Type 0 where
  pub numbers : All Numbered xs
  pub histories : (q : Pollutant) → HistoryInRange 40 (history q xs)

-- the older ones of engines in range
pub history-drop : (q : Pollutant) (n : ℕ) (xs : List Tested) → HistoryInRange 40 (history q xs) → HistoryInRange 40 (history q (drop n xs))
history-drop q zero xs r = r
history-drop q (suc n) [] r = r
history-drop q (suc n) (x ∷ xs) r = history-drop q n xs (record { few = omega (arith, r.few); tests = r.tests.2 })

pub printable-drop : (n : ℕ) (xs : List Tested) → Printable xs → Printable (drop n xs)
printable-drop n xs p = record { numbers = All-drop Numbered n xs p.numbers; histories = λ q. history-drop q n xs (p.histories q) }

-- C of at most forty engines has at most ten digits
pub cumsum-fits : (h : List Test) → HistoryInRange 40 h → ((cumsum 1024 h).low < 10000000000) × ((cumsum 1024 h).high < 10000000000)
cumsum-fits h r =
    let unit : 4 * 1024 * 20000 ≤ 4 * 1024 * 20000 = omega arith in
    let most : length h * (4 * 1024 * 20000) ≤ 40 * (4 * 1024 * 20000) = mul-le-mul r.few unit in
    let high = cumsum-le 1024 h r.tests in
    let low = (cumsum-width 1024 h).ordered in
    (omega arith, omega arith)

mark-solid : (m : Mark) → Solid (mark_byte m)
mark-solid Unmarked = record { no_space = refl; no_newline = λ e. omega arith }
mark-solid Over = record { no_space = refl; no_newline = λ e. omega arith }
mark-solid Under = record { no_space = refl; no_newline = λ e. omega arith }
mark-solid Undecided = record { no_space = refl; no_newline = λ e. omega arith }

symbol-legible : (m : Mark) → Legible (symbol 1 (mark_byte m))
symbol-legible m = record { fits = omega arith; solid = All-cons Solid (mark_byte m) [] (mark-solid m) (All-nil Solid) }

pub row-legible : (x : Tested) (earlier : List Tested) → Printable (x ∷ earlier) → All Legible (row_fields (row_of x earlier))
row-legible x earlier p =
    let h = cumsum-fits (history Hcnox (x ∷ earlier)) (p.histories Hcnox) in
    let c = cumsum-fits (history Co (x ∷ earlier)) (p.histories Co) in
    All-from_recursion Legible (row_fields (row_of x earlier)) (
      figure-legible 5 x.number (omega arith) (omega (arith, All-head Numbered x earlier p.numbers)),
      (
        figure-legible 5 x.results.hcnox (omega arith) (omega (arith, (p.histories Hcnox).tests.0)),
        (
          figure-legible 5 x.results.co (omega arith) (omega (arith, (p.histories Co).tests.0)),
          (
            figure-legible 10 (cumsum 1024 (history Hcnox (x ∷ earlier))).low (omega arith) h.0,
            (
              figure-legible 10 (cumsum 1024 (history Hcnox (x ∷ earlier))).high (omega arith) h.1,
              (
                figure-legible 10 (cumsum 1024 (history Co (x ∷ earlier))).low (omega arith) c.0,
                (
                  figure-legible 10 (cumsum 1024 (history Co (x ∷ earlier))).high (omega arith) c.1,
                  (
                    symbol-legible (mark 1024 (history Hcnox (x ∷ earlier))),
                    (
                      symbol-legible (mark 1024 (history Co (x ∷ earlier))),
                      tt,
                    ),
                  ),
                ),
              ),
            ),
          ),
        ),
      ),
    )

-- ---- of every year that could have been entered

numbers-in-range : (s : Setup) (es : List Event) → valid s es ≡ true → All Numbered (replay s es).tested
numbers-in-range s [] h = All-nil Numbered
numbers-in-range s (Engine number readings results ∷ es) h =
    let admitted = admitted-engine (replay s es) number readings results (valid-newest s (Engine number readings results) es h) in
    All-cons Numbered _ (replay s es).tested admitted.number (numbers-in-range s es (valid-before s (Engine number readings results) es h))
numbers-in-range s (Amendment standards ∷ es) h = numbers-in-range s es (valid-before s (Amendment standards) es h)
numbers-in-range s (NextPeriod ∷ es) h = numbers-in-range s es (valid-before s NextPeriod es h)
numbers-in-range s (Declaration ∷ es) h = numbers-in-range s es (valid-before s Declaration es h)
numbers-in-range s (Deletion ∷ es) h = All-drop Numbered 1 (replay s es).tested (numbers-in-range s es (valid-before s Deletion es h))

pub printable : (s : Setup) (es : List Event) → valid s es ≡ true → Printable (replay s es).tested
printable s es h = record { numbers = numbers-in-range s es h; histories = (valid-in-range s es h).histories }

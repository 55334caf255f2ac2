-- What a state carries beside the year, part by part: the number of engines, and each pollutant's figures with their ranges.
use mathlib.Core.Path.{◌≡◌, sym, ap, ◌∙◌}
use mathlib.Core.Bool.{true, false≢true}
use mathlib.Core.List.{List, [], ◌∷◌}
use Prim.Native.Nat.{ℕ, ◌+◌, ◌≤◌, ◌<◌}
use native.Mathlib.Omega.{arith}
use lib.ListN.{length, drop}
use Rattle.cumsum.specs.Marks.{marks, failed, undecided}
use Rattle.year.specs.declared.Pair.{Pair}
use Rattle.year.specs.declared.Event.TheVariants.{Engine, Deletion}
use Rattle.year.specs.Setup.{Pollutant, Hcnox, Co, of}
use Rattle.year.specs.Replay.{Progress, history, tested_in, newest_in}
use Rattle.year.specs.declared.Tested.{Tested}
use Rattle.year.proofs.Replayed.{history-length}
use Rattle.year.proofs.Ranges.{standard-le, tested-in-le, fitting, admitted-engine, after-in-range}
use Rattle.figures.specs.declared.Running.{Running}
use Rattle.figures.specs.Running.{running, RunningInRange}
use Rattle.engines.specs.Engines.{Engines, tested, EngineInRange, EnginesInRange}
use Rattle.arrayvec.specs.ArrayVec.{array_vec_len}
use Rattle.std.proofs.lemmas.List.{length-reverse}
use Rattle.progress.specs.declared.Progress.TheInside.{Inside as State}
use Rattle.progress.specs.State.{progress_of, Consistent, MayEnter}

-- the figures that a state carries for a pollutant
abbrev pub figures_of : Pollutant → State → Running
figures_of q p = of q p.figures

-- there is room for an engine: its place and numbers fit the arrays, the current period can count one more, and its results fit the figures
pub record Room (p : State) (number : ℕ) (results : Pair ℕ) : Type 0 where
  pub engine : EngineInRange p.engines number results p.standards p.period
  pub current : p.current ≤ 40
  pub figures : (q : Pollutant) → RunningInRange 1024 (figures_of q p) (of q results)

-- the newest engine can go: it is counted in the current period, and those that remain are in range
pub record Deletable (p : State) : Type 0 where
  pub current : 1 ≤ p.current
  pub rest : (e : Engines) → tested e ≡ drop 1 (tested p.engines) → EnginesInRange e 1024

-- a period whose engine is the newest has one more than without it
pub newest-counted : (period : ℕ) (xs : List Tested) → newest_in period xs ≡ true → tested_in period xs ≡ tested_in period (drop 1 xs) + 1
newest-counted period [] h = absurd (false≢true h)
newest-counted period (x ∷ xs) h = rw h (omega arith)

module _ (p : State) (c : Consistent p) where
  pub counted : length (tested p.engines) ≡ array_vec_len p.engines
  counted = length-reverse p.engines.items

  -- the same of the year that it shows
  pub as_many : (year : Progress) → progress_of p ≡ year → length year.tested ≡ array_vec_len p.engines
  as_many year is = ap (λ (y : Progress). length y.tested) (sym is) ∙ counted

  pub few_engines : array_vec_len p.engines ≤ 40
  few_engines = omega (arith, (c.histories Hcnox).few, history-length Hcnox (tested p.engines), counted)

  carried : (q : Pollutant) → figures_of q p ≡ running 1024 (history q (tested p.engines))
  carried Hcnox = c.figures.hcnox
  carried Co = c.figures.co

  -- a pollutant's figures of the year at any resolution: they are in range, and their flags are the definitions'
  module _ (k : ℕ) (q : Pollutant) (f : Running) (e : f ≡ running k (history q (tested p.engines))) where
    pub failed-is : f.failed ≡ failed (marks k (history q (tested p.engines)))
    unfolding running
    failed-is = ap (λ (g : Running). g.failed) e

    pub undecided-is : f.undecided ≡ undecided (marks k (history q (tested p.engines)))
    unfolding running
    undecided-is = ap (λ (g : Running). g.undecided) e

  -- there is room for an engine that may be entered
  pub room : (number readings : ℕ) (results : Pair ℕ) → MayEnter (Engine number readings results) (progress_of p) → Room p number results
  room number readings results h =
      let r = c.in_range h.setup in
      let a = admitted-engine (progress_of p) number readings results h.admitted in
      let place : array_vec_len p.engines < 40 = omega (arith, a.room, counted) in
      record {
        engine = record { place = place; number = a.number; results = a.results; standards = standard-le p.standards r.standards; period = r.period };
        current = omega (arith, c.current, tested-in-le p.period (tested p.engines), counted);
        figures = λ q.
            record {
              history = history q (tested p.engines);
              worked = carried q;
              in_range = record { few = omega (arith, place, history-length q (tested p.engines), counted); tests = (c.histories q).tests };
              result = a.results q;
              fine = omega arith;
            };
      }

  pub deletable : MayEnter Deletion (progress_of p) → Deletable p
  deletable h =
      let some = newest-counted p.period (tested p.engines) (fitting (progress_of p) Deletion h.admitted) in
      let r = after-in-range Deletion (progress_of p) (c.in_range h.setup) h.admitted in
      record {
        current = omega (arith, some, c.current);
        rest = λ e te. record { histories = λ q. rw te (r.histories q); fine = omega arith };
      }

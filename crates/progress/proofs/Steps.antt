-- The state after one more event: what it carries agrees with the year with that event.
use mathlib.Core.Path.{◌≡◌, refl, sym, subst}
use mathlib.Core.Bool.{Bool, true}
use mathlib.Core.List.{List, ◌∷◌}
use Prim.Native.Nat.{ℕ, ◌+◌, ◌-◌}
use native.Mathlib.Omega.{arith}
use lib.ListN.{drop}
use borrow.Author.Tests.{eq-eqb}
use Rattle.statistics.specs.declared.Test.{Test}
use Rattle.year.specs.declared.Pair.{Pair}
use Rattle.year.specs.declared.Event.{Event}
use Rattle.year.specs.declared.Event.TheVariants.{Engine, Amendment, NextPeriod, Declaration, Deletion}
use Rattle.year.specs.Replay.{after, tested_in}
use Rattle.year.specs.Ranges.{InRange}
use Rattle.year.proofs.Ranges.{after-in-range, none-in-next, fitting}
use Rattle.figures.specs.declared.Running.{Running}
use Rattle.figures.specs.Running.{running}
use Rattle.engines.specs.Engines.{Engines, tested}
use Rattle.progress.specs.declared.Progress.TheInside.{Inside as State}
use Rattle.progress.specs.State.{progress_of, Figured, Consistent, MayEnter}
use Rattle.progress.proofs.Carried.{newest-counted}

-- a state with one more event that leaves the engines
abbrev changed : State → Pair ℕ → ℕ → Bool → ℕ → State
changed p standards period declared current =
    record {
      setup = p.setup;
      standards = standards;
      period = period;
      engines = p.engines;
      stored = p.stored + 1;
      declared = declared;
      current = current;
      figures = p.figures;
    }

-- a state with one more event that changes the engines, and with them their number in the current period and the figures
abbrev with-engines : State → Engines → ℕ → Pair Running → State
with-engines p e current f =
    record {
      setup = p.setup;
      standards = p.standards;
      period = p.period;
      engines = e;
      stored = p.stored + 1;
      declared = p.declared;
      current = current;
      figures = f;
    }

module _ (p : State) (c : Consistent p) where
  -- a state that shows the year with one more event is consistent, if it has the count of its period's engines and the figures at 1,024
  stepped : (e : Event) → MayEnter e (progress_of p) → (s : State) → progress_of s ≡ after e (progress_of p)
      → s.current ≡ tested_in s.period (tested s.engines) → Figured 1024 (tested s.engines) s.figures → Consistent s
  stepped e h s is n f =
      let next = subst InRange (sym is) (after-in-range e (progress_of p) (c.in_range h.setup) h.admitted) in
      record { current = n; figures = f; histories = next.histories; in_range = λ _. next }

  pub amended : (t : Pair ℕ) → MayEnter (Amendment t) (progress_of p) → Consistent (changed p t p.period p.declared p.current)
  amended t h = stepped (Amendment t) h _ refl c.current c.figures

  pub next-period : MayEnter NextPeriod (progress_of p) → Consistent (changed p p.standards (p.period + 1) p.declared 0)
  next-period h = stepped NextPeriod h _ refl (sym (none-in-next p.period (tested p.engines) (c.in_range h.setup).periods)) c.figures

  pub declared : MayEnter Declaration (progress_of p) → Consistent (changed p p.standards p.period true p.current)
  declared h = stepped Declaration h _ refl c.current c.figures

  -- one engine less: the newest, which was of the current period
  pub deleted : (e : Engines) (f : Pair Running) → MayEnter Deletion (progress_of p) → tested e ≡ drop 1 (tested p.engines) → Figured 1024 (tested e) f
      → Consistent (with-engines p e (p.current - 1) f)
  deleted e f h te figured =
      let fewer = newest-counted p.period (tested p.engines) (fitting (progress_of p) Deletion h.admitted) in
      stepped Deletion h _ (rw te) (rw te (omega (arith, fewer, c.current))) figured

  -- one more engine: it is among the tested, and its results are added to the figures
  pub engine : (number readings : ℕ) (results : Pair ℕ) (e : Engines) (f : Pair Running) → MayEnter (Engine number readings results) (progress_of p)
      → tested e ≡ record { number = number; results = results; standards = p.standards; period = p.period } ∷ tested p.engines
      → ((xs : List Test) → p.figures.hcnox ≡ running 1024 xs → f.hcnox ≡ running 1024 (record { result = results.hcnox; standard = p.standards.hcnox } ∷ xs))
      → ((xs : List Test) → p.figures.co ≡ running 1024 xs → f.co ≡ running 1024 (record { result = results.co; standard = p.standards.co } ∷ xs))
      → Consistent (with-engines p e (p.current + 1) f)
  engine number readings results e f h te eh eo =
      stepped (Engine number readings results) h _ (rw te) (rw (te, eq-eqb p.period p.period refl) (omega (arith, c.current)))
      (record { hcnox = rw te (eh _ c.figures.hcnox); co = rw te (eo _ c.figures.co) })

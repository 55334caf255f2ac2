-- Every list of events that could have been entered keeps the year in its ranges.
use mathlib.Core.Path.{◌≡◌, refl}
use mathlib.Core.Bool.{Bool, true, false, not, ◌&&◌, ◌||◌, and-eq-true_iff}
use mathlib.Core.List.{List, [], ◌∷◌}
use Prim.Native.Nat.{ℕ, ◌+◌, ◌%◌, ◌≤◌, ◌<◌}
use native.Mathlib.Nat.{le_refl}
use native.Mathlib.Omega.{arith}
use lib.Dec.{leb, ltb, eqb}
use lib.ListN.{length, drop}
use borrow.Author.Tests.{leb-true, leb-false, not-true, ne_eqb}
use Rattle.conditions.specs.Ranges.{within}
use Rattle.conditions.proofs.Tests.{by-test, or-false}
use Rattle.rounding.specs.Result.{count_in_range, result_in_range}
use Rattle.statistics.specs.Ranges.{HistoryInRange}
use Rattle.year.specs.declared.Pair.{Pair}
use Rattle.year.specs.declared.Setup.{Setup}
use Rattle.year.specs.declared.Event.{Event}
use Rattle.year.specs.declared.Event.TheVariants.{Engine, Amendment, NextPeriod, Declaration, Deletion}
use Rattle.year.specs.Setup.{Pollutant, Hcnox, Co, of, production_in_range, standard_in_range, standards_in_range, factors_in_range, setup_in_range}
use Rattle.year.specs.Periods.{periods}
use Rattle.year.specs.Replay.{Progress, start, after, replay, history, tested_in, short, is_tested}
use Rattle.year.specs.declared.Tested.{Tested}
use Rattle.year.specs.Admissible.{closed, events_full, engines_full, number_in_range, results_in_range, last_period, fits, admissible, valid}
use Rattle.year.specs.Ranges.{PeriodsUpTo, InRange}
use Rattle.year.proofs.Valid.{valid-before, valid-newest}
use Rattle.year.proofs.Replayed.{history-length}

-- the parts of a conjunction
left : (a b : Bool) → (a && b) ≡ true → a ≡ true
left a b h = ((and-eq-true_iff a b).0 h).0

right : (a b : Bool) → (a && b) ≡ true → b ≡ true
right a b h = ((and-eq-true_iff a b).0 h).1

-- if both pollutants pass a test, each does
pub both_of : (test : Pollutant → Bool) → (test Hcnox && test Co) ≡ true → (q : Pollutant) → test q ≡ true
both_of test h Hcnox = left (test Hcnox) (test Co) h
both_of test h Co = right (test Hcnox) (test Co) h

within-le : (low high x : ℕ) → within low high x ≡ true → x ≤ high
within-le low high x h = leb-true x high (right (leb low x) (leb x high) h)

-- the five parts of a conjunction
conjuncts : (a b c d e : Bool) → (a && b && c && d && e) ≡ true → (a ≡ true) × (b ≡ true) × (c ≡ true) × (d ≡ true) × (e ≡ true)
conjuncts a b c d e h =
    let w = (and-eq-true_iff (a && b && c && d) e).0 h in
    let x = (and-eq-true_iff (a && b && c) d).0 w.0 in
    let y = (and-eq-true_iff (a && b) c).0 x.0 in
    let z = (and-eq-true_iff a b).0 y.0 in
    (z.0, z.1, y.1, x.1, w.1)

pub standard-le : (t : Pair ℕ) → standards_in_range t ≡ true → (q : Pollutant) → of q t ≤ 20000
standard-le t h q =
    let x = of q t in
    within-le 10 20000 x (left (within 10 20000 x) (eqb (x % 10) 0) (both_of (λ q. standard_in_range (of q t)) h q))

pub periods-le : (p d : ℕ) → periods p d ≤ 4
unfolding periods
periods-le p d =
    by-test (λ n. n ≤ 4) (ltb p 1600) _ _ (λ _. omega arith) (λ _. by-test (λ n. n ≤ 4) (leb d 120) _ _ (λ _. omega arith)
    (λ _. by-test (λ n. n ≤ 4) (leb d 210) _ _ (λ _. omega arith) (λ _. by-test (λ n. n ≤ 4) (leb d 300) 3 4 (λ _. omega arith) (λ _. omega arith))))

periods-later : (n : ℕ) (xs : List Tested) → PeriodsUpTo n xs → PeriodsUpTo (n + 1) xs
periods-later n [] r = tt
periods-later n (x ∷ xs) r = (omega (arith, r.0), periods-later n xs r.1)

-- a period has at most as many engines as the year
pub tested-in-le : (n : ℕ) (xs : List Tested) → tested_in n xs ≤ length xs
tested-in-le n [] = omega arith
tested-in-le n (x ∷ xs) =
    by-test (λ m. m + tested_in n xs ≤ length (x ∷ xs)) (eqb x.period n) 1 0 (λ _. omega (arith, tested-in-le n xs)) (λ _. omega (arith, tested-in-le n xs))

-- a new period has no engines yet
pub none-in-next : (n : ℕ) (xs : List Tested) → PeriodsUpTo n xs → tested_in (n + 1) xs ≡ 0
none-in-next n [] r = refl
none-in-next n (x ∷ xs) r = rw (ne_eqb x.period (n + 1) (λ e. absurd (omega (arith, r.0))), none-in-next n xs r.1)

pub start-in-range : (s : Setup) → setup_in_range s ≡ true → InRange (start s)
start-in-range s h =
    record {
      setup = h;
      standards = right (production_in_range s) (standards_in_range s.standards) (left (production_in_range s && standards_in_range s.standards) (factors_in_range s) h);
      period = omega arith;
      periods = tt;
      events = omega arith;
      histories = λ q. record { few = omega arith; tests = tt };
    }

-- an event is admissible exactly if the year is open, a slot is free, and the event fits
pub admitted-by : (p : Progress) (e : Event) → closed p ≡ false → events_full p ≡ false → fits p e ≡ true → admissible p e ≡ true
unfolding admissible
admitted-by p e running room fit = rw (running, room, fit)

module _ (p : Progress) (e : Event) (h : admissible p e ≡ true) where
  pub open-year : (closed p ≡ false) × (events_full p ≡ false)
  unfolding admissible
  open-year =
      let both = (and-eq-true_iff (not (closed p)) (not (events_full p))).0 (left (not (closed p) && not (events_full p)) (fits p e) h) in
      (not-true (closed p) both.0, not-true (events_full p) both.1)

  pub not_full : p.stored < 64
  not_full = leb-false 64 p.stored open-year.1

  pub fitting : fits p e ≡ true
  unfolding admissible
  fitting = right (not (closed p) && not (events_full p)) (fits p e) h

-- the bounds of an engine that could be entered
pub record AdmittedEngine (p : Progress) (n r : ℕ) (xs : Pair ℕ) : Type 0 where
  pub number : n ≤ 65535
  pub readings : r ≤ 3
  pub results : (q : Pollutant) → of q xs ≤ 20000
  pub room : length p.tested < 40

pub admitted-engine : (p : Progress) (n r : ℕ) (xs : Pair ℕ) → admissible p (Engine n r xs) ≡ true → AdmittedEngine p n r xs
admitted-engine p n r xs h =
    let t = conjuncts (number_in_range n) (not (is_tested n p.tested)) (count_in_range r) (results_in_range xs) (not (engines_full p)) (fitting p (Engine n r xs) h) in
    record {
      number = within-le 1 65535 n t.0;
      readings = within-le 1 3 r t.2;
      results = λ q. leb-true _ _ (both_of (λ q. result_in_range (of q xs)) t.3 q);
      room = leb-false 40 _ (not-true (engines_full p) t.4);
    }

pub period-room : (p : Progress) → admissible p NextPeriod ≡ true → p.period < periods p.setup.volume p.setup.days
period-room p h = leb-false _ p.period (or-false (last_period p) (short p) (not-true (last_period p || short p) (fitting p NextPeriod h))).0

-- without the newest engine
periods-fewer : (n : ℕ) (xs : List Tested) → PeriodsUpTo n xs → PeriodsUpTo n (drop 1 xs)
periods-fewer n [] r = r
periods-fewer n (x ∷ xs) r = r.1

history-fewer : (q : Pollutant) (xs : List Tested) → HistoryInRange 40 (history q xs) → HistoryInRange 40 (history q (drop 1 xs))
history-fewer q [] r = r
history-fewer q (x ∷ xs) r = record { few = omega (arith, r.few); tests = r.tests.2 }

pub after-in-range : (e : Event) (p : Progress) → InRange p → admissible p e ≡ true → InRange (after e p)
after-in-range (Engine number readings results) p r h =
    record {
      setup = r.setup;
      standards = r.standards;
      period = r.period;
      periods = (le_refl p.period, r.periods);
      events = omega (arith, not_full p (Engine number readings results) h);
      histories = λ q.
          record {
            few = omega (arith, (admitted-engine p number readings results h).room, history-length q p.tested);
            tests = ((admitted-engine p number readings results h).results q, standard-le p.standards r.standards q, (r.histories q).tests);
          };
    }
after-in-range (Amendment standards) p r h =
    record { setup = r.setup; standards = fitting p (Amendment standards) h; period = r.period; periods = r.periods; events = omega (arith, not_full p (Amendment standards) h); histories = r.histories }
after-in-range NextPeriod p r h =
    record {
      setup = r.setup;
      standards = r.standards;
      period = omega (arith, period-room p h, periods-le p.setup.volume p.setup.days);
      periods = periods-later p.period p.tested r.periods;
      events = omega (arith, not_full p NextPeriod h);
      histories = r.histories;
    }
after-in-range Declaration p r h =
    record { setup = r.setup; standards = r.standards; period = r.period; periods = r.periods; events = omega (arith, not_full p Declaration h); histories = r.histories }
after-in-range Deletion p r h =
    record {
      setup = r.setup;
      standards = r.standards;
      period = r.period;
      periods = periods-fewer p.period p.tested r.periods;
      events = omega (arith, not_full p Deletion h);
      histories = λ q. history-fewer q p.tested (r.histories q);
    }

pub valid-in-range : (s : Setup) (es : List Event) → valid s es ≡ true → InRange (replay s es)
valid-in-range s [] h = start-in-range s h
valid-in-range s (e ∷ es) h = after-in-range e (replay s es) (valid-in-range s es (valid-before s e es h)) (valid-newest s e es h)

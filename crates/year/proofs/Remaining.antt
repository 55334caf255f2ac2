-- The events that remain could have been entered by themselves: no deletion is among them, and each was admissible after those before it.
use mathlib.Core.Path.{◌≡◌, refl, sym, ap, ◌∙◌}
use mathlib.Core.Bool.{true, false, true≢false, false≢true}
use mathlib.Core.List.{List, [], ◌∷◌}
use Prim.Native.Nat.{ℕ, ◌+◌, ◌≤◌}
use native.Mathlib.Omega.{arith}
use lib.ListN.{length, drop}
use borrow.Author.Tests.{lt-leb, ne_eqb}
use Rattle.conditions.proofs.Tests.{by-test, or-false}
use Rattle.cumsum.specs.Marks.{mark, marks, both_over, consecutive, failed}
use Rattle.year.specs.declared.Setup.{Setup}
use Rattle.year.specs.declared.Event.{Event}
use Rattle.year.specs.declared.Event.TheVariants.{Engine, Amendment, NextPeriod, Declaration, Deletion}
use Rattle.year.specs.Setup.{Pollutant, Hcnox, Co}
use Rattle.year.specs.Replay.{Progress, after, replay, history, newest_in}
use Rattle.year.specs.declared.Tested.{Tested}
use Rattle.year.specs.Verdict.{verdict}
use Rattle.year.specs.Status.{status, year_marks}
use Rattle.year.specs.Admissible.{closed, fits, admissible, valid}
use Rattle.year.specs.Deletions.{is_engine, is_deletion, has_deletion, without_newest, remaining, storing, Deletions}
use Rattle.year.specs.Ranges.{PeriodsUpTo}
use Rattle.year.proofs.Replayed.{replay-stored}
use Rattle.year.proofs.Valid.{valid-before, valid-newest, valid-next}
use Rattle.year.proofs.Ranges.{admitted-by, open-year, not_full, fitting, valid-in-range}
use Rattle.year.proofs.Closed.{closed_is}
use Rattle.year.proofs.Deletions.{is-deletion, storing-status, deleted, of-remaining}

-- ---- no deletion remains, and there are no more events than before

none-without : (es : List Event) → has_deletion es ≡ false → has_deletion (without_newest es) ≡ false
none-without [] h = refl
none-without (e ∷ es) h =
    let parts = or-false (is_deletion e) (has_deletion es) h in
    by-test (λ (l : List Event). has_deletion l ≡ false) (is_engine e) es (e ∷ without_newest es) (λ _. parts.1) (λ _. rw parts.0 (none-without es parts.1))

pub none-remains : (es : List Event) → has_deletion (remaining es) ≡ false
none-remains [] = refl
none-remains (e ∷ es) =
    by-test (λ (l : List Event). has_deletion l ≡ false) (is_deletion e) (without_newest (remaining es)) (e ∷ remaining es)
    (λ _. none-without (remaining es) (none-remains es)) (λ n. rw n (none-remains es))

length_without : (es : List Event) → length (without_newest es) ≤ length es
length_without [] = omega arith
length_without (e ∷ es) =
    by-test (λ (l : List Event). length l ≤ length (e ∷ es)) (is_engine e) es (e ∷ without_newest es) (λ _. omega arith) (λ _. omega (arith, length_without es))

length-remaining : (es : List Event) → length (remaining es) ≤ length es
length-remaining [] = omega arith
length-remaining (e ∷ es) =
    by-test (λ (l : List Event). length l ≤ length (e ∷ es)) (is_deletion e) (without_newest (remaining es)) (e ∷ remaining es)
    (λ _. omega (arith, length-remaining es, length_without (remaining es))) (λ _. omega (arith, length-remaining es))

-- ---- a year that takes events still takes them without its newest engine

fewer-failed : (q : Pollutant) (xs : List Tested) → failed (marks 1024 (history q xs)) ≡ false → failed (marks 1024 (history q (drop 1 xs))) ≡ false
unfolding failed
fewer-failed q [] h = h
fewer-failed q (x ∷ []) h = refl
fewer-failed q (x ∷ y ∷ xs) h =
    (or-false (both_over (mark 1024 (history q (x ∷ y ∷ xs))) (mark 1024 (history q (y ∷ xs)))) (consecutive both_over (marks 1024 (history q (y ∷ xs)))) h).1

open-fewer : (p : Progress) → closed p ≡ false → closed (after Deletion p) ≡ false
open-fewer p h =
    let a = or-false p.declared _ (sym (closed_is p) ∙ h) in
    let b = or-false (failed (marks 1024 (history Hcnox p.tested))) (failed (marks 1024 (history Co p.tested))) a.1 in
    closed_is (after Deletion p) ∙ rw (a.0, fewer-failed Hcnox p.tested b.0, fewer-failed Co p.tested b.1)

-- ---- how many events are stored matters only to "64 events are stored"

pub storing-closed : (n : ℕ) (p : Progress) → closed (storing n p) ≡ closed p
unfolding closed verdict
storing-closed n p = refl

storing-fits : (n : ℕ) (p : Progress) (e : Event) → fits (storing n p) e ≡ fits p e
storing-fits n p (Engine number readings results) = refl
storing-fits n p (Amendment standards) = refl
storing-fits n p NextPeriod = refl
storing-fits n p Declaration = refl
storing-fits n p Deletion = refl

fewer-stored : (n : ℕ) (p : Progress) (e : Event) → p.stored ≤ n → admissible (storing n p) e ≡ true → admissible p e ≡ true
fewer-stored n p e le h =
    admitted-by p e (sym (storing-closed n p) ∙ (open-year (storing n p) e h).0) (lt-leb 64 p.stored (omega (arith, not_full (storing n p) e h)))
    (sym (storing-fits n p e) ∙ fitting (storing n p) e h)

-- ---- so the remaining events could have been entered

-- the newest engine is not of a period to come
not-later : (n : ℕ) (xs : List Tested) → PeriodsUpTo n xs → newest_in (n + 1) xs ≡ false
not-later n [] r = refl
not-later n (x ∷ xs) r = ne_eqb x.period (n + 1) (λ e. absurd (omega (arith, r.0)))

module _ (s : Setup) where
  -- the events of an open year without its newest engine, which is of the current period: only amendments came after that engine
  without-valid : (es : List Event) → has_deletion es ≡ false → valid s es ≡ true → newest_in (replay s es).period (replay s es).tested ≡ true
      → closed (replay s es) ≡ false → valid s (without_newest es) ≡ true
  without-valid [] none v newest still = absurd (false≢true newest)
  without-valid (Engine number readings results ∷ es) none v newest still = valid-before s (Engine number readings results) es v
  without-valid (Amendment standards ∷ es) none v newest still =
      let e = Amendment standards in
      let p = replay s es in
      let a = valid-newest s e es v in
      let o = (open-year p e a).0 in
      let fewer = replay s (without_newest es) in
      let same : closed fewer ≡ closed (after Deletion p)
      = sym (storing-closed 0 fewer) ∙ ap closed (sym (deleted s 0 es)) ∙ storing-closed 0 (after Deletion p) in
      valid-next s e (without_newest es) (without-valid es none (valid-before s e es v) newest o)
      (admitted-by fewer e (same ∙ open-fewer p o)
      (lt-leb 64 fewer.stored (omega (arith, not_full p e a, replay-stored s es, replay-stored s (without_newest es), length_without es))) (fitting p e a))
  without-valid (NextPeriod ∷ es) none v newest still =
      let p = replay s es in
      absurd (false≢true (sym (not-later p.period p.tested (valid-in-range s es (valid-before s NextPeriod es v)).periods) ∙ newest))
  without-valid (Declaration ∷ es) none v newest still = absurd (true≢false (sym (closed_is (replay s (Declaration ∷ es))) ∙ still))
  without-valid (Deletion ∷ es) none v newest still = absurd (true≢false none)

  -- what is admissible is so among the remaining events
  next-admitted : (e : Event) (es : List Event) → admissible (replay s es) e ≡ true → admissible (replay s (remaining es)) e ≡ true
  next-admitted e es a =
      fewer-stored (length es) (replay s (remaining es)) e (omega (arith, replay-stored s (remaining es), length-remaining es))
      (sym (ap (λ (p : Progress). admissible p e) (of-remaining s es)) ∙ a)

  keeps : (e : Event) (es : List Event) → valid s (e ∷ es) ≡ true → valid s (remaining es) ≡ true → valid s (e ∷ remaining es) ≡ true
  keeps e es v w = valid-next s e (remaining es) w (next-admitted e es (valid-newest s e es v))

  pub remaining-valid : (es : List Event) → valid s es ≡ true → valid s (remaining es) ≡ true
  remaining-valid [] v = v
  remaining-valid (e ∷ es) v =
      let w = remaining-valid es (valid-before s e es v) in
      by-test (λ (l : List Event). valid s l ≡ true) (is_deletion e) (without_newest (remaining es)) (e ∷ remaining es)
      (λ h. struck w (next-admitted Deletion es (rw (← is-deletion e h) (valid-newest s e es v)))) (λ _. keeps e es v w)
    where
      struck : valid s (remaining es) ≡ true → admissible (replay s (remaining es)) Deletion ≡ true → valid s (without_newest (remaining es)) ≡ true
      struck w a =
          let p = replay s (remaining es) in
          without-valid (remaining es) (none-remains es) w (fitting p Deletion a) (open-year p Deletion a).0

pub deletions : (s : Setup) (es : List Event) → Deletions s es
deletions s es =
    record {
      year = of-remaining s es;
      status = λ k. ap (status k) (of-remaining s es) ∙ storing-status (length es) (replay s (remaining es)) k;
      marks = λ k. ap (year_marks k) (of-remaining s es);
      none = none-remains es;
      entered = remaining-valid s es;
    }

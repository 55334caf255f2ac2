-- A year with deletions is the year of its remaining events.
use mathlib.Core.Path.{◌≡◌, refl, ap, ◌∙◌}
use mathlib.Core.Bool.{true, false, true≢false, false≢true}
use mathlib.Core.List.{List, [], ◌∷◌}
use Prim.Native.Nat.{ℕ, ◌+◌}
use native.Mathlib.Omega.{arith}
use lib.ListN.{length}
use Rattle.conditions.proofs.Tests.{by-test}
use Rattle.year.specs.declared.Setup.{Setup}
use Rattle.year.specs.declared.Event.{Event}
use Rattle.year.specs.declared.Event.TheVariants.{Engine, Amendment, NextPeriod, Declaration, Deletion}
use Rattle.year.specs.Replay.{Progress, after, replay}
use Rattle.year.specs.Verdict.{verdict}
use Rattle.year.specs.Status.{status}
use Rattle.year.specs.Deletions.{is_engine, is_deletion, without_newest, remaining, storing}

-- an event is a deletion only if it is this one
pub is-deletion : (e : Event) → is_deletion e ≡ true → e ≡ Deletion
is-deletion (Engine number readings results) h = absurd (false≢true h)
is-deletion (Amendment standards) h = absurd (false≢true h)
is-deletion NextPeriod h = absurd (false≢true h)
is-deletion Declaration h = absurd (false≢true h)
is-deletion Deletion h = refl

module _ (n : ℕ) (p : Progress) where
  -- how many events are stored is no figure
  pub storing-status : (k : ℕ) → status k (storing n p) ≡ status k p
  unfolding verdict
  storing-status k = refl

  -- nor does it change what another event does
  storing-after : (e : Event) → after e (storing n p) ≡ storing (n + 1) (after e p)
  storing-after (Engine number readings results) = refl
  storing-after (Amendment standards) = refl
  storing-after NextPeriod = refl
  storing-after Declaration = refl
  storing-after Deletion = refl

  -- a deletion undoes an engine, and passes any other event
  engine-undone : (e : Event) → is_engine e ≡ true → storing n (after Deletion (after e p)) ≡ storing n p
  engine-undone (Engine number readings results) h = refl
  engine-undone (Amendment standards) h = absurd (false≢true h)
  engine-undone NextPeriod h = absurd (false≢true h)
  engine-undone Declaration h = absurd (false≢true h)
  engine-undone Deletion h = absurd (false≢true h)

  other-passed : (e : Event) → is_engine e ≡ false → storing n (after Deletion (after e p)) ≡ storing n (after e (storing 0 (after Deletion p)))
  other-passed (Engine number readings results) h = absurd (true≢false h)
  other-passed (Amendment standards) h = refl
  other-passed NextPeriod h = refl
  other-passed Declaration h = refl
  other-passed Deletion h = refl

module _ (s : Setup) where
  -- a deletion leaves the year of the events without the newest engine
  pub deleted : (n : ℕ) (es : List Event) → storing n (after Deletion (replay s es)) ≡ storing n (replay s (without_newest es))
  deleted n [] = refl
  deleted n (e ∷ es) =
      by-test (λ (l : List Event). storing n (after Deletion (replay s (e ∷ es))) ≡ storing n (replay s l)) (is_engine e) es (e ∷ without_newest es)
      (engine-undone n (replay s es) e)
      (λ h. other-passed n (replay s es) e h ∙ ap (λ (p : Progress). storing n (after e p)) (deleted 0 es) ∙ ap (storing n) (storing-after 0 (replay s (without_newest es)) e))

  next : (e : Event) (es fs : List Event) → replay s es ≡ storing (length es) (replay s fs) → replay s (e ∷ es) ≡ storing (length (e ∷ es)) (after e (replay s fs))
  next e es fs h =
      let n : length es + 1 ≡ length (e ∷ es) = omega arith in
      ap (after e) h ∙ storing-after (length es) (replay s fs) e ∙ ap (λ m. storing m (after e (replay s fs))) n

  pub of-remaining : (es : List Event) → replay s es ≡ storing (length es) (replay s (remaining es))
  of-remaining [] = refl
  of-remaining (e ∷ es) =
      let more = next e es (remaining es) (of-remaining es) in
      by-test (λ (l : List Event). replay s (e ∷ es) ≡ storing (length (e ∷ es)) (replay s l)) (is_deletion e) (without_newest (remaining es)) (e ∷ remaining es)
      (λ h. more ∙ rw (is-deletion e h) (deleted (length (e ∷ es)) (remaining es))) (λ _. more)

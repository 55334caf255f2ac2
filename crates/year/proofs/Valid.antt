-- A list of events could have been entered exactly if it could have been without its newest event, and that event was admissible then.
use mathlib.Core.Path.{◌≡◌}
use mathlib.Core.Bool.{true, and-eq-true_iff}
use mathlib.Core.List.{List, ◌∷◌}
use Rattle.year.specs.declared.Setup.{Setup}
use Rattle.year.specs.declared.Event.{Event}
use Rattle.year.specs.Replay.{replay}
use Rattle.year.specs.Admissible.{admissible, valid}

module _ (s : Setup) (e : Event) (es : List Event) where
  pub valid-before : valid s (e ∷ es) ≡ true → valid s es ≡ true
  valid-before h = ((and-eq-true_iff (valid s es) (admissible (replay s es) e)).0 h).0

  pub valid-newest : valid s (e ∷ es) ≡ true → admissible (replay s es) e ≡ true
  valid-newest h = ((and-eq-true_iff (valid s es) (admissible (replay s es) e)).0 h).1

  pub valid-next : valid s es ≡ true → admissible (replay s es) e ≡ true → valid s (e ∷ es) ≡ true
  valid-next h a = (and-eq-true_iff (valid s es) (admissible (replay s es) e)).1 (h, a)

-- What replay keeps of a setup and its events: the setup, how many events there are, and each engine in both histories.
use mathlib.Core.Path.{◌≡◌, refl, ap}
use mathlib.Core.List.{List, [], ◌∷◌}
use Prim.Native.Nat.{suc}
use native.Mathlib.Omega.{arith}
use lib.ListN.{length}
use Rattle.year.specs.declared.Setup.{Setup}
use Rattle.year.specs.declared.Event.{Event}
use Rattle.year.specs.Setup.{Pollutant}
use Rattle.year.specs.Replay.{replay, history}
use Rattle.year.specs.declared.Tested.{Tested}

pub replay-setup : (s : Setup) (es : List Event) → (replay s es).setup ≡ s
replay-setup s [] = refl
replay-setup s (e ∷ es) = replay-setup s es

pub replay-stored : (s : Setup) (es : List Event) → (replay s es).stored ≡ length es
replay-stored s [] = refl
replay-stored s (e ∷ es) = omega (arith, replay-stored s es)

pub history-length : (q : Pollutant) (xs : List Tested) → length (history q xs) ≡ length xs
history-length q [] = refl
history-length q (x ∷ xs) = ap suc (history-length q xs)

-- What one more event leaves unchanged. "An amendment alters no N, mark or verdict already worked": every figure stays, at every resolution. One more
-- engine adds its two marks at the end and changes no other mark.
use mathlib.Core.Path.{◌≡◌, refl}
use mathlib.Core.List.{List, [], ◌∷◌, ◌++◌}
use Prim.Native.Nat.{ℕ, ◌*◌}
use native.Mathlib.Omega.{arith}
use lib.ListN.{length, length-append, length-map}
use Rattle.cumsum.specs.Marks.{mark}
use Rattle.year.specs.declared.Pair.{Pair}
use Rattle.year.specs.declared.Event.TheVariants.{Amendment}
use Rattle.year.specs.Setup.{Pollutant}
use Rattle.year.specs.Replay.{Progress, after, history}
use Rattle.year.specs.declared.Tested.{Tested}
use Rattle.year.specs.Verdict.{verdict}
use Rattle.year.specs.Status.{status, newest_marks, printed_marks, year_marks}

module _ (k : ℕ) (standards : Pair ℕ) (p : Progress) where
  pub amended-status : status k (after (Amendment standards) p) ≡ status k p
  unfolding verdict
  amended-status = refl

  pub amended-marks : year_marks k (after (Amendment standards) p) ≡ year_marks k p
  amended-marks = refl

pub marks-next : (qs : List Pollutant) (k : ℕ) (x : Tested) (xs : List Tested) → printed_marks qs k (x ∷ xs) ≡ printed_marks qs k xs ++ newest_marks qs k (x ∷ xs)
marks-next qs k x xs = refl

-- a mark is printed for each engine and judged pollutant
pub printed-length : (qs : List Pollutant) (k : ℕ) (xs : List Tested) → length (printed_marks qs k xs) ≡ length qs * length xs
printed-length qs k [] = omega arith
printed-length qs k (x ∷ xs) =
    rw (length-append (printed_marks qs k xs) (newest_marks qs k (x ∷ xs)), length-map qs (λ q. mark k (history q (x ∷ xs)))) (omega (arith, printed-length qs k xs))

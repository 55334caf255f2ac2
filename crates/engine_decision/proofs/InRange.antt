-- A test of every reading of a list, one after another.
use Rattle.std.proofs.Common.{◌≡◌, refl, ap, List, [], ◌∷◌, ℕ, ◌&&◌}
use Rattle.std.specs.List.{list_all}
use Rattle.rounding.specs.Result.{reading_in_range}
use Rattle.reference.specs.Refusals.{all_in_range}

pub every_in_range : (readings : List ℕ) → all_in_range readings ≡ list_all reading_in_range readings
every_in_range [] = refl
every_in_range (x ∷ xs) = ap (λ rest. reading_in_range x && rest) (every_in_range xs)

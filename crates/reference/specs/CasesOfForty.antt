-- Worked cases of refusal 14, "Forty engines are stored and another comes": a forty-first engine, and the fortieth.
use Rattle.std.specs.Prelude.{◌≡◌, [], ◌∷◌}
use Rattle.year.specs.Cases.{engines_to}
use Rattle.reference.specs.Refusals.{refusal}
use Rattle.reference.specs.Cases.{year_of, entering}

pub record CasesOfForty : Type 0 where
  pub engine_of_41 : refusal 544 (entering 41 (1 ∷ []) (1 ∷ [])) (year_of (engines_to 40)) ≡ 14
  pub engine_of_40 : refusal 544 (entering 40 (1 ∷ []) (1 ∷ [])) (year_of (engines_to 39)) ≡ 0

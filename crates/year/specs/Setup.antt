-- Document 01, "The year that a book holds": one family, one model year, two pollutants; and the ranges of a setup.
use Rattle.std.specs.Prelude.{Bool, true, false, ◌&&◌, ◌||◌, List, [], ◌∷◌, ℕ, ◌%◌, eqb, get_or}
use Rattle.conditions.specs.Ranges.{within}
use Rattle.rounding.specs.declared.Factor.{Factor}
use Rattle.rounding.specs.Result.{factor_in_range}
use Rattle.year.specs.declared.Pair.{Pair}
use Rattle.year.specs.declared.Setup.{Setup}

-- "two pollutants: HC+NOx and CO"
pub data Pollutant : Type 0 where
  Hcnox : Pollutant
  Co : Pollutant

-- a pollutant's part of a pair, and of a setup's factors
module _ {A : Type 0} where
  abbrev pub of : Pollutant → Pair A → A
  of Hcnox pair = pair.hcnox
  of Co pair = pair.co

abbrev pub factor_of : Pollutant → Setup → Factor
factor_of q setup = of q setup.factors

-- the setup of eight numbers: P, D, the two standards, and the kind and value of each factor
abbrev pub setup_of : List ℕ → Setup
setup_of numbers =
    record {
      volume = get_or numbers 0 0;
      days = get_or numbers 1 0;
      standards = record { hcnox = get_or numbers 2 0; co = get_or numbers 3 0 };
      factors =
          record {
            hcnox = record { kind = get_or numbers 4 0; value = get_or numbers 5 0 };
            co = record { kind = get_or numbers 6 0; value = get_or numbers 7 0 };
          };
    }

-- both pollutants pass a test
abbrev pub both : (Pollutant → Bool) → Bool
both test = test Hcnox && test Co

-- every pollutant of a list passes a test; for `some`, at least one does
abbrev pub every : (Pollutant → Bool) → List Pollutant → Bool
every test [] = true
every test (q ∷ []) = test q
every test (q ∷ r ∷ qs) = test q && every test (r ∷ qs)

abbrev pub some : (Pollutant → Bool) → List Pollutant → Bool
some test [] = false
some test (q ∷ []) = test q
some test (q ∷ r ∷ qs) = test q || some test (r ∷ qs)

-- the judged pollutants, in the order in which their marks are listed
abbrev pub judged : List Pollutant
judged = Hcnox ∷ Co ∷ []

-- "Standards are whole result units, multiples of ten, 10 to 20,000."
abbrev pub standard_in_range : ℕ → Bool
standard_in_range t = within 10 20000 t && eqb (t % 10) 0

abbrev pub standards_in_range : Pair ℕ → Bool
standards_in_range standards = both (λ q. standard_in_range (of q standards))

-- "Projected volume P is 1 to 99,999,999, production days D 1 to 366." (document 01, "Periods")
abbrev pub production_in_range : Setup → Bool
production_in_range setup = within 1 99999999 setup.volume && within 1 366 setup.days

abbrev pub factors_in_range : Setup → Bool
factors_in_range setup = both (λ q. factor_in_range (factor_of q setup))

abbrev pub setup_in_range : Setup → Bool
setup_in_range setup = production_in_range setup && standards_in_range setup.standards && factors_in_range setup

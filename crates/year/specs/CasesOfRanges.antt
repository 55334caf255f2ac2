-- The ends of every range of a setup and of an event, and of the periods (document 01, "The year that a book holds", "Periods", "The book"): the last number in
-- range, and the next, which is out of range.
use Rattle.std.specs.Prelude.{◌≡◌, true, false, List, [], ◌∷◌, map, ℕ, replicate}
use Rattle.rounding.specs.declared.Factor.{Factor}
use Rattle.rounding.specs.Cases.{added, no_factor, multiplied}
use Rattle.year.specs.declared.Setup.{Setup}
use Rattle.year.specs.declared.Event.{Event}
use Rattle.year.specs.declared.Event.TheVariants.{Engine, Amendment, NextPeriod}
use Rattle.year.specs.Setup.{standards_in_range, setup_in_range}
use Rattle.year.specs.Periods.{periods, needs}
use Rattle.year.specs.Replay.{replay}
use Rattle.year.specs.Admissible.{events_full, engines_full, number_in_range, results_in_range, last_period, fits}
use Rattle.year.specs.Cases.{pair, setup_of, engine, engines_to}

-- a setup with this volume and these days, and one with these factors
abbrev producing : ℕ → ℕ → Setup
producing volume days = record { volume = volume; days = days; standards = pair 800 6100; factors = record { hcnox = no_factor; co = no_factor } }

abbrev factoring : Factor → Factor → Setup
factoring hcnox co = record { volume = 5000; days = 365; standards = pair 800 6100; factors = record { hcnox = hcnox; co = co } }

-- two engines in the first period, then the second period begun
abbrev to_period_2 : List Event
to_period_2 = NextPeriod ∷ engine 2 800 ∷ engine 1 800 ∷ []

pub record CasesOfRanges : Type 0 where
  -- "Projected volume P is 1 to 99,999,999, production days D 1 to 366."
  pub volumes : map (λ (p : ℕ). setup_in_range (producing p 365)) (0 ∷ 1 ∷ 99999999 ∷ 100000000 ∷ []) ≡ false ∷ true ∷ true ∷ false ∷ []
  pub days : map (λ (d : ℕ). setup_in_range (producing 5000 d)) (0 ∷ 1 ∷ 366 ∷ 367 ∷ []) ≡ false ∷ true ∷ true ∷ false ∷ []
  -- "Standards are whole result units, multiples of ten, 10 to 20,000": for each pollutant
  pub hcnox_standards : map (λ (t : ℕ). standards_in_range (pair t 6100)) (0 ∷ 10 ∷ 15 ∷ 20000 ∷ 20010 ∷ []) ≡ false ∷ true ∷ false ∷ true ∷ false ∷ []
  pub co_standards : map (λ (t : ℕ). standards_in_range (pair 800 t)) (0 ∷ 10 ∷ 15 ∷ 20000 ∷ 20010 ∷ []) ≡ false ∷ true ∷ false ∷ true ∷ false ∷ []
  pub setup_standards : setup_in_range (setup_of 5000 15) ≡ false
  -- "Kind 0 adds 0 to 60,000; kind 1 multiplies by 1,000 to 60,000": for each pollutant
  pub hcnox_factors : map (λ (f : Factor). setup_in_range (factoring f no_factor)) (added 60000 ∷ added 60001 ∷ multiplied 999 ∷ multiplied 1000 ∷ multiplied 60000 ∷ multiplied 60001 ∷ [])
      ≡ true ∷ false ∷ false ∷ true ∷ true ∷ false ∷ []
  pub co_factors : map (λ (f : Factor). setup_in_range (factoring no_factor f)) (added 60000 ∷ added 60001 ∷ multiplied 999 ∷ multiplied 1000 ∷ multiplied 60000 ∷ multiplied 60001 ∷ [])
      ≡ true ∷ false ∷ false ∷ true ∷ true ∷ false ∷ []
  -- "P below 1,600 gives one period. Otherwise D up to 120 gives one, 121 to 210 two, 211 to 300 three, 301 and more four."
  pub periods_by_volume : map (λ (p : ℕ). periods p 365) (1 ∷ 1599 ∷ 1600 ∷ 99999999 ∷ []) ≡ 1 ∷ 1 ∷ 4 ∷ 4 ∷ []
  pub periods_by_days : map (periods 1600) (1 ∷ 120 ∷ 121 ∷ 210 ∷ 211 ∷ 300 ∷ 301 ∷ 366 ∷ []) ≡ 1 ∷ 1 ∷ 2 ∷ 2 ∷ 3 ∷ 3 ∷ 4 ∷ 4 ∷ []
  -- "The first period needs two engines, a later one needs one."
  pub needed_engines : map needs (1 ∷ 2 ∷ 3 ∷ 4 ∷ []) ≡ 2 ∷ 1 ∷ 1 ∷ 1 ∷ []
  -- "the engine number, 1 to 65,535"; "each result from 0 to 20,000 being allowed", for each pollutant; 1 to 3 readings
  pub numbers : map number_in_range (0 ∷ 1 ∷ 65535 ∷ 65536 ∷ []) ≡ false ∷ true ∷ true ∷ false ∷ []
  pub hcnox_results : map (λ (x : ℕ). results_in_range (pair x 0)) (0 ∷ 20000 ∷ 20001 ∷ []) ≡ true ∷ true ∷ false ∷ []
  pub co_results : map (λ (x : ℕ). results_in_range (pair 0 x)) (0 ∷ 20000 ∷ 20001 ∷ []) ≡ true ∷ true ∷ false ∷ []
  pub engine_fits : map (λ (readings : ℕ). fits (replay (setup_of 5000 800) []) (Engine 1 readings (pair 0 0))) (0 ∷ 1 ∷ 3 ∷ 4 ∷ []) ≡ false ∷ true ∷ true ∷ false ∷ []
  pub number_fits : map (λ (number : ℕ). fits (replay (setup_of 5000 800) (engine 7 800 ∷ [])) (engine number 800)) (0 ∷ 7 ∷ 8 ∷ []) ≡ false ∷ false ∷ true ∷ []
  pub result_fits : map (λ (x : ℕ). fits (replay (setup_of 5000 800) []) (engine 1 x)) (20000 ∷ 20001 ∷ []) ≡ true ∷ false ∷ []
  -- "whether or not some reading yields it": no reading under a factor of 60 yields 1
  pub result_of_no_reading : fits (replay (factoring (multiplied 60000) no_factor) []) (engine 1 1) ≡ true
  -- "Standards are whole result units, multiples of ten, 10 to 20,000", for an amendment too
  pub amendment_fits : map (λ (t : ℕ). fits (replay (setup_of 5000 800) []) (Amendment (pair 800 t))) (0 ∷ 10 ∷ 15 ∷ 20000 ∷ 20010 ∷ []) ≡ false ∷ true ∷ false ∷ true ∷ false ∷ []
  -- "At most 40 engines." "number of events, 0 to 64"
  pub engines : map (λ (n : ℕ). engines_full (replay (setup_of 5000 800) (engines_to n))) (39 ∷ 40 ∷ []) ≡ false ∷ true ∷ []
  pub engine_of_41 : fits (replay (setup_of 5000 800) (engines_to 40)) (engine 41 800) ≡ false
  pub events : map (λ (n : ℕ). events_full (replay (setup_of 5000 800) (replicate n (Amendment (pair 10 10))))) (63 ∷ 64 ∷ []) ≡ false ∷ true ∷ []
  -- "The next period is wanted in the last period or while the current one is short": of two periods the second is the last; the first is short with one engine,
  -- the second without any
  pub last_of_two : map (λ (es : List Event). last_period (replay (producing 1600 121) es)) ([] ∷ to_period_2 ∷ []) ≡ false ∷ true ∷ []
  pub period_fits : map (λ (es : List Event). fits (replay (producing 1600 211) es) NextPeriod) ([] ∷ engines_to 1 ∷ engines_to 2 ∷ to_period_2 ∷ (engine 3 800 ∷ to_period_2) ∷ [])
      ≡ false ∷ false ∷ true ∷ false ∷ true ∷ []
  pub period_fits_no_more : fits (replay (producing 1600 121) (engine 3 800 ∷ to_period_2)) NextPeriod ≡ false

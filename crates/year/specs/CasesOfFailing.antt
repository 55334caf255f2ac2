-- Document 02, W-204: which engines verdicts 3 and 4 count. Events are listed with the newest first. (Two more cases stand beside the starred ones.)
use Rattle.std.specs.Prelude.{◌≡◌, true, false, List, [], ◌∷◌, ℕ, zero, suc}
use Rattle.year.specs.declared.Pair.{Pair}
use Rattle.year.specs.declared.Tested.{Tested}
use Rattle.year.specs.declared.Event.{Event}
use Rattle.year.specs.declared.Event.TheVariants.{Engine, Amendment, Deletion}
use Rattle.year.specs.Replay.{replay}
use Rattle.year.specs.Verdict.{verdict, passes}
use Rattle.year.specs.Work.{verdict_at}
use Rattle.year.specs.Cases.{pair, setup_of, engine}

-- an engine with these results, entered under 800 and 6,100
abbrev pub tested_with : Pair ℕ → Tested
tested_with results = record { number = 1; results = results; standards = pair 800 6100; period = 1 }

-- an engine with this HC+NOx result, and with CO at its standard
abbrev pub co_met : ℕ → ℕ → Event
co_met number result = Engine number 1 (pair result 6100)

-- two engines with these results
abbrev pub two_with : Pair ℕ → List Event
two_with results = Engine 2 1 results ∷ Engine 1 1 results ∷ []

-- engines 1 to n, all above 800: the first by far, which leaves C at 0 and spreads the results so much that C stays there
abbrev pub failing_to : ℕ → List Event
failing_to zero = []
failing_to (suc zero) = engine 1 20000 ∷ []
failing_to (suc (suc n)) = engine (suc (suc n)) 801 ∷ failing_to (suc n)

pub record CasesOfFailing : Type 0 where
  -- "both results at or below the standards": both equal to them, either one above, both below
  pub at_standards : passes (tested_with (pair 800 6100)) ≡ true
  pub hcnox_above : passes (tested_with (pair 801 0)) ≡ false
  pub co_above : passes (tested_with (pair 0 6101)) ≡ false
  pub below : passes (tested_with (pair 799 6099)) ≡ true
  -- one percent of 150 is 2: two engines at both standards are enough; two of which CO alone fails, or HC+NOx alone, are not
  pub two_at_standards : verdict 1024 (replay (setup_of 150 800) (two_with (pair 800 6100))) ≡ 4
  pub co_fails : verdict 1024 (replay (setup_of 150 800) (two_with (pair 800 6101))) ≡ 1
  pub hcnox_fails : verdict 1024 (replay (setup_of 150 800) (two_with (pair 801 6100))) ≡ 1
  -- and so in finer work
  pub co_fails_finer : verdict_at 8 (replay (setup_of 150 800) (two_with (pair 800 6101))) ≡ 1
  -- one percent of 149 is 1: one engine of the two is enough, whichever passes; of 150 it is not
  pub second_passes : verdict 1024 (replay (setup_of 149 800) (engine 2 800 ∷ engine 1 801 ∷ [])) ≡ 4
  pub first_passes : verdict 1024 (replay (setup_of 149 800) (engine 2 801 ∷ engine 1 800 ∷ [])) ≡ 4
  pub one_of_two : verdict 1024 (replay (setup_of 150 800) (engine 2 800 ∷ engine 1 801 ∷ [])) ≡ 1
  -- "the standards in force when entered": an amendment after two engines neither fails them nor makes them pass; one between them is in force for the second
  pub amended_down : verdict 1024 (replay (setup_of 150 800) (Amendment (pair 10 10) ∷ two_with (pair 800 6100))) ≡ 4
  pub amended_up : verdict 1024 (replay (setup_of 150 800) (Amendment (pair 20000 20000) ∷ two_with (pair 801 6100))) ≡ 1
  pub raised_between : verdict 1024 (replay (setup_of 150 800) (co_met 2 801 ∷ Amendment (pair 810 6100) ∷ co_met 1 800 ∷ [])) ≡ 4
  pub lowered_between : verdict 1024 (replay (setup_of 150 800) (co_met 2 800 ∷ Amendment (pair 790 6100) ∷ co_met 1 800 ∷ [])) ≡ 1
  -- a struck engine is not counted: engines 2 and 3 pass, and then engine 2 alone remains of the two
  pub before_strike : verdict 1024 (replay (setup_of 150 800) (engine 3 800 ∷ engine 2 800 ∷ engine 1 801 ∷ [])) ≡ 4
  pub struck : verdict 1024 (replay (setup_of 150 800) (Deletion ∷ engine 3 800 ∷ engine 2 800 ∷ engine 1 801 ∷ [])) ≡ 1
  -- "Verdict 3 still counts every engine": thirty that all fail; and twenty-nine, which are one percent of 2,900, but do not pass
  pub thirty_failing : verdict 1024 (replay (setup_of 3000 800) (failing_to 30)) ≡ 3
  pub twenty_nine_failing : verdict 1024 (replay (setup_of 2900 800) (failing_to 29)) ≡ 1

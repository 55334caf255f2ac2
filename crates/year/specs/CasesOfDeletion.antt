-- Worked cases of a strike (document 02, W-201). Events are listed with the newest first.
use Rattle.std.specs.Prelude.{◌≡◌, true, false, [], ◌∷◌, Some}
use Rattle.year.specs.declared.Event.TheVariants.{Amendment, NextPeriod, Declaration, Deletion}
use Rattle.year.specs.Setup.{Hcnox}
use Rattle.year.specs.Replay.{start, replay, history}
use Rattle.year.specs.Verdict.{verdict}
use Rattle.year.specs.Admissible.{valid}
use Rattle.year.specs.Status.{status}
use Rattle.year.specs.Deletions.{remaining, storing}
use Rattle.year.specs.Cases.{pair, setup_of, engine, only_sum, three}

pub record CasesOfDeletion : Type 0 where
  -- Z at once after E: the year is as before, with two slots in use
  pub at_once : replay (setup_of 5000 800) (Deletion ∷ engine 1 998 ∷ []) ≡ storing 2 (start (setup_of 5000 800))
  -- it is the newest engine that goes: engine 1 stays, and its figures with it
  pub newest_goes : status 1024 (replay (setup_of 5000 800) (Deletion ∷ engine 2 1071 ∷ engine 1 998 ∷ []))
      ≡ record { n = 1; verdict = 0; figures = record { hcnox = only_sum 998; co = only_sum 5000 } }
  -- twice
  pub twice : replay (setup_of 5000 800) (Deletion ∷ Deletion ∷ engine 2 1071 ∷ engine 1 998 ∷ []) ≡ storing 4 (start (setup_of 5000 800))
  -- "amendments since are kept": the next engine is under the amended standard
  pub amendment_kept : history Hcnox (replay (setup_of 5000 800) (engine 1 900 ∷ Deletion ∷ Amendment (pair 700 6100) ∷ engine 1 998 ∷ [])).tested
      ≡ record { result = 900; standard = 700 } ∷ []
  pub remaining_events : remaining (engine 1 900 ∷ Deletion ∷ Amendment (pair 700 6100) ∷ engine 1 998 ∷ []) ≡ engine 1 900 ∷ Amendment (pair 700 6100) ∷ []
  -- the last engine entered, and its strike, leave no trace: T in N is 1,000 again, under which engine 2 was entered, and not 10; N is 1, verdict 2
  pub size_of_remaining : (status 1024 (replay (setup_of 1500 1000) (Deletion ∷ engine 3 800 ∷ Amendment (pair 10 10) ∷ engine 2 800 ∷ engine 1 800 ∷ []))).figures.hcnox.size
      ≡ Some 10
  pub verdict_of_remaining : verdict 1024 (replay (setup_of 1500 1000) (Deletion ∷ engine 3 800 ∷ Amendment (pair 10 10) ∷ engine 2 800 ∷ engine 1 800 ∷ [])) ≡ 2
  -- a strike can make the period short again
  pub short_again : verdict 1024 (replay (setup_of 5000 1000) (Deletion ∷ engine 2 1000 ∷ engine 1 1000 ∷ [])) ≡ 0
  pub no_period : valid (setup_of 5000 1000) (NextPeriod ∷ Deletion ∷ engine 2 1000 ∷ engine 1 1000 ∷ []) ≡ false
  -- no strike with no engine, or of an engine of an earlier period, also after all of the current period's were struck
  pub of_none : valid (setup_of 5000 1000) (Deletion ∷ []) ≡ false
  pub of_none_left : valid (setup_of 5000 1000) (Deletion ∷ Deletion ∷ engine 1 1000 ∷ []) ≡ false
  pub of_earlier_period : valid (setup_of 5000 1000) (Deletion ∷ NextPeriod ∷ engine 2 1000 ∷ engine 1 1000 ∷ []) ≡ false
  pub of_earlier_left : valid (setup_of 5000 1000) (Deletion ∷ Deletion ∷ engine 3 1000 ∷ NextPeriod ∷ engine 2 1000 ∷ engine 1 1000 ∷ []) ≡ false
  pub of_this_period : valid (setup_of 5000 1000) (Deletion ∷ engine 3 1000 ∷ NextPeriod ∷ engine 2 1000 ∷ engine 1 1000 ∷ []) ≡ true
  -- nor after a failure or a declaration
  pub after_failure : valid (setup_of 5000 100) (Deletion ∷ three) ≡ false
  pub after_declaration : valid (setup_of 5000 1000) (Deletion ∷ Declaration ∷ engine 1 1000 ∷ []) ≡ false
  -- "The engine number is free again"; a remaining engine's is not
  pub number_again : valid (setup_of 5000 1000) (engine 1 900 ∷ Deletion ∷ engine 1 800 ∷ []) ≡ true
  pub number_of_remaining : valid (setup_of 5000 1000) (engine 1 900 ∷ Deletion ∷ engine 2 800 ∷ engine 1 800 ∷ []) ≡ false

-- Worked cases of the strike (document 02, W-201): refusal 17 and its place in the order, and what a strike writes and answers. Lists have the newest first.
use Rattle.std.specs.Prelude.{◌≡◌, List, [], ◌∷◌, ◌++◌, ℕ, replicate, set, Ok, Err}
use Rattle.year.specs.declared.Event.{Event}
use Rattle.year.specs.declared.Event.TheVariants.{Amendment, NextPeriod, Declaration, Deletion}
use Rattle.year.specs.Model.{NoSetup, Year}
use Rattle.year.specs.Cases.{pair, setup_of, engine, engines_to, three}
use Rattle.journal.specs.Encode.{encode}
use Rattle.reference.specs.declared.Refusal.TheVariants.{NothingToDelete}
use Rattle.reference.specs.declared.Change.TheVariants.{Amend, BeginPeriod, Delete}
use Rattle.reference.specs.Call.{Call}
use Rattle.reference.specs.Refusals.{refusal}
use Rattle.reference.specs.Answers.{no_status, answer, journal_after}
use Rattle.reference.specs.Model.{model_of, journal_of}
use Rattle.reference.specs.Cases.{year_of, entering, changing, new_year, engine_one}

abbrev strike : Call
strike = changing Delete

-- an amendment so many times, after these events
abbrev amended : ℕ → List Event → List Event
amended times es = replicate times (Amendment (pair 700 6100)) ++ es

pub record CasesOfDeletion : Type 0 where
  -- 17: no engine; one of an earlier period; none left of the current one
  pub of_none : refusal 544 strike (year_of []) ≡ 17
  pub of_earlier_period : refusal 544 strike (Year (setup_of 5000 1000) (NextPeriod ∷ engine 2 1000 ∷ engine 1 1000 ∷ [])) ≡ 17
  pub of_none_left : refusal 544 strike (year_of (Deletion ∷ engine 1 998 ∷ [])) ≡ 17
  pub twice : refusal 544 strike (year_of (Deletion ∷ engine 2 998 ∷ engine 1 998 ∷ [])) ≡ 0
  pub after_amendment : refusal 544 strike (year_of (Amendment (pair 700 6100) ∷ engine 1 998 ∷ [])) ≡ 0
  -- 3 and 7 come first, then 8, after a failure (so the failing engine cannot be struck) and after a declaration, then 9
  pub size : refusal 543 strike (year_of []) ≡ 3
  pub no_setup : refusal 544 strike NoSetup ≡ 7
  pub failed : refusal 544 strike (Year (setup_of 5000 100) three) ≡ 8
  pub declared : refusal 544 strike (year_of (Declaration ∷ [])) ≡ 8
  -- with 63 events the strike takes the last slot; with 64 it is refused by 9, also with no engine
  pub slot_left : refusal 544 strike (year_of (amended 62 (engine 1 998 ∷ []))) ≡ 0
  pub no_slot : refusal 544 strike (year_of (amended 63 (engine 1 998 ∷ []))) ≡ 9
  pub no_slot_no_engine : refusal 544 strike (year_of (amended 64 [])) ≡ 9
  -- "event slots aren't given back"
  pub slots_in_use : refusal 544 engine_one (year_of (Deletion ∷ amended 62 (engine 1 998 ∷ []))) ≡ 9
  -- the number is free again, that of a remaining engine is not
  pub number_again : refusal 544 engine_one (year_of (Deletion ∷ engine 1 998 ∷ [])) ≡ 0
  pub number_of_remaining : refusal 544 engine_one (year_of (Deletion ∷ engine 2 998 ∷ engine 1 998 ∷ [])) ≡ 10
  -- a strike can make the period short again
  pub short_again : refusal 544 (changing BeginPeriod) (Year (setup_of 5000 1000) (Deletion ∷ engine 2 1000 ∷ engine 1 1000 ∷ [])) ≡ 15
  -- 17 is the strike's alone: with no engine an amendment is accepted, and a next period is refused by 15
  pub amendment_of_none : refusal 544 (changing (Amend (pair 700 6100))) (year_of []) ≡ 0
  pub period_of_none : refusal 544 (changing BeginPeriod) (year_of []) ≡ 15
  pub period_after_period : refusal 544 (changing BeginPeriod) (Year (setup_of 5000 1000) (NextPeriod ∷ engine 2 1000 ∷ engine 1 1000 ∷ [])) ≡ 15
  -- "The 40 counts remaining engines": a forty-first after a strike
  pub engine_of_41 : refusal 544 (entering 41 (1 ∷ []) (1 ∷ [])) (year_of (Deletion ∷ engines_to 40)) ≡ 0
  -- on bytes: the first strike writes its slot, byte 24 and byte 3, a second one leaves byte 3; a refused one writes nothing
  pub strike_writes : journal_after strike (encode 1 (setup_of 5000 800) (engine 1 998 ∷ []))
      ≡ set (set (set (encode 1 (setup_of 5000 800) (engine 1 998 ∷ [])) 40 5) 24 2) 3 2
  pub second_writes : journal_after strike (encode 2 (setup_of 5000 800) (engine 1 998 ∷ Deletion ∷ engine 1 998 ∷ []))
      ≡ set (set (encode 2 (setup_of 5000 800) (engine 1 998 ∷ Deletion ∷ engine 1 998 ∷ [])) 56 5) 24 4
  pub refused_leaves : journal_after strike (encode 1 (setup_of 5000 800) []) ≡ encode 1 (setup_of 5000 800) []
  pub refused_answer : answer strike (encode 1 (setup_of 5000 800) []) ≡ Err NothingToDelete
  -- it answers with the status without the engine
  pub strike_answer : answer strike (encode 1 (setup_of 5000 800) (engine 1 998 ∷ [])) ≡ Ok no_status
  -- in a list of calls; a new setup starts over in version 1
  pub model_struck : model_of (strike ∷ changing (Amend (pair 700 6100)) ∷ engine_one ∷ new_year ∷ [])
      ≡ year_of (Deletion ∷ Amendment (pair 700 6100) ∷ engine 1 998 ∷ [])
  pub journal_struck : journal_of (strike ∷ strike ∷ engine_one ∷ new_year ∷ []) ≡ encode 2 (setup_of 5000 800) (Deletion ∷ engine 1 998 ∷ [])
  pub journal_anew : journal_of (new_year ∷ strike ∷ engine_one ∷ new_year ∷ []) ≡ encode 1 (setup_of 5000 800) []

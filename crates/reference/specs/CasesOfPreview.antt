-- Worked cases of the preview (document 02, W-202): it is refused as the engine's entry is, answers what that would, and writes nothing. Lists have the newest
-- first.
use Rattle.std.specs.Prelude.{◌≡◌, List, [], ◌∷◌, ℕ, replicate, Ok, Err}
use Rattle.buffers.specs.Bytes.{zeros}
use Rattle.year.specs.declared.Event.TheVariants.{Amendment, Declaration, Deletion}
use Rattle.year.specs.Model.{NoSetup, Year}
use Rattle.year.specs.Cases.{pair, setup_of, engine, engines_to, only_sum, three}
use Rattle.journal.specs.Encode.{encode}
use Rattle.reference.specs.declared.Refusal.TheVariants.{NotAJournal, EngineNumber}
use Rattle.reference.specs.Call.{engine_preview, ReadStatus, Call, Ask}
use Rattle.reference.specs.Refusals.{refusal}
use Rattle.reference.specs.Answers.{no_status, answer, journal_after}
use Rattle.reference.specs.Model.{model_of, journal_of}
use Rattle.reference.specs.Cases.{year_of, setup_with, marks_into, new_year, engine_one}
use Rattle.reference.specs.Preview.{without_previews, others_give}

-- the preview of an engine with these readings
abbrev pub previewing : ℕ → List ℕ → List ℕ → Call
previewing number hcnox co = Ask (engine_preview number hcnox co)

-- the preview of the printed run's first engine
abbrev pub preview_one : Call
preview_one = previewing 1 (998000 ∷ []) (5000000 ∷ [])

pub record CasesOfPreview : Type 0 where
  -- each refusal of an engine's entry, in most cases with the next in order applying too
  pub size : refusal 543 (previewing 0 [] []) NoSetup ≡ 3
  pub no_setup : refusal 544 (previewing 0 [] []) NoSetup ≡ 7
  pub declared : refusal 544 (previewing 0 [] []) (year_of (Declaration ∷ replicate 63 (Amendment (pair 10 10)))) ≡ 8
  pub failed : refusal 544 preview_one (Year (setup_of 5000 100) three) ≡ 8
  pub no_slot : refusal 544 (previewing 0 [] []) (year_of (replicate 64 (Amendment (pair 10 10)))) ≡ 9
  pub slot_left : refusal 544 preview_one (year_of (replicate 63 (Amendment (pair 10 10)))) ≡ 0
  pub number_zero : refusal 544 (previewing 0 [] []) (year_of []) ≡ 10
  pub number_again : refusal 544 (previewing 1 [] []) (year_of (engine 1 998 ∷ [])) ≡ 10
  pub number_free : refusal 544 preview_one (year_of (Deletion ∷ engine 1 998 ∷ [])) ≡ 0
  pub counts_differ : refusal 544 (previewing 1 (20000001 ∷ []) []) (year_of []) ≡ 11
  pub four_readings : refusal 544 (previewing 1 (1 ∷ 1 ∷ 1 ∷ 1 ∷ []) (1 ∷ 1 ∷ 1 ∷ 1 ∷ [])) (year_of []) ≡ 11
  pub reading : refusal 544 (previewing 1 (20001000 ∷ []) (1 ∷ [])) (year_of []) ≡ 12
  pub result : refusal 544 (previewing 1 (20000000 ∷ []) (1 ∷ [])) (Year (setup_with 5000 (pair 800 6100) (record { kind = 0; value = 60000 })) []) ≡ 13
  pub engine_of_41 : refusal 544 (previewing 41 (1 ∷ []) (1 ∷ [])) (year_of (engines_to 40)) ≡ 14
  pub engine_of_40 : refusal 544 (previewing 40 (1 ∷ []) (1 ∷ [])) (year_of (engines_to 39)) ≡ 0
  -- on bytes: nothing is written, accepted or refused
  pub kept : journal_after preview_one (encode 1 (setup_of 5000 800) []) ≡ encode 1 (setup_of 5000 800) []
  pub refused_kept : journal_after preview_one (zeros 544) ≡ zeros 544
  -- the answer has the engine in it: n is 1 and S 998, where status still has none
  pub answer_with_engine : answer preview_one (encode 1 (setup_of 5000 800) []) ≡ Ok (record { n = 1; verdict = 0; figures = record { hcnox = only_sum 998; co = only_sum 5000 } })
  pub status_after : answer (Ask ReadStatus) (journal_after preview_one (encode 1 (setup_of 5000 800) [])) ≡ Ok no_status
  pub refused_answer : answer preview_one (zeros 544) ≡ Err NotAJournal
  pub number_answer : answer preview_one (encode 1 (setup_of 5000 800) (engine 1 998 ∷ [])) ≡ Err EngineNumber
  -- in a list of calls, three previews of one number and its entry: one engine, and the answers of setup and entry as without previews
  pub model_one : model_of (preview_one ∷ engine_one ∷ preview_one ∷ preview_one ∷ new_year ∷ []) ≡ year_of (engine 1 998 ∷ [])
  pub journal_one : journal_of (preview_one ∷ engine_one ∷ preview_one ∷ preview_one ∷ new_year ∷ []) ≡ encode 1 (setup_of 5000 800) (engine 1 998 ∷ [])
  pub others : without_previews (preview_one ∷ engine_one ∷ preview_one ∷ preview_one ∷ new_year ∷ []) ≡ engine_one ∷ new_year ∷ []
  -- status and marks calls are no previews, and stay in the list
  pub queries_stay : without_previews (preview_one ∷ Ask ReadStatus ∷ preview_one ∷ marks_into 2 ∷ []) ≡ Ask ReadStatus ∷ marks_into 2 ∷ []
  pub others_answer : others_give answer (zeros 544) (preview_one ∷ engine_one ∷ preview_one ∷ preview_one ∷ new_year ∷ [])
      ≡ Ok (record { n = 1; verdict = 0; figures = record { hcnox = only_sum 998; co = only_sum 5000 } }) ∷ Ok no_status ∷ []

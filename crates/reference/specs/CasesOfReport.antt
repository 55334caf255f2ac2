-- Worked cases of the wall page's call (document 02, W-205): refusal 18 and what it leaves, and what an accepted call writes. Events are listed with the newest first.
use Rattle.std.specs.Prelude.{◌≡◌, [], ◌∷◌, ◌++◌, replicate}
use Rattle.year.specs.declared.Event.TheVariants.{Declaration}
use Rattle.year.specs.Replay.{replay}
use Rattle.year.specs.Model.{NoSetup, Year}
use Rattle.year.specs.Cases.{setup_of, engine, three}
use Rattle.report.specs.Report.{report}
use Rattle.journal.specs.Encode.{encode}
use Rattle.reference.specs.Call.{Report}
use Rattle.reference.specs.Refusals.{refusal}
use Rattle.reference.specs.Answers.{out_after, out_part}
use Rattle.reference.specs.Report.{report_into}
use Rattle.reference.specs.Cases.{year_of}

pub record CasesOfReport : Type 0 where
  -- with no engine 61 bytes are needed, with one 122
  pub none_too_short : refusal 544 (report_into 60) (year_of []) ≡ 18
  pub none_fits : refusal 544 (report_into 61) (year_of []) ≡ 0
  pub one_too_short : refusal 544 (report_into 121) (year_of (engine 1 998 ∷ [])) ≡ 18
  pub one_fits : refusal 544 (report_into 122) (year_of (engine 1 998 ∷ [])) ≡ 0
  -- 3 and 7 come before it; 8 is not for a call that only reads, so a failed or declared year has its page
  pub journal_size : refusal 543 (report_into 0) NoSetup ≡ 3
  pub no_setup : refusal 544 (report_into 0) NoSetup ≡ 7
  pub failed : refusal 544 (report_into 244) (Year (setup_of 5000 100) three) ≡ 0
  pub declared : refusal 544 (report_into 61) (year_of (Declaration ∷ [])) ≡ 0
  -- a refused call leaves every byte and hands back nothing; an accepted one leaves those behind the page
  pub refused_leaves : out_after Report (encode 1 (setup_of 5000 800) []) (replicate 60 7) ≡ replicate 60 7
  pub refused_part : out_part Report (encode 1 (setup_of 5000 800) []) (replicate 60 7) ≡ []
  pub behind_kept : out_after Report (encode 1 (setup_of 5000 800) []) (replicate 63 7) ≡ report (replay (setup_of 5000 800) []) ++ 7 ∷ 7 ∷ []
  pub handed_back : out_part Report (encode 1 (setup_of 5000 800) []) (replicate 63 7) ≡ report (replay (setup_of 5000 800) [])

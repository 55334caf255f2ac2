-- Worked cases of the calls: each refusal (14 in CasesOfForty), some together with the next in order, and what accepted and refused calls leave.
-- Lists of events and of calls have the newest first.
use Rattle.std.specs.Prelude.{◌≡◌, true, false, List, [], ◌∷◌, ℕ, replicate, Ok, Err}
use Rattle.buffers.specs.Bytes.{zeros}
use Rattle.ascii.specs.Text.{text}
use Rattle.rounding.specs.declared.Factor.{Factor}
use Rattle.rounding.specs.Cases.{added, no_factor, multiplied}
use Rattle.statistics.specs.Cases.{exactly}
use Rattle.year.specs.declared.Pair.{Pair}
use Rattle.year.specs.declared.Setup.{Setup}
use Rattle.year.specs.declared.Event.{Event}
use Rattle.year.specs.declared.Event.TheVariants.{Engine, Amendment, NextPeriod, Declaration}
use Rattle.year.specs.Model.{Model, NoSetup, Year}
use Rattle.year.specs.Cases.{pair, setup_of, engine, only_sum, three}
use Rattle.journal.specs.Encode.{encode}
use Rattle.reference.specs.declared.Refusal.TheVariants.{NotAJournal}
use Rattle.reference.specs.declared.Change.{Change}
use Rattle.reference.specs.declared.Change.TheVariants.{Amend, BeginPeriod, Declare}
use Rattle.reference.specs.Call.{engine_entry, EnterChange, Marks, ReadStatus, Write, Call, SetUp, Enter, Ask}
use Rattle.reference.specs.Refusals.{refusal}
use Rattle.reference.specs.Answers.{no_status, status_of, answer, journal_after, out_bytes, out_after, out_part}
use Rattle.reference.specs.Model.{model_of, journal_of, setup_accepted}

-- a setup with this volume, these standards and this HC+NOx factor
abbrev pub setup_with : ℕ → Pair ℕ → Factor → Setup
setup_with volume standards factor =
    record { volume = volume; days = 365; standards = standards; factors = record { hcnox = factor; co = no_factor } }

-- HC+NOx multiplied by 1,050 thousandths, 3,000 thousandths added to CO
abbrev pub factored : Setup
factored = record { volume = 5000; days = 365; standards = pair 800 6100; factors = record { hcnox = multiplied 1050; co = added 3000 } }

-- the printed run's year, with some events
abbrev pub year_of : List Event → Model
year_of = Year (setup_of 5000 800)

-- an engine with these readings, a change, and marks written into an output of this size
abbrev pub entering : ℕ → List ℕ → List ℕ → Call
entering number hcnox co = Enter (engine_entry number hcnox co)

abbrev pub changing : Change → Call
changing change = Enter (EnterChange change)

abbrev pub marks_into : ℕ → Call
marks_into size = Ask (Write Marks size)

-- the calls of the printed run's first and second lines
abbrev pub new_year : Call
new_year = SetUp (setup_of 5000 800)

abbrev pub engine_one : Call
engine_one = entering 1 (998000 ∷ []) (5000000 ∷ [])

pub record Cases : Type 0 where
  -- 3, before all others
  pub journal_size : refusal 543 (SetUp (setup_with 0 (pair 800 6100) no_factor)) NoSetup ≡ 3
  pub journal_longer : refusal 545 (Ask ReadStatus) NoSetup ≡ 3
  -- 4 to 6, for a setup
  pub volume : refusal 544 (SetUp (setup_with 0 (pair 5 6100) no_factor)) NoSetup ≡ 4
  pub standard : refusal 544 (SetUp (setup_with 5000 (pair 800 6105) (record { kind = 2; value = 0 }))) NoSetup ≡ 5
  pub factor_kind : refusal 544 (SetUp (setup_with 5000 (pair 800 6100) (record { kind = 2; value = 0 }))) NoSetup ≡ 6
  pub factor_below : refusal 544 (SetUp (setup_with 5000 (pair 800 6100) (record { kind = 1; value = 999 }))) NoSetup ≡ 6
  -- setup does not test what the journal holds
  pub setup_over_declared : refusal 544 new_year (year_of (Declaration ∷ [])) ≡ 0
  -- 5 for an amendment is checked before 7
  pub amendment_standard : refusal 544 (changing (Amend (pair 15 10))) NoSetup ≡ 5
  pub amendment_no_setup : refusal 544 (changing (Amend (pair 20 10))) NoSetup ≡ 7
  pub status_no_setup : refusal 544 (Ask ReadStatus) NoSetup ≡ 7
  pub marks_no_setup : refusal 544 (marks_into 0) NoSetup ≡ 7
  -- 7, before 10
  pub engine_no_setup : refusal 544 (entering 0 [] []) NoSetup ≡ 7
  -- 8, after a declaration and after a failure; status is still accepted
  pub after_declaration : refusal 544 (entering 0 [] []) (year_of (Declaration ∷ [])) ≡ 8
  pub amendment_after : refusal 544 (changing (Amend (pair 20 10))) (year_of (Declaration ∷ [])) ≡ 8
  pub period_after : refusal 544 (changing BeginPeriod) (year_of (Declaration ∷ [])) ≡ 8
  pub declaration_after : refusal 544 (changing Declare) (year_of (Declaration ∷ [])) ≡ 8
  pub after_failure : refusal 544 (changing Declare) (Year (setup_of 5000 100) three) ≡ 8
  pub status_declared : refusal 544 (Ask ReadStatus) (year_of (Declaration ∷ [])) ≡ 0
  -- 8, before 9: the sixty-fourth event is a declaration
  pub declared_and_stored : refusal 544 (changing Declare) (year_of (Declaration ∷ replicate 63 (Amendment (pair 10 10)))) ≡ 8
  -- 9, with 64 amendments
  pub events_stored : refusal 544 (entering 0 [] []) (year_of (replicate 64 (Amendment (pair 10 10)))) ≡ 9
  -- 10, a number out of range or in the book, before 11
  pub number_zero : refusal 544 (entering 0 [] []) (year_of []) ≡ 10
  pub number_above : refusal 544 (entering 65536 (1 ∷ []) (1 ∷ [])) (year_of []) ≡ 10
  pub number_again : refusal 544 (entering 1 [] []) (year_of (engine 1 998 ∷ [])) ≡ 10
  -- 11, before 12
  pub no_readings : refusal 544 (entering 1 [] []) (year_of []) ≡ 11
  pub counts_differ : refusal 544 (entering 1 (20000001 ∷ []) []) (year_of []) ≡ 11
  pub counts_unequal : refusal 544 (entering 1 (1 ∷ []) (1 ∷ 1 ∷ [])) (year_of []) ≡ 11
  pub four_readings : refusal 544 (entering 1 (1 ∷ 1 ∷ 1 ∷ 1 ∷ []) (1 ∷ 1 ∷ 1 ∷ 1 ∷ [])) (year_of []) ≡ 11
  pub reading : refusal 544 (entering 1 (1 ∷ []) (20000001 ∷ [])) (year_of []) ≡ 12
  -- any of the readings
  pub second_reading : refusal 544 (entering 1 (1 ∷ 20000001 ∷ []) (1 ∷ 1 ∷ [])) (year_of []) ≡ 12
  pub third_reading : refusal 544 (entering 1 (1 ∷ 1 ∷ 1 ∷ []) (1 ∷ 1 ∷ 20000001 ∷ [])) (year_of []) ≡ 12
  -- 12, before 13: a result of 20,001
  pub reading_hcnox : refusal 544 (entering 1 (20001000 ∷ []) (1 ∷ [])) (year_of []) ≡ 12
  pub reading_co : refusal 544 (entering 1 (1 ∷ []) (20001000 ∷ [])) (year_of []) ≡ 12
  -- 13: 20,000 plus 60
  pub result : refusal 544 (entering 1 (20000000 ∷ []) (1 ∷ [])) (Year (setup_with 5000 (pair 800 6100) (record { kind = 0; value = 60000 })) []) ≡ 13
  -- 15, in a short period, and in the last
  pub period_short : refusal 544 (changing BeginPeriod) (year_of (engine 1 998 ∷ [])) ≡ 15
  pub period_last : refusal 544 (changing BeginPeriod) (Year (setup_of 1500 1000) (engine 2 1000 ∷ engine 1 1000 ∷ [])) ≡ 15
  pub period_next : refusal 544 (changing BeginPeriod) (Year (setup_of 5000 1000) (engine 2 1000 ∷ engine 1 1000 ∷ [])) ≡ 0
  -- 16
  pub marks_size : refusal 544 (marks_into 1) (year_of (engine 1 998 ∷ [])) ≡ 16
  pub marks_fit : refusal 544 (marks_into 2) (year_of (engine 1 998 ∷ [])) ≡ 0
  -- on bytes: a refused call leaves them unchanged; a setup writes all of them, an entry adds its event
  pub refused_leaves : journal_after engine_one (zeros 544) ≡ zeros 544
  pub declared_leaves : journal_after engine_one (encode 1 (setup_of 5000 800) (Declaration ∷ [])) ≡ encode 1 (setup_of 5000 800) (Declaration ∷ [])
  pub refused_answer : answer engine_one (zeros 544) ≡ Err NotAJournal
  pub setup_writes : journal_after new_year (zeros 544) ≡ encode 1 (setup_of 5000 800) []
  pub setup_answer : answer new_year (zeros 544) ≡ Ok no_status
  pub entry_writes : journal_after engine_one (encode 1 (setup_of 5000 800) []) ≡ encode 1 (setup_of 5000 800) (engine 1 998 ∷ [])
  -- an entry answers with the status of the journal that it leaves: one engine, short, S 998 and 5,000
  pub entry_answer : answer engine_one (encode 1 (setup_of 5000 800) []) ≡ Ok (record { n = 1; verdict = 0; figures = record { hcnox = only_sum 998; co = only_sum 5000 } })
  -- at the calculator's resolution of 1,024: s 52,857 for X 998 then 1,071; and T 10, X 2,367 then 3,236 has '?', where 1,023 and 1,025 would have 'O'
  pub status_at_1024 : (status_of (year_of (engine 2 1071 ∷ engine 1 998 ∷ []))).figures.hcnox.deviation ≡ exactly 52857 1
  pub marks_at_1024 : out_bytes Marks (Year (setup_of 5000 10) (engine 2 3236 ∷ engine 1 2367 ∷ [])) ≡ text "--?U"
  -- marks at the front of the output, the rest of it unchanged; if refused, all of it unchanged
  pub marks_written : out_after Marks (encode 1 (setup_of 5000 800) (engine 1 998 ∷ [])) (1 ∷ 2 ∷ 3 ∷ []) ≡ 45 ∷ 45 ∷ 3 ∷ []
  pub marks_handed_back : out_part Marks (encode 1 (setup_of 5000 800) (engine 1 998 ∷ [])) (1 ∷ 2 ∷ 3 ∷ []) ≡ 45 ∷ 45 ∷ []
  pub marks_refused : out_after Marks (encode 1 (setup_of 5000 800) (engine 1 998 ∷ [])) (1 ∷ []) ≡ 1 ∷ []
  -- the model of a list: what comes before an accepted setup is refused, a second setup starts over
  pub model_of_none : model_of (changing Declare ∷ engine_one ∷ []) ≡ NoSetup
  pub model_of_one : model_of (engine_one ∷ engine_one ∷ new_year ∷ engine_one ∷ []) ≡ year_of (engine 1 998 ∷ [])
  pub model_of_two : model_of (changing (Amend (pair 700 6100)) ∷ engine_one ∷ new_year ∷ []) ≡ year_of (Amendment (pair 700 6100) ∷ engine 1 998 ∷ [])
  -- each entry adds its own event: an engine with its number, its reading count and results worked from all readings; a declaration; a next period
  pub model_engine : model_of (entering 7 (998000 ∷ 1000000 ∷ []) (5000000 ∷ 5002000 ∷ []) ∷ new_year ∷ []) ≡ year_of (Engine 7 2 (pair 999 5001) ∷ [])
  -- each result under its own factor: 50 × 1.05 is 52.5, rounded to 52, and 50 + 3 is 53
  pub model_factored : model_of (entering 1 (50000 ∷ []) (50000 ∷ []) ∷ SetUp factored ∷ []) ≡ Year factored (Engine 1 1 (pair 52 53) ∷ [])
  pub model_declared : model_of (changing Declare ∷ new_year ∷ []) ≡ year_of (Declaration ∷ [])
  pub model_period : model_of (changing BeginPeriod ∷ entering 2 (1000000 ∷ []) (5000000 ∷ []) ∷ entering 1 (1000000 ∷ []) (5000000 ∷ []) ∷ SetUp (setup_of 5000 1000) ∷ [])
      ≡ Year (setup_of 5000 1000) (NextPeriod ∷ engine 2 1000 ∷ engine 1 1000 ∷ [])
  pub model_anew : model_of (new_year ∷ changing Declare ∷ engine_one ∷ new_year ∷ []) ≡ year_of []
  -- a list with an accepted setup, and one with only a refused setup
  pub accepted_in_list : setup_accepted (changing Declare ∷ new_year ∷ []) ≡ true
  pub refused_in_list : setup_accepted (SetUp (setup_with 0 (pair 800 6100) no_factor) ∷ []) ≡ false
  -- the journal after the same lists
  pub journal_of_one : journal_of (engine_one ∷ engine_one ∷ new_year ∷ engine_one ∷ []) ≡ encode 1 (setup_of 5000 800) (engine 1 998 ∷ [])

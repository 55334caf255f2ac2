-- Worked cases of the stored journal, on document 01's printed run, and with strikes (document 02, W-201).
use Rattle.std.specs.Prelude.{◌≡◌, List, [], ◌∷◌, ◌++◌, ℕ, length, take, drop, set}
use Rattle.buffers.specs.Bytes.{zeros}
use Rattle.year.specs.declared.Setup.{Setup}
use Rattle.year.specs.declared.Event.{Event}
use Rattle.year.specs.declared.Event.TheVariants.{Engine, Amendment, NextPeriod, Declaration, Deletion}
use Rattle.year.specs.Model.{NoSetup, Year}
use Rattle.year.specs.Cases.{pair, setup_of, engine}
use Rattle.journal.specs.Encode.{setup_version, encode, slot_of, append}
use Rattle.journal.specs.Read.{read_journal}

-- "S 5000 365 800 6100 0 0 0 0", and then "E 1 998000 5000000"
abbrev pub none : List ℕ
none = encode setup_version (setup_of 5000 800) []

abbrev pub one : List ℕ
one = encode 1 (setup_of 5000 800) (engine 1 998 ∷ [])

-- and then "Z": a journal of version 2
abbrev pub struck : List ℕ
struck = encode 2 (setup_of 5000 800) (Deletion ∷ engine 1 998 ∷ [])

-- the largest P and D, and factors that differ: HC+NOx multiplied by 1,050 thousandths, 25 thousandths added to CO
abbrev differing : Setup
differing =
    record {
      volume = 99999999;
      days = 366;
      standards = pair 800 6100;
      factors = record { hcnox = record { kind = 1; value = 1050 }; co = record { kind = 0; value = 25 } };
    }

-- each kind of event: engines with two and with three readings, an engine struck, an amendment, a next period, a declaration
abbrev each_kind : List Event
each_kind = Declaration ∷ NextPeriod ∷ Deletion ∷ Amendment (pair 700 6000) ∷ engine 3 800 ∷ Engine 65535 3 (pair 800 5000) ∷ Engine 258 2 (pair 800 5000) ∷ []

pub record Cases : Type 0 where
  pub size : length none ≡ 544
  -- bytes 0 to 31
  pub header : take 32 none
      ≡ 80 ∷ 76 ∷ 84 ∷ 1 ∷ 0 ∷ 0 ∷ 0 ∷ 0 ∷ 136 ∷ 19 ∷ 0 ∷ 0 ∷ 109 ∷ 1 ∷ 32 ∷ 3 ∷ 212 ∷ 23 ∷ 0 ∷ 0 ∷ 0 ∷ 0 ∷ 0 ∷ 0 ∷ 0 ∷ 0 ∷ 0 ∷ 0 ∷ 0 ∷ 0 ∷ 0 ∷ 0 ∷ []
  -- bytes 8 to 23 where P needs all four bytes and the factors differ
  pub production : take 16 (drop 8 (encode 1 differing []))
      ≡ 255 ∷ 224 ∷ 245 ∷ 5 ∷ 110 ∷ 1 ∷ 32 ∷ 3 ∷ 212 ∷ 23 ∷ 1 ∷ 0 ∷ 26 ∷ 4 ∷ 25 ∷ 0 ∷ []
  pub read_production : read_journal (encode 1 differing []) ≡ Year differing []
  pub unused : drop 32 none ≡ zeros 512
  pub engine_slot : slot_of (engine 1 998) ≡ 1 ∷ 1 ∷ 230 ∷ 3 ∷ 136 ∷ 19 ∷ 1 ∷ 0 ∷ []
  pub amendment_slot : slot_of (Amendment (pair 800 6100)) ≡ 2 ∷ 0 ∷ 32 ∷ 3 ∷ 212 ∷ 23 ∷ 0 ∷ 0 ∷ []
  pub period_slot : slot_of NextPeriod ≡ 3 ∷ 0 ∷ 0 ∷ 0 ∷ 0 ∷ 0 ∷ 0 ∷ 0 ∷ []
  pub declaration_slot : slot_of Declaration ≡ 4 ∷ 0 ∷ 0 ∷ 0 ∷ 0 ∷ 0 ∷ 0 ∷ 0 ∷ []
  pub deletion_slot : slot_of Deletion ≡ 5 ∷ 0 ∷ 0 ∷ 0 ∷ 0 ∷ 0 ∷ 0 ∷ 0 ∷ []
  -- an entry writes its slot and byte 24
  pub appended : append none (engine 1 998) ≡ one
  pub appended_next : append one Declaration ≡ encode 1 (setup_of 5000 800) (Declaration ∷ engine 1 998 ∷ [])
  -- the first strike also writes byte 3; a later entry, and a second strike, leave it
  pub appended_strike : append one Deletion ≡ set (set (set one 40 5) 24 2) 3 2
  pub appended_after : append struck (engine 1 998) ≡ encode 2 (setup_of 5000 800) (engine 1 998 ∷ Deletion ∷ engine 1 998 ∷ [])
  pub appended_second : append (encode 2 (setup_of 5000 800) (engine 1 998 ∷ Deletion ∷ engine 1 998 ∷ [])) Deletion
      ≡ encode 2 (setup_of 5000 800) (Deletion ∷ engine 1 998 ∷ Deletion ∷ engine 1 998 ∷ [])
  -- what was stored is read back; zeros are no journal
  pub read_none : read_journal none ≡ Year (setup_of 5000 800) []
  pub read_one : read_journal one ≡ Year (setup_of 5000 800) (engine 1 998 ∷ [])
  pub read_two : read_journal (encode 1 (setup_of 5000 800) (Declaration ∷ engine 1 998 ∷ [])) ≡ Year (setup_of 5000 800) (Declaration ∷ engine 1 998 ∷ [])
  pub read_struck : read_journal struck ≡ Year (setup_of 5000 800) (Deletion ∷ engine 1 998 ∷ [])
  pub read_zeros : read_journal (zeros 544) ≡ NoSetup
  -- refused: version 2 without a strike, version 1 with one, any other version, one byte or two
  pub version_two : read_journal (set none 3 2) ≡ NoSetup
  pub version_two_of_one : read_journal (set one 3 2) ≡ NoSetup
  pub version_one : read_journal (set struck 3 1) ≡ NoSetup
  pub version_three : read_journal (set struck 3 3) ≡ NoSetup
  pub version_zero : read_journal (set none 3 0) ≡ NoSetup
  pub version_high : read_journal (set none 4 1) ≡ NoSetup
  -- refused: an unnamed byte that is not zero (in the header, in a slot, in a strike's slot, in an unused slot), kind 6, one byte too many or too few
  pub dirty_header : read_journal (set none 25 1) ≡ NoSetup
  pub dirty_slot : read_journal (set (encode 1 (setup_of 5000 800) (Declaration ∷ engine 1 998 ∷ [])) 41 1) ≡ NoSetup
  pub dirty_strike : read_journal (set struck 47 1) ≡ NoSetup
  pub dirty_unused : read_journal (set none 543 1) ≡ NoSetup
  pub other_kind : read_journal (set one 32 6) ≡ NoSetup
  pub too_long : read_journal (none ++ (0 ∷ [])) ≡ NoSetup
  pub too_short : read_journal (take 543 none) ≡ NoSetup
  -- a result of 20,000 is accepted, one of 20,001 is not; an engine after a declaration is not
  pub result_at_most : read_journal (encode 1 (setup_of 5000 800) (engine 1 20000 ∷ [])) ≡ Year (setup_of 5000 800) (engine 1 20000 ∷ [])
  pub result_above : read_journal (encode 1 (setup_of 5000 800) (engine 1 20001 ∷ [])) ≡ NoSetup
  pub after_declaration : read_journal (encode 1 (setup_of 5000 800) (engine 1 998 ∷ Declaration ∷ [])) ≡ NoSetup
  -- no strike with no engine, and none of an engine of an earlier period
  pub strike_of_none : read_journal (encode 2 (setup_of 5000 800) (Deletion ∷ [])) ≡ NoSetup
  pub strike_earlier : read_journal (encode 2 (setup_of 5000 1000) (Deletion ∷ NextPeriod ∷ engine 2 1000 ∷ engine 1 1000 ∷ [])) ≡ NoSetup
  -- each kind of event is read back
  pub read_each_kind : read_journal (encode 2 (setup_of 5000 800) each_kind) ≡ Year (setup_of 5000 800) each_kind

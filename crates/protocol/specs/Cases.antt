-- Worked cases of the key line, and document 01's whole run.
use Rattle.std.specs.Prelude.{◌≡◌, [], ◌∷◌, ◌++◌, replicate, ℕ, Option, Some, None}
use Rattle.ascii.specs.Text.{byte, text}
use Rattle.cumsum.specs.declared.Mark.{Mark}
use Rattle.cumsum.specs.declared.Mark.TheVariants.{Under, Undecided}
use Rattle.year.specs.declared.Figures.{Figures}
use Rattle.year.specs.Cases.{pair, setup_of}
use Rattle.reference.specs.Call.{EnterEngine, EnterChange, Marks, Write, Preview, SetUp, Enter, Ask}
use Rattle.reference.specs.declared.Change.TheVariants.{Amend, BeginPeriod, Declare, Delete}
use Rattle.protocol.specs.Number.{number_outcome}
use Rattle.protocol.specs.KeyLine.{spaced_outcome, Make, Refuse, command_of}
use Rattle.protocol.specs.Reply.{refusal_reply, marks_reply, status_reply}
use Rattle.ascii.specs.Decimal.{decimal}
use Rattle.buffers.specs.Bytes.{zeros}
use Rattle.protocol.specs.Preview.{without_preview_lines, other_replies}
use Rattle.protocol.specs.Run.{lines_of, run}

-- figures for a reply, which shows only their mark and sample size
abbrev pub marked : Mark → Option ℕ → Figures
marked mark size =
    record {
      sum = 0;
      deviation = record { floor = 0; inexact = 0 };
      cumsum = record { low = 0; high = 0 };
      limit = record { low = 0; high = 0 };
      size = size;
      mark = mark;
    }

pub record Cases : Type 0 where
  -- each letter
  pub setup : command_of (text "S 5000 365 800 6100 0 0 0 0") ≡ Make (SetUp (setup_of 5000 800))
  pub engine : command_of (text "E 1 998000 5000000") ≡ Make (Enter (EnterEngine 1 (record { hcnox = 998000 ∷ []; co = 5000000 ∷ [] })))
  pub preview : command_of (text "T 1 998000 5000000") ≡ Make (Ask (Preview 1 (record { hcnox = 998000 ∷ []; co = 5000000 ∷ [] })))
  pub amendment : command_of (text "A 800 6100") ≡ Make (Enter (EnterChange (Amend (pair 800 6100))))
  pub period : command_of (text "P") ≡ Make (Enter (EnterChange BeginPeriod))
  pub declaration : command_of (text "X") ≡ Make (Enter (EnterChange Declare))
  pub deletion : command_of (text "Z") ≡ Make (Enter (EnterChange Delete))
  pub marks : command_of (text "L") ≡ Make (Ask (Write Marks 80))
  -- each number of a setup in its place
  pub setup_numbers : command_of (text "S 1 2 3 4 5 6 7 8")
      ≡ Make (SetUp (record {
        volume = 1;
        days = 2;
        standards = pair 3 4;
        factors = record { hcnox = record { kind = 5; value = 6 }; co = record { kind = 7; value = 8 } };
      }))
  -- the HC+NOx readings come first
  pub four_readings : command_of (text "E 7 1 2 3 4") ≡ Make (Enter (EnterEngine 7 (record { hcnox = 1 ∷ 2 ∷ []; co = 3 ∷ 4 ∷ [] })))
  -- the call judges an even count of readings, even none, eight or a full line; with an odd count, or no engine number, the line is not of the form
  pub no_readings : command_of (text "E 7") ≡ Make (Enter (EnterEngine 7 (record { hcnox = []; co = [] })))
  pub eight_readings : command_of (text "E 7 1 1 1 1 2 2 2 2")
      ≡ Make (Enter (EnterEngine 7 (record { hcnox = 1 ∷ 1 ∷ 1 ∷ 1 ∷ []; co = 2 ∷ 2 ∷ 2 ∷ 2 ∷ [] })))
  pub many_readings : command_of (text "E 1 2 2 2 2 2 2 2 2 2 2 2 2 2 2 2 3 3 3 3 3 3 3 3 3 3 3 3 3 3 3")
      ≡ Make (Enter (EnterEngine 1 (record { hcnox = replicate 15 2; co = replicate 15 3 })))
  pub odd_readings : command_of (text "E 7 1 2 3") ≡ Refuse 2
  pub no_number : command_of (text "E") ≡ Refuse 2
  -- T has E's numbers: the HC+NOx readings first, an even count of readings judged by the call, an odd one or no engine number refused by 2
  pub previewed_four : command_of (text "T 7 1 2 3 4") ≡ Make (Ask (Preview 7 (record { hcnox = 1 ∷ 2 ∷ []; co = 3 ∷ 4 ∷ [] })))
  pub previewed_none : command_of (text "T 7") ≡ Make (Ask (Preview 7 (record { hcnox = []; co = [] })))
  pub previewed_odd : command_of (text "T 7 1 2 3") ≡ Refuse 2
  pub previewed_nothing : command_of (text "T") ≡ Refuse 2
  -- 1 to 8 digits, no leading zero but in 0
  pub eight_digits : command_of (text "A 99999999 0") ≡ Make (Enter (EnterChange (Amend (pair 99999999 0))))
  pub nine_digits : command_of (text "A 100000000 0") ≡ Refuse 2
  pub leading_zero : command_of (text "A 0800 6100") ≡ Refuse 2
  pub two_zeros : command_of (text "A 00 0") ≡ Refuse 2
  -- a number at a position, and no number there, which is refused by 2 with every other figure zero
  pub number_read : number_outcome (text "A 800 6100") 6 ≡ record { refusal = 0; value = 6100; next = 10 }
  pub number_refused : number_outcome (text "A 0800 6100") 2 ≡ record { refusal = 2; value = 0; next = 0 }
  pub spaced_read : spaced_outcome (text "A 800 6100") 1 ≡ record { refusal = 0; value = 800; next = 5 }
  pub space_missing : spaced_outcome (text "A800 6100") 1 ≡ record { refusal = 2; value = 0; next = 0 }
  pub spaced_refused : spaced_outcome (text "A 0800 6100") 1 ≡ record { refusal = 2; value = 0; next = 0 }
  -- not of the form: spaces, other bytes, the count of numbers, the letter, an empty line
  pub two_spaces : command_of (text "A 800  6100") ≡ Refuse 2
  pub number_missing : command_of (text "A 800 ") ≡ Refuse 2
  pub space_at_end : command_of (text "A 800 6100 ") ≡ Refuse 2
  pub no_space : command_of (text "A800 6100") ≡ Refuse 2
  pub tab : command_of (text "A\t800 6100") ≡ Refuse 2
  pub below_digits : command_of (text "A 80/ 6100") ≡ Refuse 2
  pub above_digits : command_of (text "A 80: 6100") ≡ Refuse 2
  pub other_byte : command_of (text "A 800 6100x") ≡ Refuse 2
  pub other_count : command_of (text "A 800") ≡ Refuse 2
  pub seven_numbers : command_of (text "S 1 2 3 4 5 6 7") ≡ Refuse 2
  pub nine_numbers : command_of (text "S 1 2 3 4 5 6 7 8 9") ≡ Refuse 2
  pub three_standards : command_of (text "A 800 6100 1") ≡ Refuse 2
  pub number_after_declaration : command_of (text "X 1") ≡ Refuse 2
  pub number_after_marks : command_of (text "L 1") ≡ Refuse 2
  pub number_after_deletion : command_of (text "Z 1") ≡ Refuse 2
  pub number_after_period : command_of (text "P 1") ≡ Refuse 2
  pub other_letter : command_of (text "Y 1") ≡ Refuse 2
  pub letter_alone : command_of (text "Y") ≡ Refuse 2
  pub small_letter : command_of (text "p") ≡ Refuse 2
  pub small_deletion : command_of (text "z") ≡ Refuse 2
  pub small_preview : command_of (text "t 1 998000 5000000") ≡ Refuse 2
  pub empty_line : command_of [] ≡ Refuse 2
  -- 64 bytes are read, 65 are not
  pub bytes64 : command_of (text "E 1 11111111 11111111 11111111 11111111 11111111 11111111 2222 3")
      ≡ Make (Enter (EnterEngine 1 (record { hcnox = 11111111 ∷ 11111111 ∷ 11111111 ∷ 11111111 ∷ []; co = 11111111 ∷ 11111111 ∷ 2222 ∷ 3 ∷ [] })))
  pub previewed64 : command_of (text "T 1 11111111 11111111 11111111 11111111 11111111 11111111 2222 3")
      ≡ Make (Ask (Preview 1 (record { hcnox = 11111111 ∷ 11111111 ∷ 11111111 ∷ 11111111 ∷ []; co = 11111111 ∷ 11111111 ∷ 2222 ∷ 3 ∷ [] })))
  pub previewed65 : command_of (text "T 1 11111111 11111111 11111111 11111111 11111111 11111111 2222 33") ≡ Refuse 1
  pub bytes65 : command_of (text "E 1 11111111 11111111 11111111 11111111 11111111 11111111 2222 33") ≡ Refuse 1
  -- the newline may be missing at the end of the input, and only there
  pub two_lines : lines_of (text "P\nX") ≡ text "P" ∷ text "X" ∷ []
  pub three_lines : lines_of (text "P\n\nX\n") ≡ text "P" ∷ [] ∷ text "X" ∷ []
  pub empty_last : lines_of (text "P\n\n") ≡ text "P" ∷ [] ∷ []
  -- replies that do not occur in the run below
  pub four_digits : decimal 1234 ≡ text "1234"
  pub refused_by_16 : refusal_reply 16 ≡ text "NO 16"
  pub no_marks : marks_reply [] ≡ text "OK"
  pub two_tested : status_reply (record { n = 2; verdict = 1; figures = record { hcnox = marked Undecided (Some 30); co = marked Under None } }) ≡ text "OK 2 1 ?U 30 -"
  -- a line that is too long "is dropped up to its newline": 70 bytes, and then a declaration, on a journal that is all zero
  pub long_line : run (replicate 70 (byte "X") ++ text "\nX\n") ≡ text "NO 1\nNO 7\n"
  -- document 01, "Input and print of a whole run"
  pub document_run : run (text "S 5000 365 800 6100 0 0 0 0\nE 1 998000 5000000\nE 2 1071000 5000000\nE 3 900000 5000000\nL\nX\nE 4 1 1\n")
      ≡ text "OK 0 0 -- - -\nOK 1 0 -- - -\nOK 2 1 ?U 30 10\nOK 3 1 UU 28 10\nOK --?UUU\nOK 3 7 UU 28 10\nNO 8\n"
  -- document 02, W-202: document 01's run, each engine asked about before it is entered; then a number again, and a closed year
  pub preview_run : run (text "S 5000 365 800 6100 0 0 0 0\nT 1 998000 5000000\nE 1 998000 5000000\nT 2 1071000 5000000\nE 2 1071000 5000000\nT 3 900000 5000000\nE 3 900000 5000000\nT 3 900000 5000000\nL\nX\nT 4 1 1\n")
      ≡ text "OK 0 0 -- - -\nOK 1 0 -- - -\nOK 1 0 -- - -\nOK 2 1 ?U 30 10\nOK 2 1 ?U 30 10\nOK 3 1 UU 28 10\nOK 3 1 UU 28 10\nNO 10\nOK --?UUU\nOK 3 7 UU 28 10\nNO 8\n"
  -- lines of key T, whether they can be read or not, and lines that only begin alike
  pub previews_out : without_preview_lines (text "T 1 998000 5000000" ∷ text "L" ∷ text "T" ∷ [] ∷ text "Tx" ∷ text "t 1" ∷ text " T" ∷ text "E 1 998000 5000000" ∷ [])
      ≡ text "L" ∷ [] ∷ text "t 1" ∷ text " T" ∷ text "E 1 998000 5000000" ∷ []
  pub previews_replied : other_replies (zeros 544) (text "T 1 1 1" ∷ text "X" ∷ text "T" ∷ text "Y" ∷ []) ≡ text "NO 7" ∷ text "NO 2" ∷ []
  -- document 02, W-201: a strike with no engine, an engine, its strike, no marks, the same engine again
  pub struck_run : run (text "S 5000 365 800 6100 0 0 0 0\nZ\nE 1 998000 5000000\nZ\nL\nE 1 998000 5000000\n")
      ≡ text "OK 0 0 -- - -\nNO 17\nOK 1 0 -- - -\nOK 0 0 -- - -\nOK\nOK 1 0 -- - -\n"

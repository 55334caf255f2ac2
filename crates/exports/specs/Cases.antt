-- Worked cases of an answer as numbers: the status after document 01's second engine ("Cases on the edges"; the whole run), and that of a refusal; and of the
-- exported functions, at the slice sizes that include/plt.h names.
use Rattle.std.specs.Prelude.{◌≡◌, [], ◌∷◌, ◌++◌, replicate, Some}
use Rattle.buffers.specs.Bytes.{zeros}
use Rattle.ascii.specs.Text.{byte, text}
use Rattle.cumsum.specs.declared.Mark.TheVariants.{Under, Undecided}
use Rattle.year.specs.declared.Status.{Status}
use Rattle.year.specs.declared.Event.TheVariants.{Declaration}
use Rattle.year.specs.Cases.{setup_of, engine, only_sum}
use Rattle.journal.specs.Encode.{encode}
use Rattle.reference.specs.Call.{ReadStatus, Ask}
use Rattle.reference.specs.Answers.{no_status}
use Rattle.reference.specs.Cases.{engine_one}
use Rattle.reference.specs.CasesOfPreview.{preview_one}
use Rattle.exports.specs.Numbers.{status_numbers}
use Rattle.exports.specs.Exports.{reply_count, reply_left, line_left, refusal_given, figures_left, journal_left}

-- "s 52,857, e 1, C 1,057,158 to 1,057,159, H 1,057,140 to 1,057,160, mark '?'", and "OK 2 1 ?U 30 10"
abbrev pub second : Status
second =
    record {
      n = 2;
      verdict = 1;
      figures =
          record {
            hcnox = record {
              sum = 2069;
              deviation = record { floor = 52857; inexact = 1 };
              cumsum = record { low = 1057158; high = 1057159 };
              limit = record { low = 1057140; high = 1057160 };
              size = Some 30;
              mark = Undecided;
            };
            co = record {
              sum = 10000;
              deviation = record { floor = 0; inexact = 0 };
              cumsum = record { low = 0; high = 0 };
              limit = record { low = 0; high = 0 };
              size = Some 10;
              mark = Under;
            };
          };
    }

pub record Cases : Type 0 where
  pub second_numbers : status_numbers second
      ≡ 2 ∷ 1 ∷ 2069 ∷ 52857 ∷ 1 ∷ 1057158 ∷ 1057159 ∷ 1057140 ∷ 1057160 ∷ 30 ∷ byte "?" ∷ 10000 ∷ 0 ∷ 0 ∷ 0 ∷ 0 ∷ 0 ∷ 0 ∷ 10 ∷ byte "U" ∷ []
  -- "every other figure of the answer zero, marks '-', N absent"
  pub refused_numbers : status_numbers no_status
      ≡ 0 ∷ 0 ∷ 0 ∷ 0 ∷ 0 ∷ 0 ∷ 0 ∷ 0 ∷ 0 ∷ 0 ∷ byte "-" ∷ 0 ∷ 0 ∷ 0 ∷ 0 ∷ 0 ∷ 0 ∷ 0 ∷ 0 ∷ byte "-" ∷ []
  -- on an empty journal, where every call is refused by 3: "NO 3" with 96 bytes of output, and nothing with 95
  pub replied : reply_count (text "X") [] (zeros 96) ≡ 4
  pub short_output : reply_count (text "X") [] (zeros 95) ≡ 0
  pub reply_at_front : reply_left (text "X") [] (zeros 96) ≡ text "NO 3" ++ zeros 92
  pub reply_kept : reply_left (text "X") [] (zeros 95) ≡ zeros 95
  -- a declaration keyed with 96 bytes for its reply, and with 95, where nothing is done
  pub line_done : line_left (text "X") (encode 1 (setup_of 5000 800) []) (zeros 96) ≡ encode 1 (setup_of 5000 800) (Declaration ∷ [])
  pub line_not_done : line_left (text "X") (encode 1 (setup_of 5000 800) []) (zeros 95) ≡ encode 1 (setup_of 5000 800) []
  -- room for twenty figures, and for nineteen
  pub given : refusal_given (Ask ReadStatus) [] (zeros 20) ≡ 3
  pub few_figures : refusal_given (Ask ReadStatus) [] (zeros 19) ≡ 255
  pub figures_at_front : figures_left (Ask ReadStatus) [] (replicate 20 7) ≡ status_numbers no_status
  pub figures_kept : figures_left (Ask ReadStatus) [] (replicate 19 7) ≡ replicate 19 7
  -- an accepted engine is in the journal; with room for nineteen figures nothing is done
  pub entered : journal_left engine_one (encode 1 (setup_of 5000 800) []) (zeros 20) ≡ encode 1 (setup_of 5000 800) (engine 1 998 ∷ [])
  pub not_entered : journal_left engine_one (encode 1 (setup_of 5000 800) []) (zeros 19) ≡ encode 1 (setup_of 5000 800) []
  -- the same engine asked about (document 02, W-202): accepted, with the figures that the entry leaves
  pub asked : refusal_given preview_one (encode 1 (setup_of 5000 800) []) (zeros 20) ≡ 0
  pub figures_asked : figures_left preview_one (encode 1 (setup_of 5000 800) []) (zeros 20)
      ≡ status_numbers (record { n = 1; verdict = 0; figures = record { hcnox = only_sum 998; co = only_sum 5000 } })

-- Worked lines of the wall page. (`decimal n` computes through n + 1 steps, so the figures are small.) Events are listed with the newest first.
use Rattle.std.specs.Prelude.{◌≡◌, [], ◌∷◌, ◌++◌}
use Rattle.ascii.specs.Text.{byte, text}
use Rattle.year.specs.declared.Event.TheVariants.{Deletion}
use Rattle.year.specs.Replay.{replay}
use Rattle.year.specs.Cases.{pair, setup_of, engine}
use Rattle.report.specs.declared.Row.{Row}
use Rattle.report.specs.Report.{head_line, row_line, head_of, report}
use Rattle.report.specs.Shown.{line_at, read_head, read_row}

abbrev pub row7 : Row
row7 =
    record {
      number = 7;
      results = pair 812 6100;
      cumsum = record { hcnox = record { low = 0; high = 4096 }; co = record { low = 1024; high = 12288 } };
      marks = record { hcnox = byte "O"; co = byte "?" };
    }

pub record Cases : Type 0 where
  -- the printed run's setup has one period, a volume of 1,600 over 366 days four
  pub head_of_5000 : head_line (head_of (setup_of 5000 800)) ≡ text "    50003654                                                \n"
  pub line_of_7 : row_line row7 ≡ text "    7  812 6100         0      4096      1024     12288O?   \n"
  -- with no engine the page is its head line
  pub page_of_none : report (replay (setup_of 5000 800) []) ≡ head_line (head_of (setup_of 5000 800))
  -- C is 0 and the marks are '-' at engine 1
  pub page_of_one : report (replay (setup_of 5000 800) (engine 1 998 ∷ []))
      ≡ text "    50003654                                                \n    1  998 5000         0         0         0         0--   \n"
  -- in the order of entry, C at each engine: with X 801 three times under 800, s is 0, and C rises by 4 × 1,024 × 1 at engines 2 and 3; for CO it stays 0
  pub page_of_three : report (replay (setup_of 5000 800) (engine 3 801 ∷ engine 2 801 ∷ engine 1 801 ∷ []))
      ≡ text "    50003654                                                \n"
      ++ text "    1  801 5000         0         0         0         0--   \n"
      ++ text "    2  801 5000      4096      4096         0         0OU   \n"
      ++ text "    3  801 5000      8192      8192         0         0OU   \n"
  -- "per remaining engine": a struck engine has no line
  pub page_of_remaining : report (replay (setup_of 5000 800) (engine 9 801 ∷ Deletion ∷ engine 2 500 ∷ engine 1 801 ∷ []))
      ≡ text "    50003654                                                \n"
      ++ text "    1  801 5000         0         0         0         0--   \n"
      ++ text "    9  801 5000      4096      4096         0         0OU   \n"
  -- read by position
  pub head_read : read_head (text "    50003654                                                \n") ≡ head_of (setup_of 5000 800)
  pub row_read : read_row (text "    7  812 6100         0      4096      1024     12288O?   \n") ≡ row7
  pub second_line : line_at 1 (text "    50003654                                                \n    1  998 5000         0         0         0         0--   \n")
      ≡ text "    1  998 5000         0         0         0         0--   \n"

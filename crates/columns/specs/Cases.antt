-- Worked cases of columns and lines. (`decimal n` computes through n + 1 steps, so the figures are small.)
use Rattle.std.specs.Prelude.{◌≡◌, [], ◌∷◌, length}
use Rattle.ascii.specs.Text.{byte, text}
use Rattle.ascii.specs.Decimal.{decimal}
use Rattle.columns.specs.Columns.{column, figure, line, text_at, figure_at}

pub record Cases : Type 0 where
  -- right-aligned, also 0; a figure may fill its column, and an empty column is spaces
  pub column_of_0 : column 5 (decimal 0) ≡ text "    0"
  pub column_of_812 : column 5 (decimal 812) ≡ text "  812"
  pub full_column : column 3 (decimal 365) ≡ text "365"
  pub empty_column : column 5 [] ≡ text "     "
  -- columns abut, and the rest of the 60 bytes is spaces
  pub line_of_three : line (figure 8 5000 ∷ figure 3 365 ∷ figure 1 4 ∷ []) ≡ text "    50003654                                                \n"
  pub size_of_none : length (line []) ≡ 61
  -- read by position: neighbours that touch, and a mark
  pub first_read : figure_at (text "    50003654") 0 8 ≡ 5000
  pub second_read : figure_at (text "    50003654") 8 3 ≡ 365
  pub zero_read : figure_at (text "    0    7") 0 5 ≡ 0
  pub mark_read : text_at (text "12288O?") 5 1 ≡ byte "O" ∷ []

-- Worked cases of text and of decimal numbers.
use Rattle.std.specs.Prelude.{◌≡◌, true, false, [], ◌∷◌, map}
use Rattle.ascii.specs.Text.{byte, text}
use Rattle.ascii.specs.Decimal.{is_digit, digits, spelt, decimal}

pub record Cases : Type 0 where
  -- ASCII
  pub text_of_plt : text "PLT" ≡ 80 ∷ 76 ∷ 84 ∷ []
  pub byte_of_space : byte " " ≡ 32
  -- a number's digits, with no leading zero except in 0 itself; how many digits the bytes start with, and the number that digits spell
  pub four_digits : decimal 1234 ≡ text "1234"
  pub zero : decimal 0 ≡ text "0"
  pub one_digit : decimal 9 ≡ text "9"
  pub two_digits : decimal 10 ≡ text "10"
  pub digit_bytes : map is_digit (byte "/" ∷ byte "0" ∷ byte "9" ∷ byte ":" ∷ []) ≡ false ∷ true ∷ true ∷ false ∷ []
  pub digits_before : digits (text "365 8") ≡ 3
  pub digits_to_the_end : digits (text "365") ≡ 3
  pub spelt365 : spelt 0 (text "365") ≡ 365
